-- The marks of LAMBDAs, and of every variable that isn't assigned, are those of the argument: an assigned variable loses its own mark, on
-- which no other one hangs.
use Rattle.std.specs.List.{AllByRecursion, flat_map, list_any}
use Rattle.std.specs.Option.{option_map_or}
use Rattle.std.specs.Prelude.{filter}
use Rattle.std.proofs.Common.{◌≡◌, ℕ, zero, suc, ◌==◌, ◌&&◌, ◌||◌, Bool, true, false, not, cond, if◌then◌else◌, List, [], ◌∷◌, ◌++◌, length, map, slice_get, refl, sym, ap, ◌∙◌, subst}
use Rattle.std.proofs.lemmas.Bool.{eqb-true, true≢false}
use Rattle.std.proofs.lemmas.List.Folds.{list_any-append}
use Rattle.std.proofs.lemmas.Grind.{flat_map-append}
use Rattle.t_base.specs.declared.basics.Var.{Var}
use Rattle.escape_marks.specs.Subjects.{Subject, Lambda, Local, Global, is_same, is_lambda, is_in, MarkSet}
use Rattle.escape_marks.specs.Rounds.{repeated}
use Rattle.escape_marks.specs.Facts.{Role, Operator, Operand, ValueOf, Assigned, Other, Occurrence, Abstraction, Known, Reach, Facts, stands_as, is_known}
use Rattle.escape_marks.specs.Rules.{keeps_operand, keeps_lambda, keeps_name, escapes_by_a_rule, marks, marks_of}
use Rattle.escape_marks.specs.Inventories.{Inventory, is_assignment, known_by, known_names, reached_from, facts_from}
use Rattle.escape_marks.proofs.RoundLemmas.{same_is}
use Rattle.cps_ir.proofs.ProperLists.{each_append, each_more, each_of, each_joined}

-- ---- lists

any_same : {X : Type 0} (p q : X → Bool) (xs : List X) → AllByRecursion (λ x. p x ≡ q x) xs → list_any p xs ≡ list_any q xs
any_same p q [] h = refl
any_same p q (x ∷ xs) h = ap (λ b. b || list_any p xs) h.0 ∙ ap (λ b. q x || b) (any_same p q xs h.1)

-- ---- subjects apart from the assigned variables

module _ (assigned : ℕ → Bool) where
  abbrev pub IsApart : Subject → Type 0
  IsApart s = (x : ℕ) → assigned x ≡ true → is_same s (Local (record { 0 = x })) ≡ false

  pub lambda_apart : (part place : ℕ) → IsApart (Lambda part place)
  lambda_apart part place x e = refl

  pub global_apart : (g : ℕ) → IsApart (Global g)
  global_apart g x e = refl

  pub local_apart : (v : Var) → assigned v.0 ≡ false → IsApart (Local v)
  local_apart v h x e = by_test (v.0 == x) refl
    where
      by_test : (b : Bool) → (v.0 == x) ≡ b → b ≡ false
      by_test true q = absurd (true≢false (sym e ∙ ap assigned (sym (eqb-true v.0 x q)) ∙ h))
      by_test false q = refl

  abbrev RoleApart : Role → Type 0
  RoleApart (ValueOf name) = IsApart name
  RoleApart _ = Unit {0}

  -- the subject isn't an assigned variable, or has no value
  abbrev pub ValueApart : Occurrence → Type 0
  ValueApart o = RoleApart o.role

  -- ---- two inventories that differ in the occurrences of assigned variables alone

  pub record Fewer (more less : List Occurrence) : Type 0 where
    pub stands : (test : Role → Bool) (s : Subject) → IsApart s → stands_as less test s ≡ stands_as more test s
    pub known : (less' more' : List Occurrence) (abstractions : List Abstraction)
        → ((s : Subject) (r : Role) → RoleApart r → known_by less' abstractions s r ≡ known_by more' abstractions s r)
        → flat_map (λ o. known_by less' abstractions o.subject o.role) less ≡ flat_map (λ o. known_by more' abstractions o.subject o.role) more
    pub apart : AllByRecursion ValueApart more

  pub none_fewer : Fewer [] []
  none_fewer = record { stands = λ test s h. refl; known = λ l m xs h. refl; apart = tt }

  pub same_fewer : (os : List Occurrence) → AllByRecursion ValueApart os → Fewer os os
  same_fewer os h = record { stands = λ test s k. refl; known = λ l m xs k. by_list l m xs k os h; apart = h }
    where
      by_list : (l m : List Occurrence) (xs : List Abstraction) → ((s : Subject) (r : Role) → RoleApart r → known_by l xs s r ≡ known_by m xs s r) → (os : List Occurrence) → AllByRecursion ValueApart os
          → flat_map (λ o. known_by l xs o.subject o.role) os ≡ flat_map (λ o. known_by m xs o.subject o.role) os
      by_list l m xs k [] h = refl
      by_list l m xs k (o ∷ os) h = ap (λ ks. ks ++ flat_map (λ o. known_by l xs o.subject o.role) os) (k o.subject o.role h.0) ∙ ap (λ ks. known_by m xs o.subject o.role ++ ks) (by_list l m xs k os h.1)

  abbrev IsPlain : Role → Type 0
  IsPlain Assigned = Unit {0}
  IsPlain Other = Unit {0}
  IsPlain _ = ⊥

  -- an occurrence of an assigned variable that is read or assigned
  pub one_fewer : (x : ℕ) (role : Role) → assigned x ≡ true → IsPlain role → Fewer (record { subject = Local (record { 0 = x }); role = role } ∷ []) []
  one_fewer x role e plain = record {
    stands = λ test s h. sym (ap (λ b. (b && test role) || false) (h x e));
    known = λ l m xs h. by_role role plain m xs;
    apart = (by_apart role plain, tt);
  }
    where
      by_role : (r : Role) → IsPlain r → (m : List Occurrence) (xs : List Abstraction) → [] ≡ known_by m xs (Local (record { 0 = x })) r ++ []
      by_role Assigned p m xs = refl
      by_role Other p m xs = refl
      by_role Operator p m xs = absurd p
      by_role (Operand callee place tail) p m xs = absurd p
      by_role (ValueOf name) p m xs = absurd p

      by_apart : (r : Role) → IsPlain r → RoleApart r
      by_apart Assigned p = tt
      by_apart Other p = tt
      by_apart Operator p = absurd p
      by_apart (Operand callee place tail) p = absurd p
      by_apart (ValueOf name) p = absurd p

  pub joined_fewer : (m l n k : List Occurrence) → Fewer m l → Fewer n k → Fewer (m ++ n) (l ++ k)
  joined_fewer m l n k h g = record {
    stands = λ test s a. list_any-append (λ o. is_same s o.subject && test o.role) l k ∙ ap (λ b. b || stands_as k test s) (h.stands test s a) ∙ ap (λ b. stands_as m test s || b) (g.stands test s a)
        ∙ sym (list_any-append (λ o. is_same s o.subject && test o.role) m n);
    known = λ less more xs e. flat_map-append (λ o. known_by less xs o.subject o.role) l k ∙ ap (λ ks. ks ++ flat_map (λ o. known_by less xs o.subject o.role) k) (h.known less more xs e)
        ∙ ap (λ ks. flat_map (λ o. known_by more xs o.subject o.role) m ++ ks) (g.known less more xs e) ∙ sym (flat_map-append (λ o. known_by more xs o.subject o.role) m n);
    apart = each_append ValueApart m n h.apart g.apart;
  }

  -- ---- known names

  module _ (more less : List Occurrence) (fewer : Fewer more less) (abstractions : List Abstraction) where
    known_by_same : (s : Subject) (r : Role) → RoleApart r → known_by less abstractions s r ≡ known_by more abstractions s r
    known_by_same s (ValueOf name) h = ap (λ b. if b then [] else map (λ a. record { name = name; abstraction = a }) (filter (λ a. is_same s a.lambda) abstractions)) (fewer.stands is_assignment name h)
    known_by_same s Operator h = refl
    known_by_same s (Operand callee place tail) h = refl
    known_by_same s Assigned h = refl
    known_by_same s Other h = refl

    pub known_same : known_names less abstractions ≡ known_names more abstractions
    known_same = fewer.known less more abstractions known_by_same

  -- ---- the rules

  abbrev pub KnownApart : Known → Type 0
  KnownApart k = IsApart k.name × AllByRecursion IsApart k.abstraction.params

  abbrev pub lesser : Facts → List Occurrence → Facts
  lesser facts less = record { subjects = facts.subjects; params = facts.params; occurrences = less; known = facts.known; lambdas = facts.lambdas; methods = facts.methods }

  module _ (facts : Facts) (less : List Occurrence) (fewer : Fewer facts.occurrences less) (known : AllByRecursion KnownApart facts.known) (lambdas : AllByRecursion (λ l. IsApart l.lambda) facts.lambdas) where
    module _ (n m : MarkSet) (agree : (s : Subject) → IsApart s → n s ≡ m s) where
      param_same : (ps : List Subject) (place : ℕ) → AllByRecursion IsApart ps → option_map_or (λ p. not (n p)) (slice_get ps place) false ≡ option_map_or (λ p. not (m p)) (slice_get ps place) false
      param_same [] place h = refl
      param_same (p ∷ ps) zero h = ap not (agree p h.0)
      param_same (p ∷ ps) (suc place) h = param_same ps place h.1

      operand_same : (callee : Subject) (place : ℕ) → keeps_operand (lesser facts less) n callee place ≡ keeps_operand facts m callee place
      operand_same callee place =
          any_same (λ k. is_same callee k.name && option_map_or (λ p. not (n p)) (slice_get k.abstraction.params place) false) (λ k. is_same callee k.name && option_map_or (λ p. not (m p)) (slice_get k.abstraction.params place) false) facts.known
          (each_more KnownApart (λ k. (is_same callee k.name && option_map_or (λ p. not (n p)) (slice_get k.abstraction.params place) false) ≡ (is_same callee k.name && option_map_or (λ p. not (m p)) (slice_get k.abstraction.params place) false)) facts.known
          (λ k h. ap (λ b. is_same callee k.name && b) (param_same k.abstraction.params place h.1)) known)

      lambda_same : (r : Role) → keeps_lambda (lesser facts less) n r ≡ keeps_lambda facts m r
      lambda_same Operator = refl
      lambda_same (ValueOf name) = refl
      lambda_same (Operand callee place tail) = ap (λ b. not tail && b) (operand_same callee place)
      lambda_same Assigned = refl
      lambda_same Other = refl

      name_same : (s : Subject) (r : Role) → keeps_name (lesser facts less) n s r ≡ keeps_name facts m s r
      name_same s Operator = refl
      name_same s (ValueOf name) = refl
      name_same s (Operand callee place tail) = ap (λ b. not (tail && is_known facts s) && b) (operand_same callee place)
      name_same s Assigned = refl
      name_same s Other = refl

      stands_same : (os : List Occurrence) (p q : Role → Bool) (s : Subject) → ((r : Role) → p r ≡ q r) → stands_as os p s ≡ stands_as os q s
      stands_same os p q s e = any_same (λ o. is_same s o.subject && p o.role) (λ o. is_same s o.subject && q o.role) os (each_of (λ o. (is_same s o.subject && p o.role) ≡ (is_same s o.subject && q o.role)) os (λ o. ap (λ b. is_same s o.subject && b) (e o.role)))

      rule_same : (s : Subject) → IsApart s → escapes_by_a_rule (lesser facts less) n s ≡ escapes_by_a_rule facts m s
      rule_same s h =
          let by_place = ap (λ b. is_lambda s && b) (fewer.stands (λ r. not (keeps_lambda (lesser facts less) n r)) s h ∙ stands_same facts.occurrences (λ r. not (keeps_lambda (lesser facts less) n r)) (λ r. not (keeps_lambda facts m r)) s (λ r. ap not (lambda_same r))) in
          let by_use = ap (λ b. not (is_lambda s) && b) (fewer.stands (λ r. not (keeps_name (lesser facts less) n s r)) s h ∙ stands_same facts.occurrences (λ r. not (keeps_name (lesser facts less) n s r)) (λ r. not (keeps_name facts m s r)) s (λ r. ap not (name_same s r))) in
          let by_reach = ap (λ b. is_in facts.params s && (list_any (λ reached. is_in reached s) facts.methods || b))
          (any_same (λ l. n l.lambda && is_in l.reached s) (λ l. m l.lambda && is_in l.reached s) facts.lambdas
          (each_more (λ l. IsApart l.lambda) (λ l. (n l.lambda && is_in l.reached s) ≡ (m l.lambda && is_in l.reached s)) facts.lambdas (λ l k. ap (λ b. b && is_in l.reached s) (agree l.lambda k)) lambdas)) in
          let by_name = ap (λ b. is_lambda s && b)
          (any_same (λ k. is_same s k.abstraction.lambda && n k.name) (λ k. is_same s k.abstraction.lambda && m k.name) facts.known
          (each_more KnownApart (λ k. (is_same s k.abstraction.lambda && n k.name) ≡ (is_same s k.abstraction.lambda && m k.name)) facts.known (λ k j. ap (λ b. is_same s k.abstraction.lambda && b) (agree k.name j.0)) known)) in
          four by_place by_use by_reach by_name
        where
          four : {a b c d a' b' c' d' : Bool} → a ≡ a' → b ≡ b' → c ≡ c' → d ≡ d' → (a || b || c || d) ≡ (a' || b' || c' || d')
          four p q r t = cc

    -- ---- rounds

    filter_same : (p q : Subject → Bool) (xs : List Subject) (s : Subject) → IsApart s → ((t : Subject) → IsApart t → p t ≡ q t) → is_in (filter p xs) s ≡ is_in (filter q xs) s
    filter_same p q [] s h e = refl
    filter_same p q (x ∷ xs) s h e = by_test (is_same s x) refl (filter_same p q xs s h e)
      where
        apart_too : (c d : Bool) → is_same s x ≡ false → is_in (filter p xs) s ≡ is_in (filter q xs) s → is_in (cond c (x ∷ filter p xs) (filter p xs)) s ≡ is_in (cond d (x ∷ filter q xs) (filter q xs)) s
        apart_too true true z r = ap (λ b. is_same s x || b) r
        apart_too true false z r = ap (λ b. b || is_in (filter p xs) s) z ∙ r
        apart_too false true z r = r ∙ sym (ap (λ b. b || is_in (filter q xs) s) z)
        apart_too false false z r = r

        same_too : (c d : Bool) → c ≡ d → is_in (filter p xs) s ≡ is_in (filter q xs) s → is_in (cond c (x ∷ filter p xs) (filter p xs)) s ≡ is_in (cond d (x ∷ filter q xs) (filter q xs)) s
        same_too true true z r = ap (λ b. is_same s x || b) r
        same_too false false z r = r
        same_too true false z r = absurd (true≢false z)
        same_too false true z r = absurd (true≢false (sym z))

        by_test : (c : Bool) → is_same s x ≡ c → is_in (filter p xs) s ≡ is_in (filter q xs) s → is_in (cond (p x) (x ∷ filter p xs) (filter p xs)) s ≡ is_in (cond (q x) (x ∷ filter q xs) (filter q xs)) s
        by_test true z r = same_too (p x) (q x) (e x (subst IsApart (same_is s x z) h)) r
        by_test false z r = apart_too (p x) (q x) z r

    pub rounds_same : (k : ℕ) (s : Subject) → IsApart s → is_in (marks k (lesser facts less)) s ≡ is_in (marks k facts) s
    unfolding repeated
    rounds_same zero s h = refl
    rounds_same (suc k) s h =
        filter_same (escapes_by_a_rule (lesser facts less) (is_in (marks k (lesser facts less)))) (escapes_by_a_rule facts (is_in (marks k facts))) facts.subjects s h
        (λ t j. rule_same (is_in (marks k (lesser facts less))) (is_in (marks k facts)) (rounds_same k) t j)

  -- ---- facts from inventories

  abbrev pub AbstractionApart : Abstraction → Type 0
  AbstractionApart y = IsApart y.lambda × AllByRecursion IsApart y.params

  abbrev pub fewer_in : Inventory → List Occurrence → Inventory
  fewer_in program less = record { abstractions = program.abstractions; names = program.names; params = program.params; occurrences = less; method_frees = program.method_frees }

  module _ (program : Inventory) (less : List Occurrence) (fewer : Fewer program.occurrences less) (apart : AllByRecursion AbstractionApart program.abstractions) where
    facts_same : facts_from (fewer_in program less) ≡ lesser (facts_from program) less
    facts_same =
        ap {A = List Known} {B = Facts}
        (λ known. record {
          subjects = map (λ y. y.lambda) program.abstractions ++ program.names;
          params = map Local program.params;
          occurrences = less;
          known = known;
          lambdas = map (λ y. record { lambda = y.lambda; reached = reached_from known program.names y.free }) program.abstractions;
          methods = map (reached_from known program.names) program.method_frees;
        })
        (known_same program.occurrences less fewer program.abstractions)

    filtered : (p : Abstraction → Bool) (name : Subject) (xs : List Abstraction) → IsApart name → AllByRecursion AbstractionApart xs → AllByRecursion KnownApart (map (λ y. record { name = name; abstraction = y }) (filter p xs))
    filtered p name [] h k = tt
    filtered p name (x ∷ xs) h k = by_test (p x) (filtered p name xs h k.1)
      where
        by_test : (c : Bool) → AllByRecursion KnownApart (map (λ y. record { name = name; abstraction = y }) (filter p xs)) → AllByRecursion KnownApart (map (λ y. record { name = name; abstraction = y }) (cond c (x ∷ filter p xs) (filter p xs)))
        by_test true r = ((h, k.0.1), r)
        by_test false r = r

    known_apart_by : (o : Occurrence) → ValueApart o → AllByRecursion KnownApart (known_by program.occurrences program.abstractions o.subject o.role)
    known_apart_by o h = by_role o.role h
      where
        by_role : (r : Role) → RoleApart r → AllByRecursion KnownApart (known_by program.occurrences program.abstractions o.subject r)
        by_role (ValueOf name) k = by_test (stands_as program.occurrences is_assignment name)
          where
            by_test : (c : Bool) → AllByRecursion KnownApart (if c then [] else map (λ y. record { name = name; abstraction = y }) (filter (λ y. is_same o.subject y.lambda) program.abstractions))
            by_test true = tt
            by_test false = filtered (λ y. is_same o.subject y.lambda) name program.abstractions k apart
        by_role Operator k = tt
        by_role (Operand callee place tail) k = tt
        by_role Assigned k = tt
        by_role Other k = tt

    known_apart : AllByRecursion KnownApart (facts_from program).known
    known_apart = each_joined (λ o. known_by program.occurrences program.abstractions o.subject o.role) KnownApart program.occurrences (each_more ValueApart (λ o. AllByRecursion KnownApart (known_by program.occurrences program.abstractions o.subject o.role)) program.occurrences known_apart_by fewer.apart)

    lambdas_apart : AllByRecursion (λ l. IsApart l.lambda) (facts_from program).lambdas
    lambdas_apart = by_list program.abstractions apart
      where
        by_list : (xs : List Abstraction) → AllByRecursion AbstractionApart xs → AllByRecursion (λ (l : Reach). IsApart l.lambda) (map (λ y. record { lambda = y.lambda; reached = reached_from (known_names program.occurrences program.abstractions) program.names y.free }) xs)
        by_list [] h = tt
        by_list (x ∷ xs) h = (h.0.0, by_list xs h.1)

    -- each subject apart from the assigned variables is marked in both or in neither
    pub marks_same : (s : Subject) → IsApart s → is_in (marks_of (facts_from (fewer_in program less))) s ≡ is_in (marks_of (facts_from program)) s
    marks_same s h =
        ap (λ facts. is_in (marks_of facts) s) facts_same ∙ rounds_same (facts_from program) less fewer known_apart lambdas_apart (length (facts_from program).subjects) s h
