-- What a procedure reaches is what the marks take it to reach.
use Rattle.std.specs.Prelude.{IsSomeAnd}
use Rattle.std.specs.List.{AllByRecursion, filter, flat_map, filter_map, list_any, enumerate_from}
use Rattle.std.specs.Option.{option_map, option_map_or}
use Rattle.std.proofs.Common.{◌≡◌, ℕ, ◌+◌, ◌≤◌, ◌<◌, ◌==◌, nat_lt, Bool, true, false, ◌&&◌, ◌||◌, if◌then◌else◌, List, [], ◌∷◌, ◌++◌, length, map, zip, slice_get, Option, Some, None, refl, sym, ap, ◌∙◌, subst, arith}
use Rattle.std.proofs.lemmas.Bool.{true≢false, false≢true, eqb-true, and_parts, ltb-true}
use Rattle.t_base.specs.declared.basics.Var.{Var}
use Rattle.escape_marks.specs.Subjects.{Subject, Lambda, Local, Global, is_same, MarkSet}
use Rattle.escape_marks.specs.Subjects as subjects
use Rattle.escape_marks.specs.Facts.{Role, ValueOf, Assigned, Operator, Operand, Other, Occurrence, Abstraction, Known, stands_as}
use Rattle.escape_marks.specs.Inventories.{known_by, known_names, is_assignment, is_reached_by_step}
use Rattle.escape_marks.specs.Inventories as marks
use Rattle.escape_marks.specs.Laws.{IsClosedReach}
use Rattle.escape_marks.proofs.MarkLaws.{reach_is_closed, reach_is_least}
use Rattle.escape_marks.proofs.RoundLemmas.{same_is}
use Rattle.cps_ir.specs.declared.terms.Lam.{Lam}
use Rattle.cps_ir.specs.declared.terms.Term.{Term}
use Rattle.cps_ir.specs.declared.terms.Term.TheVariants as Node
use Rattle.cps_ir.specs.declared.terms.Cps.{Cps}
use Rattle.cps_ir.specs.Parts.{first_lams, variable_of, named, lambda_at, lambdas_of, lams_of, root_lams, walked, reached_terms, reached_lams, own_binders, binders, is_assigned}
use Rattle.cps_ir.specs.Reaches.{is_in, free_in, free_in_lams, free_at, without, reached_from, reached_within, known_of}
use Rattle.cps_ir.specs.Reaches as reach
use Rattle.cps_ir.specs.Loads.{AssignsAlone, HasLoads}
use Rattle.cps_ir.specs.Whole.{IsLambda, HasNames, IsFormed}
use Rattle.cps_ir.specs.MarkFacts.{variable, lambda, occurrence, occurrences_in, named_occurrences, occurrence_of, arg_roles, procedure_globals, root_occurrences, abstraction_of, abstractions_in, lambda_places, root_abstractions, inventory_of}
use Rattle.cps_ir.proofs.ProperLists.{none_some, some_same, each_append, each_more, each_of_two, each_of_all, each_joined, each_found, there_below, each_of}
use Rattle.cps_ir.proofs.Closed.{or_left, or_right, all_of_each, formed_is_closed}
use Rattle.cps_ir.proofs.Apart.{any_or}
use Rattle.cps_ir.proofs.Inside.{in_each, each_in, reached_bound, Facts, reached_facts}
use Rattle.cps_reach.specs.ReachLaws.{marks_reach, ReachesSame, ReachesAlike}
use Rattle.cps_reach.proofs.Rounds.{in_filtered, of_filtered, closed, free_in_rounds}
use Rattle.cps_reach.proofs.Values.{ways_of, values, value_is_no_way}
use Rattle.cps_reach.proofs.Walk.{Within, FreeValued, places_valued, flat_within}
use Rattle.cps_reach.proofs.Members.{In, each_there, in_right, in_map, in_flat, in_found, in_filter, in_second, any_in, each_filter, each_mapped, each_some, enumerated, take_short, any_found}
use Rattle.cps_reach.proofs.Names.{named_values, values_are_bound, IsUse, args_used, assigned_is}

-- ---- lists of variables

no_more : (xs : List ℕ) (x : ℕ) → is_in (xs ++ []) x ≡ true → is_in xs x ≡ true
no_more [] x i = i
no_more (y ∷ xs) x i = any_or (y == x) (is_in (xs ++ []) x) (λ q. or_left (y == x) _ q) (λ r. or_right (y == x) _ (no_more xs x r)) i

one_more : (xs : List ℕ) (x : ℕ) → is_in xs x ≡ true → is_in (xs ++ []) x ≡ true
one_more [] x i = i
one_more (y ∷ xs) x i = any_or (y == x) (is_in xs x) (λ q. or_left (y == x) _ q) (λ r. or_right (y == x) _ (one_more xs x r)) i

as_variable : (xs : List ℕ) (x : ℕ) → is_in xs x ≡ true → subjects.is_in (map variable xs) (variable x) ≡ true
as_variable [] x i = i
as_variable (y ∷ xs) x i = any_or (y == x) _ (λ q. or_left (x == y) _ (same y q)) (λ r. or_right (x == y) _ (as_variable xs x r)) i
  where
    same : (y : ℕ) → (y == x) ≡ true → (x == y) ≡ true
    same y q = subst (λ z. (x == z) ≡ true) (sym (eqb-true y x q)) (grind (arith))

-- what is among variables is one of them
of_variables : (xs : List ℕ) (s : Subject) {Q : Type 0} → ((x : ℕ) → s ≡ variable x → is_in xs x ≡ true → Q) → subjects.is_in (map variable xs) s ≡ true → Q
of_variables [] s f h = absurd (false≢true h)
of_variables (y ∷ xs) s f h = any_or (is_same s (variable y)) _ (λ q. f y (same_is s (variable y) q) (or_left (y == y) _ (grind (arith)))) (λ r. of_variables xs s (λ x e i. f x e (or_right (y == x) _ i)) r) h

none_true : (b : Bool) → (b ≡ true → ⊥) → b ≡ false
none_true true f = absurd (f refl)
none_true false f = refl

-- the variables of a list are marked
abbrev marking : List ℕ → MarkSet
marking xs (Local x) = is_in xs x.0
marking xs (Global g) = false
marking xs (Lambda part place) = false

both_true : (a b : Bool) → a ≡ true → b ≡ true → (a && b) ≡ true
both_true true b e f = f
both_true false b e f = absurd (false≢true e)

either_way : (a b : Bool) → (a ≡ true → b ≡ true) → (b ≡ true → a ≡ true) → a ≡ b
either_way true b f g = sym (f refl)
either_way false true f g = g refl
either_way false false f g = refl

module _ (u : Cps) (formed : IsFormed u) (loads : HasLoads u) where
  terms : List Term
  terms = reached_terms u

  -- ---- the terms that are reached

  abbrev Located : Term → Type 0
  Located t = AllByRecursion (λ l. (lam : Lam) → lambda_at u l ≡ Some lam → Within (free_in u lam) (values u)) (lams_of t)

  located : AllByRecursion (λ r. IsSomeAnd (slice_get u.terms.items r) Located) (walked u)
  located = each_more (FreeValued u) (λ r. IsSomeAnd (slice_get u.terms.items r) Located) (walked u) (λ r h. at_option (slice_get u.terms.items r) h) (places_valued u formed)
    where
      at_option : (o : Option Term) → IsSomeAnd o (λ term. AllByRecursion (λ lam. Within (free_in u lam) (values u)) (lambdas_of u term)) → IsSomeAnd o Located
      at_option None h = h
      at_option (Some t) h = each_found (lambda_at u) (λ lam. Within (free_in u lam) (values u)) (lams_of t) h

  terms_of : (P : Term → Type 0) (ts : List ℕ) → AllByRecursion (λ r. IsSomeAnd (slice_get u.terms.items r) P) ts → AllByRecursion P (filter_map (slice_get u.terms.items) ts)
  terms_of P ts h = each_some P (slice_get u.terms.items) ts (each_more (λ r. IsSomeAnd (slice_get u.terms.items r) P) (λ r. (t : Term) → slice_get u.terms.items r ≡ Some t → P t) ts (λ r g t e. subst (λ o. IsSomeAnd o P) e g) h)

  -- what holds of a term that is reached
  record Here (t : Term) : Type 0 where
    inside : In t (reached_terms u)
    names : HasNames u t
    located : Located t
    ways : Within (ways_of t) (flat_map ways_of (reached_terms u))
    assigned : AssignsAlone u t

  here : AllByRecursion Here (reached_terms u)
  here =
      let ts = reached_terms u in
      each_of_two (λ t. (In t ts × HasNames u t) × Located t) (λ t. Within (ways_of t) (flat_map ways_of ts) × AssignsAlone u t) Here ts (λ t a b. record { inside = a.0.0; names = a.0.1; located = a.1; ways = b.0; assigned = b.1 })
      (each_of_two (λ t. In t ts × HasNames u t) Located (λ t. (In t ts × HasNames u t) × Located t) ts (λ t a b. (a, b))
      (each_of_two (λ t. In t ts) (Facts u) (λ t. In t ts × HasNames u t) ts (λ t a b. (a, b.names)) (each_there ts) (reached_facts u formed)) (terms_of Located (walked u) located))
      (each_of_two (λ t. Within (ways_of t) (flat_map ways_of ts)) (AssignsAlone u) (λ t. Within (ways_of t) (flat_map ways_of ts) × AssignsAlone u t) ts (λ t a b. (a, b)) (flat_within ways_of ts) (each_of_all (AssignsAlone u) ts loads.assigned))

  -- the LAMBDA at a place that no procedure of a global or an operation has
  placed : (l : ℕ) → IsLambda u l → (lam : Lam) × ((slice_get u.lams.items l ≡ Some lam) × (lambda_at u l ≡ Some lam))
  placed l there = by_test (nat_lt l (first_lams u)) refl
    where
      by_test : (b : Bool) → nat_lt l (first_lams u) ≡ b → (lam : Lam) × ((slice_get u.lams.items l ≡ Some lam) × ((if b then None else slice_get u.lams.items l) ≡ Some lam))
      by_test true e = let lt = ltb-true _ _ e in absurd (omega (arith, lt, there.0))
      by_test false e = let f = there_below u.lams.items l there.1 in (f.0, (f.1, f.1))

  -- ---- what is known of the marks

  record Standing (t : Term) (v : Var) (l : ℕ) (lam : Lam) : Type 0 where
    occurs : In (occurrence (lambda l) (ValueOf (Local v))) (inventory_of u).occurrences
    abstracted : In (abstraction_of u l lam) (inventory_of u).abstractions
    free : stands_as (inventory_of u).occurrences is_assignment (Local v) ≡ false

  known_standing : (t : Term) (v : Var) (l : ℕ) (lam : Lam) → Standing t v l lam → (P : Known → Bool) → P (record { name = Local v; abstraction = abstraction_of u l lam }) ≡ true
      → list_any P (known_names (inventory_of u).occurrences (inventory_of u).abstractions) ≡ true
  known_standing t v l lam s P p =
      let occurrences = (inventory_of u).occurrences in
      let abstractions = (inventory_of u).abstractions in
      let o = occurrence (lambda l) (ValueOf (Local v)) in
      let as_known = λ (a : Abstraction). let k : Known = record { name = Local v; abstraction = a } in k in
      let chosen = map as_known (filter (λ a. is_same (lambda l) a.lambda) abstractions) in
      let k = as_known (abstraction_of u l lam) in
      let inner : In k chosen = in_map as_known (abstraction_of u l lam) (filter (λ a. is_same (lambda l) a.lambda) abstractions) (in_filter (λ a. is_same (lambda l) a.lambda) (abstraction_of u l lam) abstractions s.abstracted (grind (arith))) in
      let own : In k (known_by occurrences abstractions (lambda l) (ValueOf (Local v))) = subst (λ b. In k (if b then [] else chosen)) (sym s.free) inner in
      any_in P k (known_names occurrences abstractions) (in_flat (λ r. known_by occurrences abstractions r.subject r.role) o k occurrences s.occurs own) p

  -- ---- names of a Labels

  zipped : (xs : List Var) (ys : List ℕ) → AllByRecursion (λ at. is_in (map variable_of (named xs) ++ []) at.0.0 ≡ true) (zip xs ys)
  zipped [] ys = tt
  zipped (x ∷ xs) [] = tt
  zipped (x ∷ xs) (y ∷ ys) = (or_left (x.0 == x.0) _ (grind (arith)), each_more (λ at. is_in (map variable_of (named xs) ++ []) at.0.0 ≡ true) (λ at. ((x.0 == at.0.0) || is_in (map variable_of (named xs) ++ []) at.0.0) ≡ true) (zip xs ys) (λ at h. or_right (x.0 == at.0.0) _ h) (zipped xs ys))

  seconds : {X Y : Type 0} (P : Y → Type 0) (xs : List X) (ys : List Y) → AllByRecursion P ys → AllByRecursion (λ at. P at.1) (zip xs ys)
  seconds P [] ys h = tt
  seconds P (x ∷ xs) [] h = tt
  seconds P (x ∷ xs) (y ∷ ys) h = (h.0, seconds P xs ys h.1)

  standing : (vars : List Var) (ls : List ℕ) (body : ℕ) → Here (Node.Labels vars ls body) → (v : Var) (l : ℕ) → In (v, l) (zip vars ls) → is_in (map variable_of (named vars) ++ []) v.0 ≡ true → (lam : Lam) → lambda_at u l ≡ Some lam → Standing (Node.Labels vars ls body) v l lam
  standing vars ls body h v l i b lam e =
      let t = Node.Labels vars ls body in
      let ts = reached_terms u in
      record {
        occurs = in_right (occurrence (lambda l) (ValueOf (Local v))) (root_occurrences u) (flat_map (occurrences_in u) ts) (in_flat (occurrences_in u) t (occurrence (lambda l) (ValueOf (Local v))) ts h.inside
            (in_right (occurrence (lambda l) (ValueOf (Local v))) (filter_map occurrence_of (arg_roles u t)) (named_occurrences t) (in_map (λ at. occurrence (lambda at.1) (ValueOf (Local at.0))) (v, l) (zip vars ls) i)));
        abstracted = in_right (abstraction_of u l lam) (root_abstractions u) (flat_map (abstractions_in u) ts) (in_flat (abstractions_in u) t (abstraction_of u l lam) ts h.inside
            (in_found (λ r. option_map (abstraction_of u r) (lambda_at u r)) l (abstraction_of u l lam) ls (in_second v l vars ls i) (ap (option_map (abstraction_of u l)) e)));
        free = none_true (stands_as (inventory_of u).occurrences is_assignment (Local v))
            (λ q. true≢false (sym (assigned_is u v.0 q) ∙ in_each (λ x. is_assigned u x ≡ false) (own_binders t) v.0 (each_of_all (λ x. is_assigned u x ≡ false) (own_binders t) h.assigned.0) b));
      }

  -- a procedure at a place behind those of globals and operations is what the marks have under it
  abbrev IsRight : Abstraction → Type 0
  IsRight a = (l : ℕ) → is_same (lambda l) a.lambda ≡ true → first_lams u ≤ l → (lam : Lam) × ((slice_get u.lams.items l ≡ Some lam) × (a.free ≡ map variable (free_in u lam)))

  same_place : (l m : ℕ) → is_same (lambda l) (lambda m) ≡ true → l ≡ m
  same_place l m e = eqb-true l m (and_parts (0 == 0) (l == m) e).1

  abstractions_right : AllByRecursion IsRight (inventory_of u).abstractions
  abstractions_right =
      each_append IsRight (root_abstractions u) (flat_map (abstractions_in u) (reached_terms u))
      (each_mapped IsRight (λ at. abstraction_of u at.0 at.1) (enumerate_from 0 (root_lams u))
      (each_more (λ at. at.0 < 0 + length (root_lams u)) (λ at. IsRight (abstraction_of u at.0 at.1)) (enumerate_from 0 (root_lams u))
      (λ at h l e le. let same = same_place l at.0 e in let short = take_short (first_lams u) u.lams.items in absurd (omega (arith, h, le, same, short))) (enumerated 0 (root_lams u))))
      (each_joined (abstractions_in u) IsRight (reached_terms u) (each_of (λ t. AllByRecursion IsRight (abstractions_in u t)) (reached_terms u) (λ t. each_some IsRight (λ r. option_map (abstraction_of u r) (lambda_at u r)) (lambda_places t) (each_of (λ r. (a : Abstraction) → option_map (abstraction_of u r) (lambda_at u r) ≡ Some a → IsRight a) (lambda_places t) (λ r a e. by_place r (nat_lt r (first_lams u)) (slice_get u.lams.items r) refl a e)))))
    where
      by_place : (r : ℕ) (b : Bool) (o : Option Lam) → slice_get u.lams.items r ≡ o → (a : Abstraction) → option_map (abstraction_of u r) (if b then None else o) ≡ Some a → IsRight a
      by_place r true o q a e = none_some a e
      by_place r false None q a e = none_some a e
      by_place r false (Some lam) q a e =
          subst IsRight (some_same (abstraction_of u r lam) a e) (λ l s le. (lam, (subst (λ m. slice_get u.lams.items m ≡ Some lam) (sym (same_place l r s)) q, refl)))

  -- ---- what is reached from what is free

  module _ (free : List ℕ) (bounded : Within free (values u)) where
    known : List Known
    known = known_names (inventory_of u).occurrences (inventory_of u).abstractions

    names : List Subject
    names = (inventory_of u).names

    abbrev M : MarkSet
    M = subjects.is_in (marks.reached_from (known_names (inventory_of u).occurrences (inventory_of u).abstractions) (inventory_of u).names (map variable free))

    abbrev R : List ℕ
    R = reached_from u free

    -- ---- what is reached is reached by the marks

    abbrev bound : List ℕ
    bound = filter (λ x. M (variable x)) (values u)

    in_bound : (x : ℕ) → is_in (values u) x ≡ true → is_reached_by_step (known_names (inventory_of u).occurrences (inventory_of u).abstractions) (map variable free) M (variable x) ≡ true → is_in bound x ≡ true
    in_bound x v h = in_filtered (λ y. M (variable y)) (values u) x v (reach_is_closed (known_names (inventory_of u).occurrences (inventory_of u).abstractions) (inventory_of u).names (map variable free) (variable x) (named_values u x ∙ v) h)

    free_bound : (x : ℕ) → is_in free x ≡ true → is_in bound x ≡ true
    free_bound x i = in_bound x (bounded x i) (or_left (subjects.is_in (map variable free) (variable x)) _ (as_variable free x i))

    abbrev KeptFree : reach.Known → Type 0
    KeptFree e = is_in bound e.name ≡ true → AllByRecursion (λ x. is_in bound x ≡ true) e.free

    label_kept : (vars : List Var) (ls : List ℕ) (body : ℕ) → Here (Node.Labels vars ls body) → (v : Var) (l : ℕ) → In (v, l) (zip vars ls) → is_in (map variable_of (named vars) ++ []) v.0 ≡ true → IsLambda u l
        → ((lam : Lam) → lambda_at u l ≡ Some lam → Within (free_in u lam) (values u)) → KeptFree (record { name = v.0; free = free_in_lams u (l ∷ []) })
    label_kept vars ls body h v l i b there valued kept =
        let p = placed l there in
        let lam = p.0 in
        each_in (λ x. is_in bound x ≡ true) (free_in_lams u (l ∷ []))
        (λ x j.
        let k = no_more (free_in u lam) x (subst (λ o. is_in (option_map_or (free_in u) o [] ++ []) x ≡ true) p.1.0 j) in
        in_bound x (valued lam p.1.1 x k)
        (or_right (subjects.is_in (map variable free) (variable x)) _
        (known_standing (Node.Labels vars ls body) v l lam (standing vars ls body h v l i b lam p.1.1) (λ e. M e.name && subjects.is_in e.abstraction.free (variable x))
        (both_true (M (variable v.0)) _ (of_filtered (λ y. M (variable y)) (values u) v.0 kept).1 (as_variable (free_in u lam) x k)))))

    term_kept : (t : Term) → Here t → AllByRecursion KeptFree (reach.known_by u t)
    term_kept (Node.Labels vars ls body) h =
        each_mapped KeptFree (λ at. record { name = at.0.0; free = free_in_lams u (at.1 ∷ []) }) (zip vars ls)
        (each_of_two (λ at. In at (zip vars ls) × (is_in (map variable_of (named vars) ++ []) at.0.0 ≡ true)) (λ at. IsLambda u at.1 × ((lam : Lam) → lambda_at u at.1 ≡ Some lam → Within (free_in u lam) (values u)))
        (λ at. KeptFree (record { name = at.0.0; free = free_in_lams u (at.1 ∷ []) })) (zip vars ls) (λ at a c. label_kept vars ls body h at.0 at.1 a.0 a.1 c.0 c.1)
        (each_of_two (λ at. In at (zip vars ls)) (λ at. is_in (map variable_of (named vars) ++ []) at.0.0 ≡ true) (λ at. In at (zip vars ls) × (is_in (map variable_of (named vars) ++ []) at.0.0 ≡ true)) (zip vars ls) (λ at a c. (a, c)) (each_there (zip vars ls)) (zipped vars ls))
        (seconds (λ l. IsLambda u l × ((lam : Lam) → lambda_at u l ≡ Some lam → Within (free_in u lam) (values u))) vars ls
        (each_of_two (IsLambda u) (λ l. (lam : Lam) → lambda_at u l ≡ Some lam → Within (free_in u lam) (values u)) (λ l. IsLambda u l × ((lam : Lam) → lambda_at u l ≡ Some lam → Within (free_in u lam) (values u))) ls (λ l a c. (a, c)) (each_of_all (IsLambda u) ls h.names.lams) h.located)))
    term_kept (Node.Join k param body rest) h = (λ kept. absurd (value_is_no_way u formed k.0 (of_filtered (λ y. M (variable y)) (values u) k.0 kept).0 (h.ways k.0 (or_left (k.0 == k.0) _ (grind (arith))))), tt)
    term_kept (Node.Call f args k) h = tt
    term_kept (Node.Prim b args k) h = tt
    term_kept (Node.If test x y) h = tt
    term_kept (Node.Give k value) h = tt
    term_kept (Node.Set x value k) h = tt
    term_kept (Node.Cell x value rest) h = tt
    term_kept (Node.CellGet x k) h = tt
    term_kept (Node.CellSet x value k) h = tt
    term_kept (Node.GlobalGet n k) h = tt
    term_kept (Node.GlobalInit n value k) h = tt
    term_kept (Node.GlobalSet n value k) h = tt
    term_kept (Node.Catch x body k) h = tt
    term_kept (Node.Uncatch k value) h = tt
    term_kept (Node.Object proc ops methods k) h = tt
    term_kept (Node.Halt value) h = tt

    within : (x : ℕ) → is_in R x ≡ true → M (variable x) ≡ true
    within x i =
        (of_filtered (λ y. M (variable y)) (values u) x
        (in_each (λ y. is_in bound y ≡ true) R x (reached_bound (known_of u) (binders u) free bound free_bound (each_joined (reach.known_by u) KeptFree (reached_terms u) (each_more Here (λ t. AllByRecursion KeptFree (reach.known_by u t)) (reached_terms u) term_kept here)) (length (known_of u))) i)).1

    -- ---- what the marks reach is reached

    abbrev held : MarkSet
    held = marking R

    abbrev Good : Known → Type 0
    Good k = held k.name ≡ true → (s : Subject) → subjects.is_in (inventory_of u).names s ≡ true → subjects.is_in k.abstraction.free s ≡ true → held s ≡ true

    good_values : (s name : Subject) → ((a : Abstraction) → is_same s a.lambda ≡ true → IsRight a → Good (record { name = name; abstraction = a })) → AllByRecursion Good (known_by (inventory_of u).occurrences (inventory_of u).abstractions s (ValueOf name))
    good_values s name f = by_test (stands_as (inventory_of u).occurrences is_assignment name)
      where
        by_test : (b : Bool) → AllByRecursion Good (if b then [] else map (λ a. record { name = name; abstraction = a }) (filter (λ a. is_same s a.lambda) (inventory_of u).abstractions))
        by_test true = tt
        by_test false =
            each_mapped Good (λ a. record { name = name; abstraction = a }) (filter (λ a. is_same s a.lambda) (inventory_of u).abstractions)
            (each_filter (λ a. Good (record { name = name; abstraction = a })) (λ a. is_same s a.lambda) (inventory_of u).abstractions
            (each_more IsRight (λ a. is_same s a.lambda ≡ true → Good (record { name = name; abstraction = a })) (inventory_of u).abstractions (λ a r e. f a e r) abstractions_right))

    abbrev GoodAt : Occurrence → Type 0
    GoodAt o = AllByRecursion Good (known_by (inventory_of u).occurrences (inventory_of u).abstractions o.subject o.role)

    good_use : (s : Subject) (role : Role) → IsUse role → AllByRecursion Good (known_by (inventory_of u).occurrences (inventory_of u).abstractions s role)
    good_use s Operator h = tt
    good_use s (Operand callee place tail) h = tt
    good_use s Other h = tt
    good_use s (ValueOf name) h = absurd (false≢true h)
    good_use s Assigned h = tt

    good_label : (vars : List Var) (ls : List ℕ) (body : ℕ) → Here (Node.Labels vars ls body) → (v : Var) (l : ℕ) → In (v, l) (zip vars ls) → IsLambda u l → GoodAt (occurrence (lambda l) (ValueOf (Local v)))
    good_label vars ls body h v l i there =
        good_values (lambda l) (Local v)
        (λ a e right kept s n f.
        let r = right l e there.0 in
        of_variables (free_in u r.0) s
        (λ x q j. subst (λ z. held z ≡ true) (sym q)
        (closed (known_of u) (binders u) free x (values_are_bound u x (sym (named_values u x) ∙ subst (λ z. subjects.is_in (inventory_of u).names z ≡ true) q n))
        (any_in (λ k. is_in R k.name && is_in k.free x) (record { name = v.0; free = free_in_lams u (l ∷ []) }) (known_of u)
        (in_flat (reach.known_by u) (Node.Labels vars ls body) (record { name = v.0; free = free_in_lams u (l ∷ []) }) (reached_terms u) h.inside (in_map (λ at. record { name = at.0.0; free = free_in_lams u (at.1 ∷ []) }) (v, l) (zip vars ls) i))
        (both_true (is_in R v.0) _ kept (subst (λ o. is_in (option_map_or (free_in u) o [] ++ []) x ≡ true) (sym r.1.0) (one_more (free_in u r.0) x j))))))
        (subst (λ zs. subjects.is_in zs s ≡ true) r.1.1 f))

    good_named : (t : Term) → Here t → AllByRecursion GoodAt (named_occurrences t)
    good_named (Node.Labels vars ls body) h =
        each_mapped GoodAt (λ at. occurrence (lambda at.1) (ValueOf (Local at.0))) (zip vars ls)
        (each_of_two (λ at. In at (zip vars ls)) (λ at. IsLambda u at.1) (λ at. GoodAt (occurrence (lambda at.1) (ValueOf (Local at.0)))) (zip vars ls) (λ at a b. good_label vars ls body h at.0 at.1 a b) (each_there (zip vars ls)) (seconds (IsLambda u) vars ls (each_of_all (IsLambda u) ls h.names.lams)))
    good_named (Node.Set x value k) h = (tt, tt)
    good_named (Node.GlobalGet n k) h = (tt, tt)
    good_named (Node.GlobalSet n value k) h = (tt, tt)
    good_named (Node.Join k param body rest) h = tt
    good_named (Node.Call f args k) h = tt
    good_named (Node.Prim b args k) h = tt
    good_named (Node.If test x y) h = tt
    good_named (Node.Give k value) h = tt
    good_named (Node.Cell x value rest) h = tt
    good_named (Node.CellGet x k) h = tt
    good_named (Node.CellSet x value k) h = tt
    good_named (Node.GlobalInit n value k) h = tt
    good_named (Node.Catch x body k) h = tt
    good_named (Node.Uncatch k value) h = tt
    good_named (Node.Object proc ops methods k) h = tt
    good_named (Node.Halt value) h = tt

    good_roots : AllByRecursion GoodAt (root_occurrences u)
    good_roots =
        each_append GoodAt (map (λ at. occurrence (lambda at.0) (ValueOf (Global at.1))) (enumerate_from 0 (procedure_globals u))) _
        (each_mapped GoodAt (λ at. occurrence (lambda at.0) (ValueOf (Global at.1))) (enumerate_from 0 (procedure_globals u)) (each_of (λ at. GoodAt (occurrence (lambda at.0) (ValueOf (Global at.1)))) (enumerate_from 0 (procedure_globals u)) (λ at. good_values (lambda at.0) (Global at.1) (λ a e r kept. absurd (false≢true kept)))))
        (each_mapped GoodAt (λ at. occurrence (lambda at.0) Other) _ (each_of (λ at. GoodAt (occurrence (lambda at.0) Other)) _ (λ at. tt)))

    good_known : AllByRecursion Good (known_names (inventory_of u).occurrences (inventory_of u).abstractions)
    good_known =
        each_joined (λ o. known_by (inventory_of u).occurrences (inventory_of u).abstractions o.subject o.role) Good (inventory_of u).occurrences
        (each_append GoodAt (root_occurrences u) (flat_map (occurrences_in u) (reached_terms u)) good_roots
        (each_joined (occurrences_in u) GoodAt (reached_terms u) (each_more Here (λ t. AllByRecursion GoodAt (occurrences_in u t)) (reached_terms u)
        (λ t h. each_append GoodAt (filter_map occurrence_of (arg_roles u t)) (named_occurrences t) (each_more (λ o. IsUse o.role) GoodAt (filter_map occurrence_of (arg_roles u t)) (λ o g. good_use o.subject o.role g) (args_used u t)) (good_named t h)) here)))

    least : IsClosedReach (known_names (inventory_of u).occurrences (inventory_of u).abstractions) (inventory_of u).names (map variable free) held
    least s n h =
        any_or (subjects.is_in (map variable free) s) _
        (λ q. of_variables free s (λ x e i. subst (λ z. held z ≡ true) (sym e) (free_in_rounds (known_of u) (binders u) free (length (known_of u)) x (values_are_bound u x (bounded x i)) i)) q)
        (λ q. any_found (λ k. held k.name && subjects.is_in k.abstraction.free s) (known_names (inventory_of u).occurrences (inventory_of u).abstractions)
        (each_more Good (λ k. (held k.name && subjects.is_in k.abstraction.free s) ≡ true → held s ≡ true) (known_names (inventory_of u).occurrences (inventory_of u).abstractions) (λ k g e. let b = and_parts (held k.name) _ e in g b.0 s n b.1) good_known) q) h

    onto : (s : Subject) → M s ≡ true → held s ≡ true
    onto s i = reach_is_least (known_names (inventory_of u).occurrences (inventory_of u).abstractions) (inventory_of u).names (map variable free) held least s i

  same : (lam : Lam) → Within (free_in u lam) (values u) → ReachesSame u lam
  same lam w = record {
    variables = λ x. either_way (subjects.is_in (marks_reach u lam) (variable x)) (is_in (reached_from u (free_in u lam)) x) (onto (free_in u lam) w (variable x)) (within (free_in u lam) w x);
    globals = λ g. none_true (subjects.is_in (marks_reach u lam) (Global g)) (λ q. false≢true (onto (free_in u lam) w (Global g) q));
  }

  all_valued : AllByRecursion (λ lam. Within (free_in u lam) (values u)) (reached_lams u)
  all_valued =
      each_append (λ lam. Within (free_in u lam) (values u)) (root_lams u) (flat_map (lambdas_of u) (reached_terms u))
      (each_more (λ lam. free_in u lam ≡ []) (λ lam. Within (free_in u lam) (values u)) (root_lams u) (λ lam e x i. absurd (false≢true (subst (λ zs. is_in zs x ≡ true) e i))) (each_of_all (λ lam. free_in u lam ≡ []) (root_lams u) (formed_is_closed u formed).procedures))
      (each_joined (lambdas_of u) (λ lam. Within (free_in u lam) (values u)) (reached_terms u) (terms_of (λ t. AllByRecursion (λ lam. Within (free_in u lam) (values u)) (lambdas_of u t)) (walked u) (places_valued u formed)))

pub reaches_alike : ReachesAlike
reaches_alike u formed loads = all_of_each (ReachesSame u) (reached_lams u) (each_more (λ lam. Within (free_in u lam) (values u)) (ReachesSame u) (reached_lams u) (same u formed loads) (all_valued u formed loads))
