-- With cells the marks of LAMBDAs stay, and so do those of the variables that aren't assigned.
use Rattle.std.specs.Prelude.{zip}
use Rattle.std.specs.List.{AllByRecursion, filter_map, flat_map, cons_option, list_any, enumerate_from}
use Rattle.std.specs.Option.{option_map}
use Rattle.std.proofs.Common.{◌≡◌, ℕ, ◌+◌, ◌==◌, Bool, false, List, [], ◌∷◌, ◌++◌, map, Option, Some, None, refl, sym, ap, ◌∙◌, subst}
use Rattle.std.proofs.lemmas.List.Folds.{flat_map-map}
use Rattle.std.proofs.lemmas.List.Elements.{filter_map-append}
use Rattle.t_base.specs.declared.basics.Var.{Var}
use Rattle.escape_marks.specs.Subjects.{Subject, Lambda, Local, Global, is_in}
use Rattle.escape_marks.specs.Facts.{Role, Operator, ValueOf, Assigned, Other, Occurrence, Abstraction}
use Rattle.escape_marks.specs.Inventories.{Inventory, facts_from}
use Rattle.escape_marks.specs.Rules.{marks_of}
use Rattle.cps_ir.specs.declared.args.Arg.{Arg}
use Rattle.cps_ir.specs.declared.terms.Cont.{Cont}
use Rattle.cps_ir.specs.declared.terms.Cont.TheVariants as Continuation
use Rattle.cps_ir.specs.declared.terms.Lam.{Lam}
use Rattle.cps_ir.specs.declared.terms.Term.{Term}
use Rattle.cps_ir.specs.declared.terms.Term.TheVariants as Node
use Rattle.cps_ir.specs.declared.terms.Cps.{Cps}
use Rattle.cps_ir.specs.Parts.{is_assigned, named, variable_of, procs_of, lambda_at, lambdas_of, root_lams, reached_terms, own_binders, lam_binders, is_tail}
use Rattle.cps_ir.specs.Reaches.{free_in_lams, methods_of}
use Rattle.cps_ir.specs.MarkFacts.{lambda, variable, occurrence, name_of, subject_of, operand_roles, arg_roles, occurrence_of, occurrences_in, procedure_globals, root_occurrences, abstraction_of, lambda_places, abstractions_in, root_abstractions, method_frees, names_in, params_of, inventory_of, escaping, marked_lams, marked_vars}
use Rattle.cps_ir.proofs.ProperLists.{each_append, each_left, each_more, each_of_all, each_joined}
use Rattle.assign_convert.specs.AssignedCells.{celled}
use Rattle.assign_convert.proofs.Ruled.{LamAlone, Alone}
use Rattle.assign_convert.proofs.Steps.{IsFree}
use Rattle.assign_convert.proofs.Shapes.{of_celled, b, f, reached_same, joined_same, lams_same, free_in_same}
use Rattle.assign_convert.proofs.Wholes.{stays_own, lams_free_same, methods_same}
use Rattle.assign_convert.proofs.Unmarked.{IsApart, lambda_apart, global_apart, local_apart, ValueApart, Fewer, none_fewer, same_fewer, one_fewer, joined_fewer, AbstractionApart, fewer_in, marks_same}

map_same : {X Y : Type 0} (p q : X → Y) (xs : List X) → ((x : X) → p x ≡ q x) → map p xs ≡ map q xs
map_same p q [] e = refl
map_same p q (x ∷ xs) e = ap (λ y. y ∷ map p xs) (e x) ∙ ap (λ ys. q x ∷ ys) (map_same p q xs e)

found_same : {X Y : Type 0} (p q : X → Option Y) (xs : List X) → ((x : X) → p x ≡ q x) → filter_map p xs ≡ filter_map q xs
found_same p q [] e = refl
found_same p q (x ∷ xs) e = ap (λ o. cons_option o (filter_map p xs)) (e x) ∙ ap (λ ys. cons_option (q x) ys) (found_same p q xs e)

module _ (a d : Cps) (terms : d.terms.items ≡ map (celled (is_assigned a)) a.terms.items) where
  abbrev after : Cps
  after = b a d terms

  abbrev g : ℕ → Bool
  g = f a d terms

  -- ---- LAMBDAs

  abstraction_same : (l : ℕ) (lam : Lam) → abstraction_of after l lam ≡ abstraction_of a l lam
  abstraction_same l lam = ap {A = List ℕ} {B = Abstraction} (λ xs. record { lambda = lambda l; params = map Local lam.params; free = map variable xs }) (free_in_same a d terms lam)

  places_same : (t : Term) → lambda_places (celled g t) ≡ lambda_places t
  places_same t = of_celled g (λ t u. lambda_places u ≡ lambda_places t) (λ t s. refl) (λ k x s e. refl) (λ param body value e. refl) (λ x value k. refl) t

  found_abstraction : (l : ℕ) → option_map (abstraction_of after l) (lambda_at after l) ≡ option_map (abstraction_of a l) (lambda_at a l)
  found_abstraction l = by_option (lambda_at a l)
    where
      by_option : (o : Option Lam) → option_map (abstraction_of after l) o ≡ option_map (abstraction_of a l) o
      by_option None = refl
      by_option (Some lam) = ap Some (abstraction_same l lam)

  abstractions_same : (t : Term) → abstractions_in after (celled g t) ≡ abstractions_in a t
  abstractions_same t =
      ap (filter_map (λ l. option_map (abstraction_of after l) (lambda_at after l))) (places_same t)
      ∙ found_same (λ l. option_map (abstraction_of after l) (lambda_at after l)) (λ l. option_map (abstraction_of a l) (lambda_at a l)) (lambda_places t) found_abstraction

  all_abstractions : root_abstractions after ++ flat_map (abstractions_in after) (reached_terms after) ≡ root_abstractions a ++ flat_map (abstractions_in a) (reached_terms a)
  all_abstractions =
      ap (λ xs. xs ++ flat_map (abstractions_in after) (reached_terms after)) (map_same (λ at. abstraction_of after at.0 at.1) (λ at. abstraction_of a at.0 at.1) (enumerate_from 0 (root_lams a)) (λ at. abstraction_same at.0 at.1))
      ∙ ap (λ xs. root_abstractions a ++ xs) (joined_same a d terms (abstractions_in after) (abstractions_in a) abstractions_same)

  -- ---- names

  names_same : (t : Term) → names_in (celled g t) ≡ names_in t
  names_same t = of_celled g (λ t u. names_in u ≡ names_in t) (λ t s. refl) (λ k x s e. refl) (λ param body value e. refl) (λ x value k. refl) t

  params_same : params_of after ≡ params_of a
  params_same = ap (flat_map (λ lam. lam.params)) (lams_same a d terms)

  all_names : flat_map names_in (reached_terms after) ++ map Local (params_of after) ++ map Global (procedure_globals after) ≡ flat_map names_in (reached_terms a) ++ map Local (params_of a) ++ map Global (procedure_globals a)
  all_names =
      ap (λ xs. xs ++ map Local (params_of after) ++ map Global (procedure_globals a)) (joined_same a d terms names_in names_in names_same)
      ∙ ap (λ vs. flat_map names_in (reached_terms a) ++ map Local vs ++ map Global (procedure_globals a)) params_same

  frees_same : (t : Term) → method_frees after (celled g t) ≡ method_frees a t
  frees_same t =
      ap (map (λ m. map variable (free_in_lams after (m ∷ [])))) (methods_same a d terms t)
      ∙ map_same (λ m. map variable (free_in_lams after (m ∷ []))) (λ m. map variable (free_in_lams a (m ∷ []))) (methods_of t) (λ m. ap (map variable) (lams_free_same a d terms (m ∷ [])))

  all_frees : flat_map (method_frees after) (reached_terms after) ≡ flat_map (method_frees a) (reached_terms a)
  all_frees = joined_same a d terms (method_frees after) (method_frees a) frees_same

  -- ---- occurrences

  tail_same : (k : Cont) → is_tail after k ≡ is_tail a k
  tail_same (Continuation.Var k) = ap (list_any (λ lam. lam.k.0 == k.0)) (lams_same a d terms)
  tail_same (Continuation.Lam param body) = refl

  occurrences_same : (t : Term) → occurrences_in after t ≡ occurrences_in a t
  occurrences_same (Node.Call y args k) = ap (λ tail. filter_map occurrence_of ((y, Operator) ∷ operand_roles (name_of y) tail 0 args) ++ []) (tail_same k)
  occurrences_same (Node.Give k value) = refl
  occurrences_same (Node.Set x value k) = refl
  occurrences_same (Node.Prim c args k) = refl
  occurrences_same (Node.If test x y) = refl
  occurrences_same (Node.Labels vars lams body) = refl
  occurrences_same (Node.Join k param body rest) = refl
  occurrences_same (Node.Cell x value rest) = refl
  occurrences_same (Node.CellGet x k) = refl
  occurrences_same (Node.CellSet x value k) = refl
  occurrences_same (Node.GlobalGet i k) = refl
  occurrences_same (Node.GlobalInit i value k) = refl
  occurrences_same (Node.GlobalSet i value k) = refl
  occurrences_same (Node.Catch escape inner k) = refl
  occurrences_same (Node.Uncatch k value) = refl
  occurrences_same (Node.Object proc ops methods k) = refl
  occurrences_same (Node.Halt value) = refl

  abbrev Value : Occurrence → Type 0
  Value o = ValueApart g o

  -- a role that is no value
  abbrev Plain : Arg × Role → Type 0
  Plain at = Value (record { subject = Lambda 0 0; role = at.1 })

  plain_found : (xs : List (Arg × Role)) → AllByRecursion Plain xs → AllByRecursion Value (filter_map occurrence_of xs)
  plain_found [] h = tt
  plain_found (x ∷ xs) h = by_option (subject_of x.0) (plain_found xs h.1)
    where
      by_option : (o : Option Subject) → AllByRecursion Value (filter_map occurrence_of xs) → AllByRecursion Value (cons_option (option_map (λ s. occurrence s x.1) o) (filter_map occurrence_of xs))
      by_option None r = r
      by_option (Some s) r = (h.0, r)

  plain_others : (xs : List Arg) → AllByRecursion Plain (map (λ y. (y, Other)) xs)
  plain_others [] = tt
  plain_others (x ∷ xs) = (tt, plain_others xs)

  plain_operands : (o : Option Subject) (tail : Bool) (place : ℕ) (xs : List Arg) → AllByRecursion Plain (operand_roles o tail place xs)
  plain_operands o tail place [] = tt
  plain_operands None tail place (x ∷ xs) = (tt, plain_operands None tail (place + 1) xs)
  plain_operands (Some s) tail place (x ∷ xs) = (tt, plain_operands (Some s) tail (place + 1) xs)

  labels_apart : (vars : List Var) (lams : List ℕ) → AllByRecursion (IsFree a) (map variable_of (named vars) ++ []) → AllByRecursion Value (map (λ at. occurrence (lambda at.1) (ValueOf (Local at.0))) (zip vars lams))
  labels_apart [] lams h = tt
  labels_apart (x ∷ vars) [] h = tt
  labels_apart (x ∷ vars) (l ∷ lams) h = (local_apart g x h.0, labels_apart vars lams h.1)

  others_apart : (xs : List Arg) → AllByRecursion Value (filter_map occurrence_of (map (λ y. (y, Other)) xs))
  others_apart xs = plain_found (map (λ y. (y, Other)) xs) (plain_others xs)

  values_apart : (t : Term) → AllByRecursion (IsFree a) (own_binders t) → AllByRecursion Value (occurrences_in a t)
  values_apart (Node.Call y args k) h = each_append Value (filter_map occurrence_of (arg_roles a (Node.Call y args k))) [] (plain_found (arg_roles a (Node.Call y args k)) (tt, plain_operands (name_of y) (is_tail a k) 0 args)) tt
  values_apart (Node.Labels vars lams body) h = labels_apart vars lams h
  values_apart (Node.Give k value) h = each_append Value (filter_map occurrence_of (map (λ y. (y, Other)) (value ∷ []))) [] (others_apart (value ∷ [])) tt
  values_apart (Node.Set x value k) h = each_append Value (filter_map occurrence_of (map (λ y. (y, Other)) (value ∷ []))) (occurrence (Local x) Assigned ∷ []) (others_apart (value ∷ [])) (tt, tt)
  values_apart (Node.Prim c args k) h = each_append Value (filter_map occurrence_of (map (λ y. (y, Other)) args)) [] (others_apart args) tt
  values_apart (Node.If test x y) h = each_append Value (filter_map occurrence_of (map (λ y. (y, Other)) (test ∷ []))) [] (others_apart (test ∷ [])) tt
  values_apart (Node.Join k param body rest) h = tt
  values_apart (Node.Cell x value rest) h = each_append Value (filter_map occurrence_of (map (λ y. (y, Other)) (value ∷ []))) [] (others_apart (value ∷ [])) tt
  values_apart (Node.CellGet x k) h = tt
  values_apart (Node.CellSet x value k) h = each_append Value (filter_map occurrence_of (map (λ y. (y, Other)) (value ∷ []))) [] (others_apart (value ∷ [])) tt
  values_apart (Node.GlobalGet i k) h = (tt, tt)
  values_apart (Node.GlobalInit i value k) h = each_append Value (filter_map occurrence_of (map (λ y. (y, Other)) (value ∷ []))) [] (others_apart (value ∷ [])) tt
  values_apart (Node.GlobalSet i value k) h = each_append Value (filter_map occurrence_of (map (λ y. (y, Other)) (value ∷ []))) (occurrence (Global i) Assigned ∷ []) (others_apart (value ∷ [])) (tt, tt)
  values_apart (Node.Catch escape inner k) h = tt
  values_apart (Node.Uncatch k value) h = each_append Value (filter_map occurrence_of (map (λ y. (y, Other)) (value ∷ []))) [] (others_apart (value ∷ [])) tt
  values_apart (Node.Object proc ops methods k) h = each_append Value (filter_map occurrence_of (map (λ y. (y, Other)) (proc ∷ []))) [] (others_apart (proc ∷ [])) tt
  values_apart (Node.Halt value) h = each_append Value (filter_map occurrence_of (map (λ y. (y, Other)) (value ∷ []))) [] (others_apart (value ∷ [])) tt

  term_fewer : (t : Term) → Alone a t → Fewer g (occurrences_in a t) (occurrences_in after (celled g t))
  term_fewer t h =
      of_celled g (λ t u. Alone a t → Fewer g (occurrences_in a t) (occurrences_in after u))
      (λ t s h. subst (Fewer g (occurrences_in a t)) (sym (occurrences_same t)) (same_fewer g (occurrences_in a t) (values_apart t (stays_own a d terms t s h.assigns))))
      (λ k x s e h. one_fewer g x.0 Other e tt)
      (λ param body value e h. same_fewer g (occurrences_in a (Node.Give (Continuation.Lam param body) value)) (each_append Value (filter_map occurrence_of (map (λ y. (y, Other)) (value ∷ []))) [] (others_apart (value ∷ [])) tt))
      (λ x value k h.
      let args = filter_map occurrence_of (map (λ y. (y, Other)) (value ∷ [])) in
      joined_fewer g args args (occurrence (Local x) Assigned ∷ []) [] (same_fewer g args (others_apart (value ∷ []))) (one_fewer g x.0 Assigned h.set tt)) t h

  terms_fewer : (ts : List Term) → AllByRecursion (Alone a) ts → Fewer g (flat_map (occurrences_in a) ts) (flat_map (λ t. occurrences_in after (celled g t)) ts)
  terms_fewer [] h = none_fewer g
  terms_fewer (t ∷ ts) h =
      joined_fewer g (occurrences_in a t) (occurrences_in after (celled g t)) (flat_map (occurrences_in a) ts) (flat_map (λ t. occurrences_in after (celled g t)) ts) (term_fewer t h.0) (terms_fewer ts h.1)

  roots_apart : AllByRecursion Value (root_occurrences a)
  roots_apart =
      each_append Value (map (λ at. occurrence (lambda at.0) (ValueOf (Global at.1))) (enumerate_from 0 (procedure_globals a))) _ (by_globals (enumerate_from 0 (procedure_globals a))) (by_defaults (enumerate_from _ _))
    where
      by_globals : (xs : List (ℕ × ℕ)) → AllByRecursion Value (map (λ at. occurrence (lambda at.0) (ValueOf (Global at.1))) xs)
      by_globals [] = tt
      by_globals (x ∷ xs) = (global_apart g x.1, by_globals xs)

      by_defaults : (xs : List (ℕ × Lam)) → AllByRecursion Value (map (λ at. occurrence (lambda at.0) Other) xs)
      by_defaults [] = tt
      by_defaults (x ∷ xs) = (tt, by_defaults xs)

  -- ---- the parameters of LAMBDAs

  params_apart : (vs : List Var) (rest : List ℕ) → AllByRecursion (IsFree a) (map (λ x. x.0) vs ++ rest) → AllByRecursion (IsApart g) (map Local vs)
  params_apart [] rest h = tt
  params_apart (v ∷ vs) rest h = (local_apart g v h.0, params_apart vs rest h.1)

  lam_apart : (l : ℕ) (lam : Lam) → LamAlone a lam → AbstractionApart g (abstraction_of a l lam)
  lam_apart l lam h = (lambda_apart g 0 l, params_apart lam.params (lam.k.0 ∷ []) (each_of_all (IsFree a) (lam_binders lam) h))

  listed_apart : (n : ℕ) (lams : List Lam) → AllByRecursion (LamAlone a) lams → AllByRecursion (AbstractionApart g) (map (λ at. abstraction_of a at.0 at.1) (enumerate_from n lams))
  listed_apart n [] h = tt
  listed_apart n (lam ∷ lams) h = (lam_apart n lam h.0, listed_apart (n + 1) lams h.1)

  places_apart : (ls : List ℕ) → AllByRecursion (LamAlone a) (filter_map (lambda_at a) ls) → AllByRecursion (AbstractionApart g) (filter_map (λ l. option_map (abstraction_of a l) (lambda_at a l)) ls)
  places_apart [] h = tt
  places_apart (l ∷ ls) h = by_option (lambda_at a l) h (λ r. places_apart ls r)
    where
      by_option : (o : Option Lam) → AllByRecursion (LamAlone a) (cons_option o (filter_map (lambda_at a) ls)) → (AllByRecursion (LamAlone a) (filter_map (lambda_at a) ls) → AllByRecursion (AbstractionApart g) (filter_map (λ l. option_map (abstraction_of a l) (lambda_at a l)) ls))
          → AllByRecursion (AbstractionApart g) (cons_option (option_map (abstraction_of a l) o) (filter_map (λ l. option_map (abstraction_of a l) (lambda_at a l)) ls))
      by_option None h go = go h
      by_option (Some lam) h go = (lam_apart l lam h.0, go h.1)

  alone_places : (t : Term) → AllByRecursion (LamAlone a) (lambdas_of a t) → AllByRecursion (LamAlone a) (filter_map (lambda_at a) (lambda_places t))
  alone_places (Node.Object proc ops methods k) h =
      each_left (LamAlone a) (filter_map (lambda_at a) (procs_of (Node.Object proc ops methods k))) (filter_map (lambda_at a) methods) (subst (AllByRecursion (LamAlone a)) (filter_map-append (lambda_at a) (procs_of (Node.Object proc ops methods k)) methods) h)
  alone_places (Node.Call y args k) h = h
  alone_places (Node.Labels vars lams body) h = h
  alone_places (Node.Give k value) h = h
  alone_places (Node.Set x value k) h = h
  alone_places (Node.Prim c args k) h = h
  alone_places (Node.If test x y) h = h
  alone_places (Node.Join k param body rest) h = h
  alone_places (Node.Cell x value rest) h = h
  alone_places (Node.CellGet x k) h = h
  alone_places (Node.CellSet x value k) h = h
  alone_places (Node.GlobalGet i k) h = h
  alone_places (Node.GlobalInit i value k) h = h
  alone_places (Node.GlobalSet i value k) h = h
  alone_places (Node.Catch escape inner k) h = h
  alone_places (Node.Uncatch k value) h = h
  alone_places (Node.Halt value) h = h

  -- ---- the whole

  module _ (alone : AllByRecursion (Alone a) (reached_terms a)) (roots : AllByRecursion (LamAlone a) (root_lams a)) where
    fewer : Fewer g (inventory_of a).occurrences (inventory_of after).occurrences
    fewer =
        subst (λ os. Fewer g (inventory_of a).occurrences (root_occurrences a ++ os))
        (sym (ap (flat_map (occurrences_in after)) (reached_same a d terms) ∙ flat_map-map (occurrences_in after) (celled g) (reached_terms a)))
        (joined_fewer g (root_occurrences a) (root_occurrences a) (flat_map (occurrences_in a) (reached_terms a)) (flat_map (λ t. occurrences_in after (celled g t)) (reached_terms a)) (same_fewer g (root_occurrences a) roots_apart) (terms_fewer (reached_terms a) alone))

    abstractions_apart : AllByRecursion (AbstractionApart g) (inventory_of a).abstractions
    abstractions_apart =
        each_append (AbstractionApart g) (root_abstractions a) (flat_map (abstractions_in a) (reached_terms a)) (listed_apart 0 (root_lams a) roots)
        (each_joined (abstractions_in a) (AbstractionApart g) (reached_terms a) (each_more (Alone a) (λ t. AllByRecursion (AbstractionApart g) (abstractions_in a t)) (reached_terms a) (λ t h. places_apart (lambda_places t) (alone_places t h.lams)) alone))

    inventory_same : inventory_of after ≡ fewer_in g (inventory_of a) (inventory_of after).occurrences
    inventory_same =
        ap {A = List Abstraction} {B = Inventory} (λ xs. record { abstractions = xs; names = (inventory_of after).names; params = (inventory_of after).params; occurrences = (inventory_of after).occurrences; method_frees = (inventory_of after).method_frees }) all_abstractions
        ∙ ap {A = List Subject} {B = Inventory} (λ xs. record { abstractions = (inventory_of a).abstractions; names = xs; params = (inventory_of after).params; occurrences = (inventory_of after).occurrences; method_frees = (inventory_of after).method_frees }) all_names
        ∙ ap {A = List Var} {B = Inventory} (λ xs. record { abstractions = (inventory_of a).abstractions; names = (inventory_of a).names; params = xs; occurrences = (inventory_of after).occurrences; method_frees = (inventory_of after).method_frees }) params_same
        ∙ ap {A = List (List Subject)} {B = Inventory} (λ xs. record { abstractions = (inventory_of a).abstractions; names = (inventory_of a).names; params = (inventory_of a).params; occurrences = (inventory_of after).occurrences; method_frees = xs }) all_frees

    pub marked_same : (s : Subject) → IsApart g s → is_in (escaping after) s ≡ is_in (escaping a) s
    marked_same s h = ap (λ i. is_in (marks_of (facts_from i)) s) inventory_same ∙ marks_same g (inventory_of a) (inventory_of after).occurrences fewer abstractions_apart s h

    pub lams_marked_same : (l : ℕ) → marked_lams after l ≡ marked_lams a l
    lams_marked_same l = marked_same (lambda l) (lambda_apart g 0 l)

    pub vars_marked_same : (x : ℕ) → is_assigned a x ≡ false → marked_vars after x ≡ marked_vars a x
    vars_marked_same x h = marked_same (variable x) (local_apart g (record { 0 = x }) h)
