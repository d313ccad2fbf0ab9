-- Assigned variables stand alone in a program that stands for a unit.
use Rattle.std.specs.Prelude.{IsSomeAnd}
use Rattle.std.specs.List.{AllByRecursion, flat_map, filter_map, cons_option, list_any}
use Rattle.std.specs.Option.{option_map_or}
use Rattle.std.proofs.Common.{◌≡◌, ℕ, zero, suc, ◌≤◌, ◌<◌, ◌||◌, nat_lt, Bool, true, false, if◌then◌else◌, List, [], ◌∷◌, ◌++◌, map, take, Option, Some, None, slice_get, refl, sym, ◌∙◌, subst, arith}
use Rattle.std.proofs.lemmas.Bool.{true≢false, eqb-true}
use Rattle.t_base.specs.declared.basics.Var.{Var}
use Rattle.cps_ir.specs.declared.args.Arg.{Arg}
use Rattle.cps_ir.specs.declared.args.Arg.TheVariants as Argument
use Rattle.cps_ir.specs.declared.terms.Cont.{Cont}
use Rattle.cps_ir.specs.declared.terms.Cont.TheVariants as Continuation
use Rattle.cps_ir.specs.declared.terms.Lam.{Lam}
use Rattle.cps_ir.specs.declared.terms.Term.{Term}
use Rattle.cps_ir.specs.declared.terms.Term.TheVariants as Step
use Rattle.cps_ir.specs.Terms.{args_of}
use Rattle.cps_ir.specs.Parts.{Name, OwnK, named, variable_of, lams_of, lambda_at, lambdas_of, lambda_part, cont_parts, own_binders, lam_binders, parts_of, first_lams, root_lams, root_parts, depth_of, walked, walked_within, reached_terms, reached_lams, arg_variables, assigns, is_assigned}
use Rattle.cps_ir.specs.Loads.{AssignsAlone, Unassigned}
use Rattle.cps_ir.specs.Whole.{HoldsWithin, UsesVariables}
use Rattle.cps_ir.proofs.ProperLists.{some_same, none_some, each_append, each_more, each_of_two, each_joined}
use Rattle.cps_ir.proofs.Closed.{parts_same, all_of_each}
use Rattle.cps_order.proofs.Reached.{flat_has}
use Rattle.cps_conversion.specs.Conversion.{Translation, IsTranslated}
use Rattle.conversion_laws.specs.Owed.{IsOwed}
use Rattle.conversion_scopes.specs.Alone.{AssignsApart, AssignedStandAlone}
use Rattle.conversion_scopes.proofs.Once.{one_same}
use Rattle.conversion_scopes.proofs.Scopes.{IsFree, AreFree, AreFreeArgs, IsFreeCont, GivesAlone, StandsAlone, HasFree, Fine}
use Rattle.conversion_scopes.proofs.Sources.{values_joined, value_there, term_ways, lam_values, lam_ways, values_bound, ways_bound, all_bound, Sourced, parts_sourced, sourced_both}
use Rattle.conversion_scopes.proofs.Formed.{all_fine, first_good}

never : {Z : Type 0} → false ≡ true → Z
never e = absurd (true≢false (sym e))

found_any : {X : Type 0} (p : X → Bool) (Q : Type 0) (xs : List X) → AllByRecursion (λ y. p y ≡ true → Q) xs → list_any p xs ≡ true → Q
found_any p Q [] h e = never e
found_any p Q (y ∷ ys) h e = by (p y) refl e (found_any p Q ys h.1)
  where
    by : (b : Bool) → p y ≡ b → (b || list_any p ys) ≡ true → (list_any p ys ≡ true → Q) → Q
    by true q e go = h.0 q
    by false q e go = go e

each_kept : {X Y : Type 0} (f : X → Option Y) (Q : Y → Type 0) (xs : List X) → AllByRecursion (λ z. (y : Y) → f z ≡ Some y → Q y) xs → AllByRecursion Q (filter_map f xs)
each_kept f Q [] h = tt
each_kept {Y = Y} f Q (z ∷ xs) h = by (f z) refl (each_kept f Q xs h.1)
  where
    by : (o : Option Y) → f z ≡ o → AllByRecursion Q (filter_map f xs) → AllByRecursion Q (cons_option o (filter_map f xs))
    by None e rest = rest
    by (Some y) e rest = (h.0 y e, rest)

module _ (x : Translation) (tr : IsTranslated x) (owed : IsOwed x.cps) where
  abbrev Set : List Name → Term → Type 0
  Set scope term = (v : ℕ) → assigns v term ≡ true → 1 ≤ values_bound x.cps v

  -- what a term sets is bound as a value
  set_bound : (scope : List Name) (catches : List ℕ) (term : Term) → Sourced x.cps scope → UsesVariables scope catches term → Set scope term
  set_bound scope catches (Step.Set y value k) s u v e = subst (λ z. 1 ≤ values_bound x.cps z) (eqb-true y.0 v e) (s y.0 (value_there scope y.0 u.place))
  set_bound scope catches (Step.Call f args k) s u v e = never e
  set_bound scope catches (Step.Prim b args k) s u v e = never e
  set_bound scope catches (Step.If test a b) s u v e = never e
  set_bound scope catches (Step.Labels vars lams body) s u v e = never e
  set_bound scope catches (Step.Join k param body rest) s u v e = never e
  set_bound scope catches (Step.Give k value) s u v e = never e
  set_bound scope catches (Step.Cell y value rest) s u v e = never e
  set_bound scope catches (Step.CellGet y k) s u v e = never e
  set_bound scope catches (Step.CellSet y value k) s u v e = never e
  set_bound scope catches (Step.GlobalGet g k) s u v e = never e
  set_bound scope catches (Step.GlobalInit g value k) s u v e = never e
  set_bound scope catches (Step.GlobalSet g value k) s u v e = never e
  set_bound scope catches (Step.Catch y body k) s u v e = never e
  set_bound scope catches (Step.Uncatch k value) s u v e = never e
  set_bound scope catches (Step.Object proc ops methods k) s u v e = never e
  set_bound scope catches (Step.Halt value) s u v e = never e

  -- what is known of a term that is reached
  record Told (term : Term) : Type 0 where
    sets : (v : ℕ) → assigns v term ≡ true → 1 ≤ values_bound x.cps v
    alone : StandsAlone x.unit term
    lams : AllByRecursion (HasFree x.unit x.cps) (lams_of term)

  abbrev ToldAt : ℕ → Type 0
  ToldAt t = (term : Term) → slice_get x.cps.terms.items t ≡ Some term → Told term

  abbrev FineWithin : ℕ → List Name → List ℕ → ℕ → Type 0
  FineWithin depth scope catches t = HoldsWithin (Fine x.unit x.cps) x.cps depth scope catches t

  told_within : (depth : ℕ) (scope : List Name) (catches : List ℕ) (t : ℕ) → Sourced x.cps scope → FineWithin depth scope catches t → AllByRecursion ToldAt (walked_within x.cps depth t)
  unfolding HoldsWithin walked_within
  told_within zero scope catches t s h = absurd h
  told_within (suc depth) scope catches t s h = at_option (slice_get x.cps.terms.items t) refl (λ n c r a b. told_within depth n c r a b) h
    where
      at_option : (o : Option Term) → slice_get x.cps.terms.items t ≡ o
          → ((n : List Name) (c : List ℕ) (r : ℕ) → Sourced x.cps n → HoldsWithin (Fine x.unit x.cps) x.cps depth n c r → AllByRecursion ToldAt (walked_within x.cps depth r))
          → IsSomeAnd o (λ term. Fine x.unit x.cps scope catches term × AllByRecursion (λ p. HoldsWithin (Fine x.unit x.cps) x.cps depth (p.binds ++ scope) p.catches p.at) (parts_of x.cps catches term))
          → AllByRecursion ToldAt (t ∷ option_map_or (λ term. flat_map (λ p. walked_within x.cps depth p.at) (parts_of x.cps [] term)) o [])
      at_option None e go h = absurd h
      at_option (Some term) e go h = (
        λ u q. subst Told (some_same term u (sym e ∙ q)) (record { sets = set_bound scope catches term s h.0.uses; alone = h.0.alone; lams = h.0.lams }),
        each_joined (λ p. walked_within x.cps depth p.at) ToldAt (parts_of x.cps [] term)
            (parts_same (λ bound at. AllByRecursion ToldAt (walked_within x.cps depth at)) x.cps catches [] term
            (each_of_two (λ p. HoldsWithin (Fine x.unit x.cps) x.cps depth (p.binds ++ scope) p.catches p.at) (λ p. Sourced x.cps p.binds) (λ p. AllByRecursion ToldAt (walked_within x.cps depth p.at)) (parts_of x.cps catches term)
            (λ p a b. go (p.binds ++ scope) p.catches p.at (sourced_both x.cps p.binds scope b s) a) h.1 (parts_sourced x.cps catches t term e))),
      )

  -- ---- all that is reached

  lam_sourced : (l : ℕ) (lam : Lam) → slice_get x.cps.lams.items l ≡ Some lam → Sourced x.cps (named lam.params ++ OwnK lam.k.0 ∷ [])
  lam_sourced l lam e v h =
      let j = values_joined (named lam.params) (OwnK lam.k.0 ∷ []) v in
      let r = flat_has lam_values x.cps.lams.items v l lam e (omega (arith, h, j)) in
      omega (arith, r)

  firsts_sourced : (n : ℕ) (lams : List Lam) → ((i : ℕ) (lam : Lam) → slice_get lams i ≡ Some lam → Sourced x.cps (named lam.params ++ OwnK lam.k.0 ∷ [])) → AllByRecursion (λ p. Sourced x.cps p.binds) (map (lambda_part []) (take n lams))
  firsts_sourced zero lams f = tt
  firsts_sourced (suc n) [] f = tt
  firsts_sourced (suc n) (lam ∷ lams) f = (f 0 lam refl, firsts_sourced n lams (λ i. f (suc i)))

  all_told : AllByRecursion ToldAt (walked x.cps)
  all_told =
      each_joined (λ p. walked_within x.cps (depth_of x.cps) p.at) ToldAt (root_parts x.cps)
      (each_of_two (λ p. FineWithin (depth_of x.cps) p.binds p.catches p.at) (λ p. Sourced x.cps p.binds) (λ p. AllByRecursion ToldAt (walked_within x.cps (depth_of x.cps) p.at)) (root_parts x.cps)
      (λ p a b. told_within (depth_of x.cps) p.binds p.catches p.at b a) (all_fine x tr owed.ordered) ((λ v h. absurd (omega (arith, h))), firsts_sourced (first_lams x.cps) x.cps.lams.items lam_sourced))

  reached_told : AllByRecursion Told (reached_terms x.cps)
  reached_told = each_kept (slice_get x.cps.terms.items) Told (walked x.cps) all_told

  -- ---- what isn't assigned

  abbrev Unset : ℕ → Type 0
  Unset v = is_assigned x.cps v ≡ false

  way_unset : (k : ℕ) → 1 ≤ ways_bound x.cps k → Unset k
  way_unset k w = by (is_assigned x.cps k) refl
    where
      by : (b : Bool) → is_assigned x.cps k ≡ b → b ≡ false
      by false e = refl
      by true e =
          let v : 1 ≤ values_bound x.cps k = found_any (assigns k) (1 ≤ values_bound x.cps k) (reached_terms x.cps) (each_more Told (λ term. assigns k term ≡ true → 1 ≤ values_bound x.cps k) (reached_terms x.cps) (λ term t. t.sets k) reached_told) e in
          let all = all_bound x.cps k in
          let once = owed.bound_once k in
          absurd (omega (arith, w, v, all, once))

  free_unset : (v : Var) → IsFree x.unit v → Unset v.0
  free_unset v f = tr.assigned v ∙ f

  all_unset : (vars : List Var) → AreFree x.unit vars → AllByRecursion Unset (map (λ v. v.0) vars)
  all_unset [] f = tt
  all_unset (v ∷ vars) f = (free_unset v f.0, all_unset vars f.1)

  args_unset : (args : List Arg) → AreFreeArgs x.unit args → AllByRecursion Unset (arg_variables args)
  args_unset [] f = tt
  args_unset (Argument.Const c ∷ args) f = args_unset args f.1
  args_unset (Argument.Var v ∷ args) f = (free_unset v f.0, args_unset args f.1)
  args_unset (Argument.Proc l ∷ args) f = args_unset args f.1
  args_unset (Argument.Global g ∷ args) f = args_unset args f.1
  args_unset (Argument.Builtin b ∷ args) f = args_unset args f.1
  args_unset (Argument.Op o ∷ args) f = args_unset args f.1

  cont_unset : (k : Cont) → IsFreeCont x.unit k → AllByRecursion Unset (flat_map (λ p. map variable_of p.binds) (cont_parts [] (Some k)))
  cont_unset (Continuation.Var k) f = tt
  cont_unset (Continuation.Lam v body) f = (free_unset v f, tt)

  names_unset : (vars : List Var) → AreFree x.unit vars → AllByRecursion Unset (map variable_of (named vars))
  names_unset [] f = tt
  names_unset (v ∷ vars) f = (free_unset v f.0, names_unset vars f.1)

  both : (term : Term) → AllByRecursion Unset (own_binders term) → AllByRecursion Unset (arg_variables (args_of term)) → Unassigned x.cps (own_binders term) × Unassigned x.cps (arg_variables (args_of term))
  both term a b = (all_of_each Unset (own_binders term) a, all_of_each Unset (arg_variables (args_of term)) b)

  give_alone : (k : Cont) (value : Arg) → GivesAlone x.unit k value → AssignsAlone x.cps (Step.Give k value)
  give_alone (Continuation.Var k) value g = λ e. never e
  give_alone (Continuation.Lam v body) value g = λ e. all_of_each Unset (arg_variables (value ∷ [])) (args_unset (value ∷ []) (g (sym (tr.assigned v) ∙ e), tt))

  assigns_alone : (t : ℕ) (term : Term) → slice_get x.cps.terms.items t ≡ Some term → StandsAlone x.unit term → AssignsAlone x.cps term
  assigns_alone t (Step.Call f args k) e h = both (Step.Call f args k) (cont_unset k h.1) (args_unset (f ∷ args) h.0)
  assigns_alone t (Step.Prim b args k) e h = both (Step.Prim b args k) (cont_unset k h.1) (args_unset args h.0)
  assigns_alone t (Step.If test a b) e h = both (Step.If test a b) tt (args_unset (test ∷ []) h)
  assigns_alone t (Step.Labels vars lams body) e h = both (Step.Labels vars lams body) (each_append Unset (map variable_of (named vars)) [] (names_unset vars h) tt) tt
  assigns_alone t (Step.Join k param body rest) e h =
      both (Step.Join k param body rest) (
        free_unset param h,
        (way_unset k.0 (let s = one_same k.0 in let r = flat_has term_ways x.cps.terms.items k.0 t (Step.Join k param body rest) e (omega (arith, s)) in omega (arith, r)), tt),
      ) tt
  assigns_alone t (Step.Give k value) e h = give_alone k value h
  assigns_alone t (Step.Set v value k) e h = both (Step.Set v value k) (cont_unset k h.1) (args_unset (value ∷ []) h.0)
  assigns_alone t (Step.Cell v value rest) e h = absurd h
  assigns_alone t (Step.CellGet v k) e h = absurd h
  assigns_alone t (Step.CellSet v value k) e h = absurd h
  assigns_alone t (Step.GlobalGet g k) e h = both (Step.GlobalGet g k) (cont_unset k h) tt
  assigns_alone t (Step.GlobalInit g value k) e h = both (Step.GlobalInit g value k) (cont_unset k h.1) (args_unset (value ∷ []) h.0)
  assigns_alone t (Step.GlobalSet g value k) e h = both (Step.GlobalSet g value k) (cont_unset k h.1) (args_unset (value ∷ []) h.0)
  assigns_alone t (Step.Catch v body k) e h = both (Step.Catch v body k) (free_unset v h.0, cont_unset k h.1) tt
  assigns_alone t (Step.Uncatch k value) e h = both (Step.Uncatch k value) (cont_unset k h.1) (args_unset (value ∷ []) h.0)
  assigns_alone t (Step.Object proc ops methods k) e h = both (Step.Object proc ops methods k) (cont_unset k h.1) (args_unset (proc ∷ []) h.0)
  assigns_alone t (Step.Halt value) e h = both (Step.Halt value) tt (args_unset (value ∷ []) h)

  -- ---- procedures

  abbrev Params : Lam → Type 0
  Params lam = AllByRecursion Unset (lam_binders lam)

  params_unset : (l : ℕ) (lam : Lam) → slice_get x.cps.lams.items l ≡ Some lam → AreFree x.unit lam.params → Params lam
  params_unset l lam e f =
      each_append Unset (map (λ (v : Var). v.0) lam.params) (lam.k.0 ∷ []) (all_unset lam.params f)
      (way_unset lam.k.0 (let s = one_same lam.k.0 in let r = flat_has lam_ways x.cps.lams.items lam.k.0 l lam e (omega (arith, s)) in omega (arith, r)), tt)

  named_params : (ls : List ℕ) → AllByRecursion (HasFree x.unit x.cps) ls → AllByRecursion Params (filter_map (lambda_at x.cps) ls)
  named_params ls h = each_kept (lambda_at x.cps) Params ls (each_more (HasFree x.unit x.cps) (λ l. (lam : Lam) → lambda_at x.cps l ≡ Some lam → Params lam) ls (λ l f lam e. by l lam f (nat_lt l (first_lams x.cps)) (slice_get x.cps.lams.items l) refl e) h)
    where
      by : (l : ℕ) (lam : Lam) → HasFree x.unit x.cps l → (b : Bool) (o : Option Lam) → slice_get x.cps.lams.items l ≡ o → (if b then None else o) ≡ Some lam → Params lam
      by l lam f true o q e = none_some lam e
      by l lam f false o q e = params_unset l lam (q ∙ e) (f lam (q ∙ e))

  first_params : (n : ℕ) (lams : List Lam) → ((i : ℕ) (lam : Lam) → i < n → slice_get lams i ≡ Some lam → Params lam) → AllByRecursion Params (take n lams)
  first_params zero lams f = tt
  first_params (suc n) [] f = tt
  first_params (suc n) (lam ∷ lams) f = (f 0 lam (omega arith) refl, first_params n lams (λ i m lt. f (suc i) m (omega (arith, lt))))

  assigned_apart : AssignsApart x.cps
  assigned_apart = record {
    assigned = all_of_each (AssignsAlone x.cps) (reached_terms x.cps)
        (each_kept (slice_get x.cps.terms.items) (AssignsAlone x.cps) (walked x.cps) (each_more ToldAt (λ t. (term : Term) → slice_get x.cps.terms.items t ≡ Some term → AssignsAlone x.cps term) (walked x.cps) (λ t told term e. assigns_alone t term e (told term e).alone) all_told));
    parameters = all_of_each (λ lam. Unassigned x.cps (lam_binders lam)) (reached_lams x.cps)
        (each_more Params (λ lam. Unassigned x.cps (lam_binders lam)) (reached_lams x.cps) (λ lam h. all_of_each Unset (lam_binders lam) h)
        (each_append Params (root_lams x.cps) (flat_map (lambdas_of x.cps) (reached_terms x.cps))
        (first_params (first_lams x.cps) x.cps.lams.items (λ l lam lt e. params_unset l lam e ((first_good x tr owed.ordered l lt).free lam e)))
        (each_joined (lambdas_of x.cps) Params (reached_terms x.cps) (each_more Told (λ term. AllByRecursion Params (lambdas_of x.cps term)) (reached_terms x.cps) (λ term told. named_params (lams_of term) told.lams) reached_told))));
  }

pub assigned_stand_alone : AssignedStandAlone
assigned_stand_alone unit cps c owed = assigned_apart (record { unit = unit; cps = cps; origins = c.origins }) c.translated owed
