-- SET of a variable.
use Rattle.std.proofs.Common.{◌≡◌, ℕ, zero, suc, ◌+◌, ◌≤◌, ◌<◌, ◌==◌, Bool, true, false, ◌||◌, List, [], ◌∷◌, length, Option, Some, None, option_and_then, slice_get, slice_set, refl, sym, ap, ◌∙◌, subst, arith}
use Rattle.std.proofs.lemmas.Bool.{true≢false, eqb-true}
use Rattle.std.specs.List.{list_any}
use Rattle.t_base.specs.declared.basics.Var.{Var}
use Rattle.t_prim.specs.Values.{Val}
use Rattle.t_core.specs.declared.forms.Core.TheVariants as Node
use Rattle.t_core.specs.declared.forms.Form.{Form}
use Rattle.t_core.specs.declared.forms.UnitCore.{UnitCore}
use Rattle.t_meaning.specs.Programs.{Marking, node_at}
use Rattle.t_meaning.specs.Costs.{is_assigned, assigns}
use Rattle.t_meaning.specs.State.{State as Made, with_location_at as location_set}
use Rattle.t_meaning.specs.Outcomes.{Outcome, Value, Doing, with_value, or_unbound, early}
use Rattle.t_meaning.specs.Expressions.{with_location}
use Rattle.cps_ir.specs.declared.args.Arg.{Arg}
use Rattle.cps_ir.specs.declared.terms.Term.TheVariants as Step
use Rattle.cps_ir.specs.States.{Marking as CpsMarking, Scope, State, At, going, counting, with_location_at}
use Rattle.cps_ir.specs.Giving.{or_unbound as cps_unbound, meant_by, location_of as place_of, give}
use Rattle.cps_ir.specs.Reaches.{is_in}
use Rattle.cps_conversion.specs.Conversion.{Translation, Stands, ConvertsWithin, OverOne}
use Rattle.cps_conversion.proofs.Zips.{zipped_more}
use Rattle.cps_conversion.proofs.Scopes.{same_number}
use Rattle.cps_conversion.proofs.Relate.{Kinds, Grown, grown_same, get_within, LocationsAs, EntryAs, ProcedureAs, ThingAs, procedure_grown, thing_grown, Sync}
use Rattle.cps_conversion.proofs.Claims.{behind, Facts, Claims, step_at, arg_means}
use Rattle.cps_conversion.proofs.Operands.{Valued}
use Rattle.cps_conversion.proofs.Spots.{Spot, Path, Done, Goal, part, gives_last}
use Rattle.cps_conversion.proofs.Terms.{get_set_other, means_there, one_run}

none_is : {X Z : Type 0} (v : X) → None ≡ Some v → Z
none_is v h = cc

-- ---- what a SET assigns is assigned

any_get : {X : Type 0} (test : X → Bool) (xs : List X) (i : ℕ) (y : X) → slice_get xs i ≡ Some y → test y ≡ true → list_any test xs ≡ true
any_get test [] i y h e = none_is y h
any_get test (a ∷ xs) zero y h e = let f : a ≡ y = cc in ap (λ b. b || list_any test xs) (ap test f ∙ e)
any_get test (a ∷ xs) (suc i) y h e = right (test a) (list_any test xs) (any_get test xs i y h e)
  where
    right : (b c : Bool) → c ≡ true → (b || c) ≡ true
    right true c k = refl
    right false c k = k

pub assigned_by_set : (unit : UnitCore) (form node : ℕ) (v : Var) (value : ℕ) → node_at unit form node ≡ Some (Node.SetLocal v value) → is_assigned unit v ≡ true
assigned_by_set unit form node v value h = by_form (slice_get unit.forms.items form) refl h
  where
    by_form : (o : Option Form) → slice_get unit.forms.items form ≡ o → option_and_then (λ f. slice_get f.nodes.items node) o ≡ Some (Node.SetLocal v value) → is_assigned unit v ≡ true
    by_form None e k = none_is (Node.SetLocal v value) k
    by_form (Some f) e k = any_get (λ g. list_any (assigns v) g.nodes.items) unit.forms.items form f e (any_get (assigns v) f.nodes.items node (Node.SetLocal v value) k (same_number v.0))

-- ---- a location that is set on both sides

pub get_set_same : {X : Type 0} (xs : List X) (i : ℕ) (v : X) → i < length xs → slice_get (slice_set xs i v) i ≡ Some v
get_set_same [] i v h = absurd (omega (arith, h))
get_set_same (a ∷ xs) zero v h = refl
get_set_same (a ∷ xs) (suc i) v h = get_set_same xs i v (omega (arith, h))

set_length : {X : Type 0} (xs : List X) (i : ℕ) (v : X) → length (slice_set xs i v) ≡ length xs
set_length [] i v = refl
set_length (a ∷ xs) zero v = refl
set_length (a ∷ xs) (suc i) v = ap suc (set_length xs i v)

pub not_same : (a b : ℕ) → (a == b) ≡ false → a ≡ b → ⊥
not_same a b e f = true≢false (sym (same_number a) ∙ ap (λ c. a == c) f ∙ e)

pub locations_set : (kinds : Kinds) (ls cells : List Val) (l i : ℕ) (v : Val) → slice_get kinds l ≡ Some (Some i) → LocationsAs kinds ls cells → LocationsAs kinds (slice_set ls l v) (slice_set cells i v)
locations_set kinds ls cells l i v here h = record {
  as_many = h.as_many ∙ sym (set_length ls l v);
  within = λ j m e. (let w = h.within j m e in let f = set_length cells i v in omega (arith, w, f));
  same = λ j m e. by_test j m e (l == j) refl;
  apart = h.apart;
}
  where
    by_test : (j m : ℕ) → slice_get kinds j ≡ Some (Some m) → (b : Bool) → (l == j) ≡ b → slice_get (slice_set cells i v) m ≡ slice_get (slice_set ls l v) j
    by_test j m e true t =
        let f : l ≡ j = eqb-true l j t in
        let g : i ≡ m = cc (here, e, ap (slice_get kinds) f) in
        let a = get_within kinds l (Some i) here in
        let c = h.as_many in
        ap (slice_get (slice_set cells i v)) (sym g) ∙ get_set_same cells i v (h.within l i here) ∙ sym (ap (slice_get (slice_set ls l v)) (sym f) ∙ get_set_same ls l v (omega (arith, a, c)))
    by_test j m e false t =
        let ne = not_same l j t in
        let ne2 : i ≡ m → ⊥ = (λ f. ne (h.apart l j m (here ∙ ap (λ a. Some (Some a)) f) e)) in
        get_set_other cells i m v ne2 ∙ h.same j m e ∙ sym (get_set_other ls l j v ne)

pub set_grown : (x : Translation) (kinds : Kinds) (r : Made) (l i : ℕ) (v : Val) → slice_get kinds l ≡ Some (Some i) → Grown x kinds r kinds (location_set r l v)
set_grown x kinds r l i v here = let same = grown_same x kinds r r refl refl in record {
  rest = same.rest;
  more = same.more;
  kept = λ j w e h. get_set_other r.locations l j v (λ f. other j e f) ∙ h;
  procs = λ g e. refl;
}
  where
    other : (j : ℕ) → slice_get kinds j ≡ Some None → l ≡ j → ⊥
    other j e f = none_is i (let g : None ≡ Some i = cc (here, e, ap (slice_get kinds) f) in g)

module _ (x : Translation) (M : ℕ) (marks : Marking) (escapes : CpsMarking) where
  pub set_sync : (owed : ℕ) (kinds : Kinds) (r : Made) (u : State) (l i : ℕ) (v : Val) → slice_get kinds l ≡ Some (Some i) → Sync x M owed kinds r u → Sync x M owed kinds (location_set r l v) (with_location_at u i v)
  set_sync owed kinds r u l i v here y =
      let w = y.world in
      let q = location_set r l v in
      let g = set_grown x kinds r l i v here in
      record {
        world = record {
          store_as = w.store_as;
          globals_as = w.globals_as;
          catches_as = w.catches_as;
          live_as = w.live_as;
          locations_as = locations_set kinds r.locations u.locations l i v here w.locations_as;
          closures_as = zipped_more (ProcedureAs x M kinds r.locations) (ProcedureAs x M kinds q.locations) (procedure_grown x M kinds kinds r q g) r.closures u.closures w.closures_as;
          objects_as = zipped_more (ThingAs x M kinds r.locations) (ThingAs x M kinds q.locations) (thing_grown x M kinds kinds r q g) r.objects u.objects w.objects_as;
        };
        moves = y.moves;
      }

module _ (x : Translation) (M : ℕ) (marks : Marking) (escapes : CpsMarking) (facts : Facts x M marks escapes) (n : ℕ) (cl : Claims x M marks escapes n) where
  abbrev pt : Doing
  pt = part x M marks escapes facts n cl

  abbrev P : Spot x M marks escapes facts n cl → State → Made → Outcome → Type 0
  P z c s o = Path x M marks escapes facts n cl z c s o (Done x M marks escapes facts n cl z)

  pub set_local_runs : (z : Spot x M marks escapes facts n cl) (v : Var) (key : ℕ) → is_assigned x.unit v ≡ true → z.owed + 5 ≤ z.has → is_in z.bound v.0 ≡ true → OverOne x (ConvertsWithin x z.m) z.c.form z.bound z.held key (λ a. Step.Set v a z.k) z.place → Goal x M marks escapes facts n cl z (with_value (early pt z.d z.c key z.s) (λ t w. with_location z.c v.0 t (λ l. Value (location_set t l w) w)))
  set_local_runs z v key as' le i h =
      one_run x M marks escapes facts n cl z key (λ a. Step.Set v a z.k) (λ t w. with_location z.c v.0 t (λ l. Value (location_set t l w) w)) h
      (λ inner a place r w sd u now st k.
      let e = k.here.env_as v.0 i in
      subst (λ o. P z (going (At place sd) u) r (or_unbound o r (λ l. Value (location_set r l w) w))) (sym e.found)
      (by_kind inner a place r w sd u now st k e.location (slice_get now e.location) refl e.entry))
    where
      by_kind : (inner : List ℕ) (a : Arg) (place : ℕ) (r : Made) (w : Val) (sd : Scope) (u : State) (now : Kinds) → Stands x place (Step.Set v a z.k) → (k : Valued x M marks escapes z.c z.bound z.held inner (a ∷ []) z.sc z.ws z.b (z.has + 3) z.kinds z.s r (w ∷ []) sd u now) → (l : ℕ) (o : Option (Option ℕ)) → slice_get now l ≡ o → EntryAs (is_assigned x.unit v) o (slice_get r.locations l) (meant_by sd v.0) → P z (going (At place sd) u) r (Value (location_set r l w) w)
      by_kind inner a place r w sd u now st k l None e h' = absurd h'
      by_kind inner a place r w sd u now st k l (Some None) e h' = absurd (true≢false (sym as' ∙ h'.0))
      by_kind inner a place r w sd u now st k l (Some (Some j)) e h' =
          let u1 = counting 2 (going (At place sd) u) in
          gives_last x M marks escapes facts n cl z inner (a ∷ []) (z.has + 3) now r (w ∷ []) sd u place now (location_set r l w) w (with_location_at u1 j w) k
          (step_at x M marks escapes place sd u (Step.Set v a z.k) st
          ∙ arg_means x M marks escapes inner sd a w u1 (λ t y. cps_unbound (option_and_then place_of (meant_by sd v.0)) t (λ p. give (behind x M marks escapes) sd z.k y (with_location_at t p y))) (means_there x M marks escapes facts n cl z inner (a ∷ []) (z.has + 3) r (w ∷ []) sd u now k).0
          ∙ ap (λ m. cps_unbound (option_and_then place_of m) u1 (λ p. give (behind x M marks escapes) sd z.k w (with_location_at u1 p w))) h'.1)
          (omega arith) (set_grown x now r l j w e) k.here.ready.waiting
          (set_sync x M marks escapes (z.owed + 3) now r u1 l j w e (record { world = k.here.ready.sync.world; moves = omega (arith, k.here.ready.sync.moves, le) }))
