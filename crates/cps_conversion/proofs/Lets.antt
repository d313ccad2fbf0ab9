-- The state behind a binding, and LET.
use Rattle.std.proofs.Common.{◌≡◌, ℕ, suc, ◌+◌, ◌*◌, ◌≤◌, ◌⊎◌, ◌==◌, Bool, true, false, if◌then◌else◌, List, [], ◌∷◌, ◌++◌, length, map, refl, sym, ap, ◌∙◌, subst, arith, inl, inr}
use Rattle.std.proofs.lemmas.Bool.{eqb-true}
use Rattle.std.proofs.lemmas.List.Sums.{sum_by-cons}
use Rattle.t_base.specs.declared.basics.Var.{Var}
use Rattle.t_prim.specs.Values.{Val, Store}
use Rattle.t_meaning.specs.Programs.{Marking}
use Rattle.t_meaning.specs.Environment.{Env, extended}
use Rattle.t_meaning.specs.Costs.{is_assigned, binding_words}
use Rattle.t_meaning.specs.State.{State as Made, with_locations, taking as taken}
use Rattle.t_meaning.specs.Outcomes.{Doing, under, with_values, last}
use Rattle.t_meaning.specs.Bindings.{binding}
use Rattle.cps_ir.specs.declared.args.Arg.{Arg}
use Rattle.cps_ir.specs.States.{Marking as CpsMarking, Scope, State, At, going}
use Rattle.cps_ir.specs.Giving.{way}
use Rattle.cps_ir.specs.Reaches.{is_in}
use Rattle.cps_conversion.specs.Conversion.{Translation, ConvertsWithin, adding, own_place, Assigned, LetAs}
use Rattle.cps_conversion.proofs.Zips.{Zipped, zipped_more}
use Rattle.cps_conversion.proofs.Scopes.{extends_trans, extends_less, in_cases, in_here, in_more, in_adding, total, waits_more}
use Rattle.cps_conversion.proofs.Relate.{Kinds, Grown, grown_trans, get_append, ProcedureAs, ThingAs, procedure_grown, thing_grown, live_of, Sync}
use Rattle.cps_conversion.proofs.Paths.{runs_since, runs_wider}
use Rattle.cps_conversion.proofs.Claims.{before, behind, Facts, Given, Away, Claims}
use Rattle.cps_conversion.proofs.Operands.{values_run}
use Rattle.cps_conversion.proofs.Spots.{Spot, Done, Goal, part, low, stays, still_waits, deeper_last, given_over, values_length}
use Rattle.cps_conversion.proofs.Terms.{means_there}
use Rattle.cps_conversion.proofs.Bindings.{Bounded, assigned_run}

pub adding_inside : (vars : List Var) (a b : List ℕ) → ((y : ℕ) → is_in a y ≡ true → is_in b y ≡ true) → (y : ℕ) → is_in (adding vars a) y ≡ true → is_in (adding vars b) y ≡ true
adding_inside [] a b f y e = f y e
adding_inside (v ∷ vars) a b f y e = adding_inside vars (v.0 ∷ a) (v.0 ∷ b) (λ z i. one z (in_cases v.0 z a i)) y e
  where
    one : (z : ℕ) → ((v.0 == z) ≡ true) ⊎ ((v.0 == z) ≡ false) × (is_in a z ≡ true) → is_in (v.0 ∷ b) z ≡ true
    one z (inl i) = subst (λ w. is_in (v.0 ∷ b) w ≡ true) (eqb-true v.0 z i) (in_here v.0 b)
    one z (inr i) = in_more v.0 z b (f z i.1)

module _ (x : Translation) (M : ℕ) (marks : Marking) (escapes : CpsMarking) (facts : Facts x M marks escapes) where
  -- two words at most for each variable
  pub words_most : (vars : List Var) → binding_words x.unit vars ≤ 2 * length vars
  words_most [] = omega arith
  words_most (v ∷ vars) = let h = words_most vars in let e = sum_by-cons (λ y. if is_assigned x.unit y then 2 else 0) v vars in let f = two (is_assigned x.unit v) in omega (arith, h, e, f)
    where
      two : (b : Bool) → (if b then 2 else 0) ≤ 2
      two true = omega arith
      two false = omega arith

  pub assigned_length : (held : List ℕ) (vars : List Var) (args : List Arg) (t next : ℕ) → Assigned x held vars args t next → length args ≡ length vars
  assigned_length held [] [] t next h = refl
  assigned_length held (v ∷ vars) (a ∷ args) t next (inl h) = ap suc (assigned_length held vars args t next h.2)
  assigned_length held (v ∷ vars) (a ∷ args) t next (inr h) = ap suc (assigned_length (v.0 ∷ held) vars args h.2.0 next h.2.2)
  assigned_length held [] (a ∷ args) t next h = absurd h
  assigned_length held (v ∷ vars) [] t next h = absurd h

  -- the unit's state behind the binding
  abbrev pub bound_state : List Var → List Val → Made → Made
  bound_state vars vs r = taken (binding_words x.unit vars) (with_locations r vs)

  pub bound_grown : (bnd held : List ℕ) (env : Env) (kinds : Kinds) (vars : List Var) (vs : List Val) (sc : Scope) (r : Made) (u : State) (se : Scope) (v : State) (now : Kinds) → Bounded x M marks escapes facts bnd held env kinds r.locations vars vs sc u se v now → Grown x kinds r now (bound_state vars vs r)
  bound_grown bnd held env kinds vars vs sc r u se v now k = record { rest = k.rest; more = k.more; kept = λ l w a e. get_append r.locations vs l w e; procs = λ g p. refl }

  pub bound_sync : (owed has : ℕ) (bnd held : List ℕ) (env : Env) (kinds : Kinds) (vars : List Var) (vs : List Val) (sc : Scope) (r : Made) (u : State) (se : Scope) (v : State) (now : Kinds) → owed + binding_words x.unit vars ≤ has → Bounded x M marks escapes facts bnd held env kinds r.locations vars vs sc u se v now → Sync x M has kinds r u → Sync x M owed now (bound_state vars vs r) v
  bound_sync owed has bnd held env kinds vars vs sc r u se v now le k y =
      let g = bound_grown bnd held env kinds vars vs sc r u se v now k in
      let w = y.world in
      record {
        world = record {
          store_as = k.store_as ∙ ap {A = Store} (λ st. record st { heap = st.heap + binding_words x.unit vars }) w.store_as;
          globals_as = k.globals_as ∙ w.globals_as;
          catches_as = k.catches_as ∙ w.catches_as;
          live_as = ap (live_of x M) k.waiting_as ∙ w.live_as;
          locations_as = k.locations_as;
          closures_as = subst (λ cs. Zipped (ProcedureAs x M now (r.locations ++ vs)) r.closures cs) (sym k.closures_as) (zipped_more (ProcedureAs x M kinds r.locations) (ProcedureAs x M now (r.locations ++ vs)) (procedure_grown x M kinds now r (bound_state vars vs r) g) r.closures u.closures w.closures_as);
          objects_as = subst (λ cs. Zipped (ThingAs x M now (r.locations ++ vs)) r.objects cs) (sym k.objects_as) (zipped_more (ThingAs x M kinds r.locations) (ThingAs x M now (r.locations ++ vs)) (thing_grown x M kinds now r (bound_state vars vs r) g) r.objects u.objects w.objects_as);
        };
        moves = omega (arith, y.moves, k.moves_as, le);
      }

module _ (x : Translation) (M : ℕ) (marks : Marking) (escapes : CpsMarking) (facts : Facts x M marks escapes) (n : ℕ) (cl : Claims x M marks escapes n) where
  abbrev pt : Doing
  pt = part x M marks escapes facts n cl

  pub let_runs : (z : Spot x M marks escapes facts n cl) (vars : List Var) (keys : List ℕ) (body : ℕ) → z.owed + 5 ≤ z.has → LetAs x (ConvertsWithin x z.m) z.c.form z.bound z.held vars keys body z.k z.place → Goal x M marks escapes facts n cl z (with_values pt z.d z.c keys z.s (λ t vs. binding (before x M marks escapes) vars vs z.c.env t (λ env u. last pt z.d (under env z.c) body u)))
  let_runs z vars keys body le h =
      values_run x M marks escapes facts n cl z.m z.c z.bound z.held h.inner (map (own_place x.unit) vars) keys h.args z.place h.behind z.d z.has z.sc z.ws z.b z.kinds z.s z.t (λ t vs. binding (before x M marks escapes) vars vs z.c.env t (λ env u. last pt z.d (under env z.c) body u)) (Done x M marks escapes facts n cl z) h.values (let sh = z.shallow in omega (arith, sh)) (low x M marks escapes facts n cl z) (stays x M marks escapes facts n cl z) z.here
      (λ r vs sd u now k.
      let q = bound_state x M marks escapes facts vars vs r in
      let env = extended vars (length r.locations) z.c.env in
      let o = last pt z.d (under env z.c) body q in
      let s0 = stays x M marks escapes facts n cl z in
      let dp = k.deep in
      let count = assigned_length x M marks escapes facts h.inner vars h.args h.behind h.start h.assigned in
      let count2 = values_length x z.m z.c.form z.bound z.held h.inner (map (own_place x.unit) vars) keys h.args z.place h.behind h.values in
      let most = words_most x M marks escapes facts vars in
      runs_since (behind x M marks escapes) M (Away x M marks escapes z.ws z.b) z.m n (going (At h.behind sd) u) r q o (Done x M marks escapes facts n cl z) (omega arith)
      (assigned_run x M marks escapes facts (Away x M marks escapes z.ws z.b) z.m n q o (Done x M marks escapes facts n cl z) h.start vars h.args vs z.bound h.inner z.c.env now r.locations sd u h.behind h.assigned (means_there x M marks escapes facts n cl z h.inner h.args (z.has + 3 * length keys) r vs sd u now k) (λ y i. k.wider y (z.here.inside y i)) k.here.env_as k.here.ready.sync.world.locations_as (omega (arith, s0, dp, ap total k.here.ready.waiting))
      (λ se v now2 bd.
      let over = extends_trans z.held z.sc sd se k.over (extends_less h.inner z.held sd se k.wider bd.over) in
      let g = bound_grown x M marks escapes facts z.bound h.inner z.c.env now vars vs sd r u se v now2 bd in
      runs_wider (behind x M marks escapes) M (Away x M marks escapes z.ws z.b) z.m n (going (At h.start se) v) q o (Given x M marks escapes (adding vars z.held) z.k se z.ws z.since z.from z.owed) (Done x M marks escapes facts n cl z)
      (cl.evaluates z.m (under env z.c) body (adding vars z.bound) (adding vars z.held) z.k h.start (if z.c.tail then z.d else suc z.d) z.owed se z.ws z.b z.since z.from now2 q v
      (grown_trans x z.since now now2 z.from r q (grown_trans x z.since z.kinds now z.from z.s r z.grown k.grown) g)
      h.body_as (let sh = z.shallow in omega (arith, sh)) (waits_more (way se z.k) z.ws z.d (if z.c.tail then z.d else suc z.d) (deeper_last x M marks escapes facts n cl z.c.tail z.d) (still_waits x M marks escapes facts n cl z se over)) (omega (arith, s0, dp))
      (record {
        ready = record {
          waiting = bd.waiting_as ∙ k.here.ready.waiting;
          least = z.least;
          grown = grown_trans x z.b.kinds now now2 z.b.made r q k.here.ready.grown g;
          sync = bound_sync x M marks escapes facts z.owed (z.has + 3 * length keys) z.bound h.inner z.c.env now vars vs sd r u se v now2 (omega (arith, le, most, count, count2)) bd k.here.ready.sync;
        };
        inside = adding_inside vars z.bound z.held z.here.inside;
        env_as = bd.env_as;
      }))
      (λ p w e deeper gv. given_over x M marks escapes facts n cl z.held z.k z.sc se z.ws z.since z.from p z.owed w e over
      (record { scope = gv.scope; state = gv.state; kinds = gv.kinds; lands = gv.lands; waiting = gv.waiting; over = extends_less (adding vars z.held) z.held se gv.scope (λ y i. in_adding vars y z.held i) gv.over; grown = gv.grown; sync = gv.sync })))))
