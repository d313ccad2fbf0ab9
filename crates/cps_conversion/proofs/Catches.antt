-- CATCH.
use Rattle.std.proofs.Common.{◌≡◌, ℕ, zero, suc, ◌+◌, ◌≤◌, ◌⊎◌, ◌==◌, Bool, true, false, if◌then◌else◌, List, [], ◌∷◌, length, Option, Some, None, option_and_then, refl, sym, ap, ◌∙◌, subst, arith, le_trans, inl, inr, ⊎_elim}
use Rattle.t_base.specs.declared.basics.Var.{Var}
use Rattle.t_prim.specs.Values.{Val, Store, EscapeV}
use Rattle.t_meaning.specs.Programs.{Marking}
use Rattle.t_meaning.specs.Environment.{extended}
use Rattle.t_meaning.specs.State.{State as Made, with_live, entered}
use Rattle.t_meaning.specs.Outcomes.{Outcome, Value, Escaping, Faulted, Out, Context, Evaluate, Doing}
use Rattle.t_meaning.specs.Catches.{opened, arrived, closed, catching}
use Rattle.t_meaning.specs.Performing.{perform}
use Rattle.cps_ir.specs.declared.args.Arg.TheVariants as Argument
use Rattle.cps_ir.specs.declared.terms.Cont.{Cont}
use Rattle.cps_ir.specs.declared.terms.Cont.TheVariants as Continuation
use Rattle.cps_ir.specs.declared.terms.Term.TheVariants as Step
use Rattle.cps_ir.specs.States.{Marking as CpsMarking, Direct, Bound, Scope, Pending, Waiting, Back, Live, State, At, going, counting, taking, with_catch, with_waiting}
use Rattle.cps_ir.specs.Giving.{or_unbound as cps_unbound, value_of, located, binding, Way, Out as Outwards, On, Lost, way, given, returned, give}
use Rattle.cps_ir.specs.Calls.{unwound}
use Rattle.cps_ir.specs.Running.{step, opening, closing_catch, catch_words}
use Rattle.cps_conversion.specs.Conversion.{Translation, ConvertsWithin, CatchAs, WithName}
use Rattle.cps_conversion.proofs.Scopes.{Extends, extends_same, extends_trans, extends_less, extends_bound, in_here, in_more, meant_here, total, total_live, IsBack, Waits}
use Rattle.cps_conversion.proofs.Relate.{grown_trans, env_extends, live_of, Sync}
use Rattle.cps_conversion.proofs.Paths.{waiting_of, Gone, Runs, gone_none, runs_after, runs_step, runs_since, runs_wider}
use Rattle.cps_conversion.proofs.Claims.{before, behind, Facts, Base, Given, Escaped, Away, Claims, step_at, gives_now}
use Rattle.cps_conversion.proofs.Operands.{procs_there, given_plain}
use Rattle.cps_conversion.proofs.Spots.{Spot, at, Path, Done, Goal, part, stays, now_waits, named, joined, given_over}
use Rattle.cps_conversion.proofs.Bindings.{assigned_run}
use Rattle.cps_conversion.proofs.Lets.{words_most, bound_state, bound_grown, bound_sync, adding_inside}

-- what waits behind a catch with this continuation of its own
abbrev pub rest_of : Option Pending → List Waiting → List Waiting
rest_of None ws = ws
rest_of (Some pending) ws = Back pending ∷ ws

unwound_live : (i j : ℕ) (own : Option Pending) (ws : List Waiting) → unwound j (Live i own ∷ ws) ≡ (if i == j then Some (rest_of own ws) else unwound j ws)
unwound_live i j None ws = refl
unwound_live i j (Some pending) ws = refl

pub zero_or : (n : ℕ) → (n ≡ 0) ⊎ ((j : ℕ) × (n ≡ suc j))
zero_or zero = inl refl
zero_or (suc j) = inr (j, refl)

module _ (x : Translation) (M : ℕ) (marks : Marking) (escapes : CpsMarking) (facts : Facts x M marks escapes) (n : ℕ) (cl : Claims x M marks escapes n) where
  abbrev S : Type 0
  S = Spot x M marks escapes facts n cl

  abbrev pt : Doing
  pt = part x M marks escapes facts n cl

  -- the base of the body
  abbrev inner_base : S → Base x M marks escapes
  inner_base z = record { kinds = z.kinds; made = z.s; owed = z.owed + 2; procs = procs_there x M marks escapes z.b z.kinds z.s z.here.ready.grown }

  -- the value of the body, or an escape, at the catch
  module _ (z : S) (v : Var) (body : ℕ) (h : CatchAs x (ConvertsWithin x z.m) z.c.form z.bound z.held v body z.k z.place) (own : Option Pending) (back : (st : State) (w : Val) → returned (behind x M marks escapes) (rest_of own z.ws) w st ≡ give (behind x M marks escapes) z.sc z.k w (with_waiting st z.ws)) where
    abbrev inside : List Waiting
    inside = Live z.s.catches own ∷ z.ws

    outer_live : live_of x M z.ws ≡ z.s.live
    outer_live = sym (ap (live_of x M) z.here.ready.waiting) ∙ z.here.ready.sync.world.live_as

    closed_value : (c : State) (s r : Made) (w : Val) (d : State) → Gone (behind x M marks escapes) M c s r d → Given x M marks escapes z.held (Continuation.Lam h.value h.end) z.sc inside z.kinds z.s (z.owed + 2) r w d → total z.ws ≤ r.deepest → Path x M marks escapes facts n cl z c s (Value (with_live r z.s.live) w) (Done x M marks escapes facts n cl z)
    closed_value c s r w d gone g bound =
        let st = g.state in
        let sd : Scope = Bound h.value.0 (Direct w) ∷ g.scope in
        let s1 = counting 2 (going (At h.end sd) st) in
        let q = with_live r z.s.live in
        let y = g.sync.world in
        let here : d ≡ going (At h.end sd) st = g.lands ∙ given_plain x M marks escapes facts h.value h.end g.scope w st h.value_new.unassigned in
        let low : waiting_of d ≤ r.deepest = subst (λ e. waiting_of e ≤ r.deepest) gone.lands (gone.waits gone.count (omega arith)) in
        runs_after (behind x M marks escapes) M (Away x M marks escapes z.ws z.b) z.m n c d s r (Value q w) (Done x M marks escapes facts n cl z) gone
        (gives_now x M marks escapes z.m n z.held z.k z.sc sd z.ws z.b z.since z.from z.owed g.kinds d r q w (with_waiting s1 z.ws)
        (ap (step (behind x M marks escapes)) here
        ∙ step_at x M marks escapes h.end sd st (Step.Uncatch z.k (Argument.Var h.value)) h.ends
        ∙ ap (λ o. cps_unbound (option_and_then (value_of s1) o) s1 (λ a. closing_catch s1.waiting s1 (λ u. give (behind x M marks escapes) sd z.k a u))) (meant_here h.value.0 (Direct w) g.scope)
        ∙ ap (λ l. closing_catch l s1 (λ u. give (behind x M marks escapes) sd z.k w u)) g.waiting)
        low (omega arith) (extends_trans z.held z.sc g.scope sd g.over (extends_bound z.held h.value.0 (Direct w) g.scope h.value_new.apart)) bound
        (grown_trans x z.since z.kinds g.kinds z.from z.s q z.grown g.grown) refl
        (record { world = record { store_as = y.store_as; globals_as = y.globals_as; catches_as = y.catches_as; live_as = outer_live; locations_as = y.locations_as; closures_as = y.closures_as; objects_as = y.objects_as }; moves = omega (arith, g.sync.moves) }))

    closed_escape : (c : State) (s r : Made) (j : ℕ) (w : Val) (d : State) → Gone (behind x M marks escapes) M c s r d → Escaped x M marks escapes (unwound j inside) (inner_base z) r w d → Path x M marks escapes facts n cl z c s (arrived (z.s.catches == j) (with_live r z.s.live) j w) (Done x M marks escapes facts n cl z)
    closed_escape c s r j w d gone e = by_test (z.s.catches == j) (sym (unwound_live z.s.catches j own z.ws) ∙ e.live)
      where
        gone2 : Gone (behind x M marks escapes) M c s (with_live r z.s.live) d
        gone2 = record { count = gone.count; lands = gone.lands; waits = gone.waits; deep = gone.deep }

        some_same : (a b : List Waiting) → Some a ≡ Some b → a ≡ b
        some_same a b f = cc

        by_test : (b : Bool) → (if b then Some (rest_of own z.ws) else unwound j z.ws) ≡ Some e.rest → Path x M marks escapes facts n cl z c s (arrived b (with_live r z.s.live) j w) (Done x M marks escapes facts n cl z)
        by_test true f =
            let y = e.sync.world in (
              d,
              gone2,
              record {
                scope = z.sc;
                state = with_waiting e.state z.ws;
                kinds = e.kinds;
                lands = e.lands ∙ ap (λ l. returned (behind x M marks escapes) l w e.state) (sym (some_same (rest_of own z.ws) e.rest f)) ∙ back e.state w;
                waiting = refl;
                over = extends_same z.held z.sc;
                grown = grown_trans x z.since z.kinds e.kinds z.from z.s r z.grown e.grown;
                sync = record { world = record { store_as = y.store_as; globals_as = y.globals_as; catches_as = y.catches_as; live_as = outer_live; locations_as = y.locations_as; closures_as = y.closures_as; objects_as = y.objects_as }; moves = omega (arith, e.sync.moves) };
              },
            )
        by_test false f = (
          d,
          gone2,
          record {
            rest = e.rest;
            live = f;
            state = e.state;
            kinds = e.kinds;
            lands = e.lands;
            grown = grown_trans x z.b.kinds z.kinds e.kinds z.b.made z.s r z.here.ready.grown e.grown;
            sync = record { world = e.sync.world; moves = (let l = z.least in omega (arith, e.sync.moves, l)) };
          },
        )

    closed_run : (c : State) (s : Made) (o : Outcome) → total z.ws ≤ s.deepest → Runs (behind x M marks escapes) M (Away x M marks escapes inside (inner_base z)) z.m n c s o (Given x M marks escapes z.held (Continuation.Lam h.value h.end) z.sc inside z.kinds z.s (z.owed + 2)) → Path x M marks escapes facts n cl z c s (closed z.s.catches z.s.live o) (Done x M marks escapes facts n cl z)
    closed_run c s (Value r w) low k = closed_value c s r w k.0 k.1 k.2 (le_trans low k.1.deep)
    closed_run c s (Escaping r j w) low k = closed_escape c s r j w k.0 k.1 k.2
    closed_run c s (Faulted r e) low k = k
    closed_run c s (Out r) low k = k

    abbrev bound_one : Made
    bound_one = bound_state x M marks escapes facts (v ∷ []) (EscapeV z.s.catches ∷ []) (opened z.s)

    abbrev context : Context
    context = record z.c { tail = false; env = extended (v ∷ []) (length z.s.locations) z.c.env }

    -- the body, where the bound isn't over
    body_run : z.owed + 4 ≤ z.has → total inside ≤ suc z.d → (j : ℕ) → n ≡ suc j → step (behind x M marks escapes) (at x M marks escapes facts n cl z) ≡ going (At h.inner (Bound h.name.0 (Direct (EscapeV z.t.catches)) ∷ z.sc)) (taking catch_words (with_catch (counting 1 (at x M marks escapes facts n cl z)) own)) → Goal x M marks escapes facts n cl z (closed z.s.catches z.s.live (pt (suc (suc z.d)) (Evaluate body context) bound_one))
    body_run le less j e st =
        let u2 = taking catch_words (with_catch (counting 1 (at x M marks escapes facts n cl z)) own) in
        let name_means : Bound h.name.0 (Direct (EscapeV z.t.catches)) ∷ z.sc ≡ Bound h.name.0 (Direct (EscapeV z.s.catches)) ∷ z.sc = ap (λ k. Bound h.name.0 (Direct (EscapeV k)) ∷ z.sc) z.here.ready.sync.world.catches_as in
        let sd : Scope = Bound h.name.0 (Direct (EscapeV z.s.catches)) ∷ z.sc in
        let d2 = suc (suc z.d) in
        let q = bound_one in
        let r0 = entered d2 q in
        let o = pt d2 (Evaluate body context) q in
        let s0 = stays x M marks escapes facts n cl z in
        let w = z.here.ready.sync.world in
        let over1 : Extends z.held z.sc sd = extends_bound z.held h.name.0 (Direct (EscapeV z.s.catches)) z.sc h.name_new.apart in
        let waiting2 : u2.waiting ≡ inside = ap (λ k. Live k own ∷ z.t.waiting) w.catches_as ∙ ap (λ l. Live z.s.catches own ∷ l) z.here.ready.waiting in
        let most = words_most x M marks escapes facts (v ∷ []) in
        let sync2 : Sync x M (z.owed + 2 + 2) z.kinds (opened z.s) u2 = record {
          world = record {
            store_as = ap {A = Store} (λ a. record a { heap = a.heap + catch_words }) w.store_as;
            globals_as = w.globals_as;
            catches_as = ap suc w.catches_as;
            live_as = ap (λ k. k ∷ live_of x M z.t.waiting) w.catches_as ∙ ap (λ l. z.s.catches ∷ l) w.live_as;
            locations_as = w.locations_as;
            closures_as = w.closures_as;
            objects_as = w.objects_as;
          };
          moves = omega (arith, z.here.ready.sync.moves, le);
        } in
        runs_step (behind x M marks escapes) M (Away x M marks escapes z.ws z.b) z.m n (at x M marks escapes facts n cl z) (going (At h.inner sd) u2) z.s (closed z.s.catches z.s.live o) (Done x M marks escapes facts n cl z)
        (st ∙ ap (λ sc. going (At h.inner sc) u2) name_means) (now_waits x M marks escapes facts n cl z)
        (runs_since (behind x M marks escapes) M (Away x M marks escapes z.ws z.b) z.m n (going (At h.inner sd) u2) z.s r0 (closed z.s.catches z.s.live o) (Done x M marks escapes facts n cl z) (omega arith)
        (closed_run (going (At h.inner sd) u2) r0 o (omega (arith, s0))
        (assigned_run x M marks escapes facts (Away x M marks escapes inside (inner_base z)) z.m n r0 o (Given x M marks escapes z.held (Continuation.Lam h.value h.end) z.sc inside z.kinds z.s (z.owed + 2)) h.start (v ∷ []) (Argument.Var h.name ∷ []) (EscapeV z.s.catches ∷ []) z.bound (h.name.0 ∷ z.held) z.c.env z.kinds z.s.locations sd u2 h.inner
        h.assigned ((in_here h.name.0 z.held, meant_here h.name.0 (Direct (EscapeV z.s.catches)) z.sc), tt) (λ y i. in_more h.name.0 y z.held (z.here.inside y i))
        (env_extends x z.bound z.kinds z.s.locations z.c.env z.sc sd (extends_less z.held z.bound z.sc sd z.here.inside over1) z.here.env_as) w.locations_as (omega (arith, ap total waiting2, less))
        (λ se t now bd.
        let over : Extends z.held z.sc se = extends_trans z.held z.sc sd se over1 (extends_less (h.name.0 ∷ z.held) z.held sd se (λ y i. in_more h.name.0 y z.held i) bd.over) in
        let g = bound_grown x M marks escapes facts z.bound (h.name.0 ∷ z.held) z.c.env z.kinds (v ∷ []) (EscapeV z.s.catches ∷ []) sd (opened z.s) u2 se t now bd in
        runs_wider (behind x M marks escapes) M (Away x M marks escapes inside (inner_base z)) z.m n (going (At h.start se) t) r0 o (Given x M marks escapes (v.0 ∷ z.held) (Continuation.Lam h.value h.end) se inside z.kinds z.s (z.owed + 2)) (Given x M marks escapes z.held (Continuation.Lam h.value h.end) z.sc inside z.kinds z.s (z.owed + 2))
        (cl.late j e z.m context body (v.0 ∷ z.bound) (v.0 ∷ z.held) (Continuation.Lam h.value h.end) h.start d2 (z.owed + 2) se inside (inner_base z) z.kinds z.s now q t g h.body_as (let sh = z.shallow in omega (arith, sh)) (omega (arith, less))
        (record {
          ready = record { waiting = bd.waiting_as ∙ waiting2; least = omega arith; grown = g; sync = bound_sync x M marks escapes facts (z.owed + 2) (z.owed + 2 + 2) z.bound (h.name.0 ∷ z.held) z.c.env z.kinds (v ∷ []) (EscapeV z.s.catches ∷ []) sd (opened z.s) u2 se t now (omega (arith, most)) bd sync2 };
          inside = adding_inside (v ∷ []) z.bound z.held z.here.inside;
          env_as = bd.env_as;
        }))
        (λ p a b deeper gv. given_over x M marks escapes facts n cl z.held (Continuation.Lam h.value h.end) z.sc se inside z.kinds z.s p (z.owed + 2) a b over
        (record { scope = gv.scope; state = gv.state; kinds = gv.kinds; lands = gv.lands; waiting = gv.waiting; over = extends_less (v.0 ∷ z.held) z.held se gv.scope (λ y i. in_more v.0 y z.held i) gv.over; grown = gv.grown; sync = gv.sync }))))))

  -- the bound is over before the body begins
  over_now : (z : S) (v : Var) (body : ℕ) → z.owed + 4 ≤ z.has → n ≡ 0 → Goal x M marks escapes facts n cl z (catching (before x M marks escapes) pt z.d z.c v body z.s)
  over_now z v body le e =
      let q = bound_state x M marks escapes facts (v ∷ []) (EscapeV z.s.catches ∷ []) (opened z.s) in
      let c1 : Context = record z.c { tail = false; env = extended (v ∷ []) (length z.s.locations) z.c.env } in
      let w = z.here.ready.sync.world in
      subst (λ o. Goal x M marks escapes facts n cl z (closed z.s.catches z.s.live o)) (sym (ap (λ i. perform (before x M marks escapes) i (suc (suc z.d)) (Evaluate body c1) q) e)) (
        at x M marks escapes facts n cl z,
        gone_none (behind x M marks escapes) M (at x M marks escapes facts n cl z) z.s q (now_waits x M marks escapes facts n cl z) (omega arith),
        refl,
        record { output = ap (λ a. a.output) w.store_as; heap = (let f = ap (λ a. a.heap) w.store_as in omega (arith, f)); moves = omega (arith, z.here.ready.sync.moves) },
        omega (arith, e),
      )

  back_out : (ws : List Waiting) (w : Val) (st : State) → IsBack ws → returned (behind x M marks escapes) ws w st ≡ returned (behind x M marks escapes) ws w (with_waiting st ws)
  back_out [] w st h = absurd h
  back_out (Back pending ∷ ws) w st h = refl
  back_out (Live i own ∷ ws) w st h = absurd h

  by_way : (z : S) (v : Var) (body : ℕ) (le : z.owed + 4 ≤ z.has) (h : CatchAs x (ConvertsWithin x z.m) z.c.form z.bound z.held v body z.k z.place) (j : ℕ) → n ≡ suc j → (w : Way) → way z.sc z.k ≡ w → Waits w z.ws z.d
      → step (behind x M marks escapes) (at x M marks escapes facts n cl z) ≡ opening w (counting 1 (at x M marks escapes facts n cl z)) (λ t. going (At h.inner (Bound h.name.0 (Direct (EscapeV z.t.catches)) ∷ z.sc)) t)
      → Goal x M marks escapes facts n cl z (catching (before x M marks escapes) pt z.d z.c v body z.s)
  by_way z v body le h j e Outwards f waits st =
      body_run z v body h None (λ t w. back_out z.ws w t waits.0 ∙ ap (λ y. given (behind x M marks escapes) y w (with_waiting t z.ws)) (sym f)) le (let a = waits.1 in omega (arith, a, total_live z.s.catches None z.ws)) j e st
  by_way z v body le h j e (On pending) f waits st =
      body_run z v body h (Some pending) (λ t w. ap (λ y. given (behind x M marks escapes) y w (with_waiting t z.ws)) (sym f)) le (omega (arith, waits, total_live z.s.catches (Some pending) z.ws)) j e st
  by_way z v body le h j e Lost f waits st = absurd waits

  catch_as : (z : S) (v : Var) (body : ℕ) → z.owed + 4 ≤ z.has → CatchAs x (ConvertsWithin x z.m) z.c.form z.bound z.held v body z.k z.place → Goal x M marks escapes facts n cl z (catching (before x M marks escapes) pt z.d z.c v body z.s)
  catch_as z v body le h = ⊎_elim
      (λ e. over_now z v body le e)
      (λ e. by_way z v body le h e.0 e.1 (way z.sc z.k) refl z.waits
      (step_at x M marks escapes z.place z.sc z.t (Step.Catch h.name h.inner z.k) h.stands
      ∙ opened_plain (way z.sc z.k)))
      (zero_or n)
    where
      opened_plain : (w : Way) → opening w (counting 1 (at x M marks escapes facts n cl z)) (λ t. binding (behind x M marks escapes) h.name.0 (EscapeV z.t.catches) z.sc t (λ inner u. going (At h.inner inner) u)) ≡ opening w (counting 1 (at x M marks escapes facts n cl z)) (λ t. going (At h.inner (Bound h.name.0 (Direct (EscapeV z.t.catches)) ∷ z.sc)) t)
      opened_plain w = ap {A = Bool} (λ b. opening w (counting 1 (at x M marks escapes facts n cl z)) (λ t. if b then located h.name.0 (EscapeV z.t.catches) z.sc t (λ inner u. going (At h.inner inner) u) else going (At h.inner (Bound h.name.0 (Direct (EscapeV z.t.catches)) ∷ z.sc)) t)) (facts.assigned h.name ∙ h.name_new.unassigned)

  catch_by : (z : S) (v : Var) (body : ℕ) (k : Cont) → z.k ≡ k → z.owed + 5 ≤ z.has → WithName x k z.place (CatchAs x (ConvertsWithin x z.m) z.c.form z.bound z.held v body) → Goal x M marks escapes facts n cl z (catching (before x M marks escapes) pt z.d z.c v body z.s)
  unfolding named
  catch_by z v body (Continuation.Var j) e le h = catch_as z v body (omega (arith, le)) (subst (λ k. CatchAs x (ConvertsWithin x z.m) z.c.form z.bound z.held v body k z.place) (sym e) h)
  catch_by z v body (Continuation.Lam p b) e le h =
      joined x M marks escapes facts n cl z p h.0 b h.1 e le _ h.2 (catch_as (named x M marks escapes facts n cl z p h.0 b h.1 e le) v body (omega arith) h.3)

  pub catch_runs : (z : S) (v : Var) (body : ℕ) → z.owed + 5 ≤ z.has → WithName x z.k z.place (CatchAs x (ConvertsWithin x z.m) z.c.form z.bound z.held v body) → Goal x M marks escapes facts n cl z (catching (before x M marks escapes) pt z.d z.c v body z.s)
  catch_runs z v body le h = catch_by z v body z.k refl le h
