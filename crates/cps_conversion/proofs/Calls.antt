-- Calls, up to the step that makes them.
use Rattle.std.proofs.Common.{◌≡◌, ℕ, ◌+◌, ◌*◌, ◌≤◌, List, [], ◌∷◌, length, refl, sym, ap, ◌∙◌, arith}
use Rattle.t_base.specs.declared.faults.Fault.TheVariants.{Unbound}
use Rattle.t_prim.specs.Values.{Val}
use Rattle.t_meaning.specs.Programs.{Marking}
use Rattle.t_meaning.specs.State.{State as Made}
use Rattle.t_meaning.specs.Outcomes.{Outcome, Faulted, Doing, Apply, with_value, with_values, early}
use Rattle.cps_ir.specs.declared.args.Arg.{Arg}
use Rattle.cps_ir.specs.declared.terms.Term.TheVariants as Step
use Rattle.cps_ir.specs.States.{Marking as CpsMarking, Scope, Pending, Back, State, At, Calling, going, counting, with_waiting}
use Rattle.cps_ir.specs.Giving.{with_args, Way, Out as Outwards, On, Lost, way, given, returned, pushing}
use Rattle.cps_ir.specs.Running.{step}
use Rattle.cps_conversion.specs.Conversion.{Translation, Stands, ConvertsWithin, CallAs}
use Rattle.cps_conversion.proofs.Zips.{zipped_length}
use Rattle.cps_conversion.proofs.Scopes.{total, total_back, Waits}
use Rattle.cps_conversion.proofs.Relate.{Kinds, grown_trans, live_of}
use Rattle.cps_conversion.proofs.Paths.{runs_step, runs_wider}
use Rattle.cps_conversion.proofs.Claims.{behind, Facts, Returned, Away, Claims, step_at, ArgMeans, arg_means, args_mean}
use Rattle.cps_conversion.proofs.Operands.{Valued}
use Rattle.cps_conversion.proofs.Spots.{Spot, Path, Done, Goal, part, stays, still_waits, over_run}
use Rattle.cps_conversion.proofs.Terms.{means_there}

module _ (x : Translation) (M : ℕ) (marks : Marking) (escapes : CpsMarking) (facts : Facts x M marks escapes) (n : ℕ) (cl : Claims x M marks escapes n) where
  abbrev S : Type 0
  S = Spot x M marks escapes facts n cl

  abbrev G : S → Outcome → Type 0
  G z o = Goal x M marks escapes facts n cl z o

  abbrev P : S → State → Made → Outcome → Type 0
  P z c s o = Path x M marks escapes facts n cl z c s o (Done x M marks escapes facts n cl z)

  abbrev V : S → List ℕ → List Arg → ℕ → Made → List Val → Scope → State → Kinds → Type 0
  V z inner args has r vs sd u now = Valued x M marks escapes z.c z.bound z.held inner args z.sc z.ws z.b has z.kinds z.s r vs sd u now

  abbrev pt : Doing
  pt = part x M marks escapes facts n cl

  -- what came back where the continuation leads out
  back_out : (z : S) (sd : Scope) (r : Made) (v : Val) (e : State) (inner : List ℕ) (args : List Arg) (has : ℕ) (q : Made) (vs : List Val) (u : State) (now : Kinds) → V z inner args has q vs sd u now → way sd z.k ≡ Outwards → Returned x M marks escapes z.ws z.since z.from z.owed r v e → Done x M marks escapes facts n cl z r v e
  back_out z sd r v e inner args has q vs u now k w g = record {
    scope = sd;
    state = g.state;
    kinds = g.kinds;
    lands = g.lands ∙ ap (λ l. returned (behind x M marks escapes) l v g.state) (sym g.waiting) ∙ ap (λ y. given (behind x M marks escapes) y v g.state) (sym w);
    waiting = g.waiting;
    over = k.over;
    grown = g.grown;
    sync = g.sync;
  }

  -- and where it waited itself
  back_on : (z : S) (sd : Scope) (pending : Pending) (r : Made) (v : Val) (e : State) (inner : List ℕ) (args : List Arg) (has : ℕ) (q : Made) (vs : List Val) (u : State) (now : Kinds) → V z inner args has q vs sd u now → way sd z.k ≡ On pending → Returned x M marks escapes (Back pending ∷ z.ws) z.since z.from z.owed r v e → Done x M marks escapes facts n cl z r v e
  back_on z sd pending r v e inner args has q vs u now k w g =
      let y = g.sync.world in record {
        scope = sd;
        state = with_waiting g.state z.ws;
        kinds = g.kinds;
        lands = g.lands ∙ ap (λ a. given (behind x M marks escapes) a v (with_waiting g.state z.ws)) (sym w);
        waiting = refl;
        over = k.over;
        grown = g.grown;
        sync = record {
          world = record { store_as = y.store_as; globals_as = y.globals_as; catches_as = y.catches_as; live_as = sym (ap (live_of x M) g.waiting) ∙ y.live_as; locations_as = y.locations_as; closures_as = y.closures_as; objects_as = y.objects_as };
          moves = g.sync.moves;
        };
      }

  by_way : (z : S) (inner : List ℕ) (f : Arg) (args : List Arg) (keys : List ℕ) (r : Made) (g : Val) (vs : List Val) (sd : Scope) (u : State) (now : Kinds) (place : ℕ) (w : Way)
      → z.owed + 5 ≤ z.has → V z inner (f ∷ args) (z.has + 3 * length keys) r (g ∷ vs) sd u now → length (f ∷ args) ≡ length keys → way sd z.k ≡ w → Waits w z.ws z.d
      → step (behind x M marks escapes) (going (At place sd) u) ≡ pushing w (counting (1 + length args) (going (At place sd) u)) (λ y. going (Calling g vs) y)
      → P z (going (At place sd) u) r (pt z.d (Apply g vs) r)
  by_way z inner f args keys r g vs sd u now place Outwards le k len e h st =
      let u1 = counting (1 + length args) (going (At place sd) u) in
      let s0 = stays x M marks escapes facts n cl z in
      let dp = k.deep in
      let same = zipped_length (ArgMeans x M marks escapes inner r.globals sd) (f ∷ args) (g ∷ vs) k.means in
      runs_step (behind x M marks escapes) M (Away x M marks escapes z.ws z.b) z.m n (going (At place sd) u) (going (Calling g vs) u1) r (pt z.d (Apply g vs) r) (Done x M marks escapes facts n cl z) st (omega (arith, s0, dp, ap total k.here.ready.waiting))
      (runs_wider (behind x M marks escapes) M (Away x M marks escapes z.ws z.b) z.m n (going (Calling g vs) u1) r (pt z.d (Apply g vs) r) (Returned x M marks escapes z.ws z.since z.from z.owed) (Done x M marks escapes facts n cl z)
      (cl.applies z.m z.d z.owed g vs z.ws z.b z.since z.from now r u1 (grown_trans x z.since z.kinds now z.from z.s r z.grown k.grown) h (omega (arith, s0, dp)) z.least
      (record { waiting = k.here.ready.waiting; least = (let l = z.least in omega (arith, l)); grown = k.here.ready.grown; sync = record { world = k.here.ready.sync.world; moves = omega (arith, k.here.ready.sync.moves, le, len, same) } }))
      (λ q v y deeper gv. back_out z sd q v y inner (f ∷ args) (z.has + 3 * length keys) r (g ∷ vs) u now k e gv))
  by_way z inner f args keys r g vs sd u now place (On pending) le k len e h st =
      let u1 = counting (1 + length args) (going (At place sd) u) in
      let u2 = with_waiting u1 (Back pending ∷ u1.waiting) in
      let s0 = stays x M marks escapes facts n cl z in
      let dp = k.deep in
      let zd = z.deep in
      let same = zipped_length (ArgMeans x M marks escapes inner r.globals sd) (f ∷ args) (g ∷ vs) k.means in
      runs_step (behind x M marks escapes) M (Away x M marks escapes z.ws z.b) z.m n (going (At place sd) u) (going (Calling g vs) u2) r (pt z.d (Apply g vs) r) (Done x M marks escapes facts n cl z) st (omega (arith, s0, dp, ap total k.here.ready.waiting))
      (runs_wider (behind x M marks escapes) M (Away x M marks escapes (Back pending ∷ z.ws) z.b) z.m n (going (Calling g vs) u2) r (pt z.d (Apply g vs) r) (Returned x M marks escapes (Back pending ∷ z.ws) z.since z.from z.owed) (Done x M marks escapes facts n cl z)
      (cl.applies z.m z.d z.owed g vs (Back pending ∷ z.ws) z.b z.since z.from now r u2 (grown_trans x z.since z.kinds now z.from z.s r z.grown k.grown) (tt, omega (arith, h, total_back pending z.ws)) (omega (arith, h, zd, dp, total_back pending z.ws)) z.least
      (record { waiting = ap (λ l. Back pending ∷ l) k.here.ready.waiting; least = (let l = z.least in omega (arith, l)); grown = k.here.ready.grown; sync = record { world = k.here.ready.sync.world; moves = omega (arith, k.here.ready.sync.moves, le, len, same) } }))
      (λ q v y deeper gv. back_on z sd pending q v y inner (f ∷ args) (z.has + 3 * length keys) r (g ∷ vs) u now k e gv))
  by_way z inner f args keys r g vs sd u now place Lost le k len e h st = absurd h

  -- what is done with the operator's value and those of the operands
  abbrev applied : S → Made → List Val → Outcome
  applied z t [] = Faulted t Unbound
  applied z t (g ∷ vs) = pt z.d (Apply g vs) t

  pub call_runs : (z : S) (operator : ℕ) (operands : List ℕ) → z.owed + 5 ≤ z.has → CallAs x (ConvertsWithin x z.m) z.c.form z.bound z.held operator operands z.k z.place → G z (with_value (early pt z.d z.c operator z.s) (λ t f. with_values pt z.d z.c operands t (λ u args. pt z.d (Apply f args) u)))
  call_runs z operator operands le h = over_run x M marks escapes facts n cl z (operator ∷ operands) (h.f ∷ h.args) (Step.Call h.f h.args z.k) (applied z) h.over by_values
    where
      by_values : (inner : List ℕ) (place : ℕ) (r : Made) (vs : List Val) (sd : Scope) (u : State) (now : Kinds) → Stands x place (Step.Call h.f h.args z.k) → length (h.f ∷ h.args) ≡ length (operator ∷ operands) → V z inner (h.f ∷ h.args) (z.has + 3 * length (operator ∷ operands)) r vs sd u now → P z (going (At place sd) u) r (applied z r vs)
      by_values inner place r [] sd u now st len k = absurd k.means
      by_values inner place r (g ∷ vs) sd u now st len k =
          let u1 = counting (1 + length h.args) (going (At place sd) u) in
          let means = means_there x M marks escapes facts n cl z inner (h.f ∷ h.args) (z.has + 3 * length (operator ∷ operands)) r (g ∷ vs) sd u now k in
          by_way z inner h.f h.args (operator ∷ operands) r g vs sd u now place (way sd z.k) le k len refl (still_waits x M marks escapes facts n cl z sd k.over)
          (step_at x M marks escapes place sd u (Step.Call h.f h.args z.k) st
          ∙ arg_means x M marks escapes inner sd h.f g u1 (λ t f'. with_args (behind x M marks escapes) sd h.args t (λ y us. pushing (way sd z.k) y (λ w. going (Calling f' us) w))) means.0
          ∙ args_mean x M marks escapes inner sd h.args vs u1 (λ y us. pushing (way sd z.k) y (λ w. going (Calling g us) w)) means.1)
