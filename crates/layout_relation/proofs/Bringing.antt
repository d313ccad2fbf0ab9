-- A value that an operation brings into a new variable is given, and faults.
use Rattle.std.proofs.Common.{◌≡◌, ℕ, ◌+◌, ◌≤◌, if◌then◌else◌, List, ◌∷◌, length, Some, refl, sym, ap, subst, arith}
use Rattle.program_runs.specs.Runs as runs
use Rattle.t_base.specs.declared.basics.Var.{Var}
use Rattle.t_prim.specs.Values.{Val}
use Rattle.std.specs.Prelude.{option_and_then}
use Rattle.t_base.specs.declared.faults.Fault.{Fault}
use Rattle.cps_ir.specs.declared.terms.Cont.{Cont}
use Rattle.cps_ir.specs.declared.terms.Cps.{Cps}
use Rattle.cps_ir.specs.States.{Scope, State, Program, marked, all_escape, faulted as faulted_to}
use Rattle.cps_ir.specs.Giving.{give}
use Rattle.cps_ir.specs.declared.args.Arg.TheVariants as FrameArgument
use Rattle.frame_ir.specs.declared.forms.FrameOp.{FrameOp}
use Rattle.frame_ir.specs.declared.forms.FrameEnd.{FrameEnd}
use Rattle.frame_ir.specs.declared.forms.Frames.{Frames}
use Rattle.frame_ir.specs.Values.{Lasting, Env, value_at, lasting_of}
use Rattle.frame_ir.specs.States.{Running, Ended as EndedAt, State as FrameState, going, faulted}
use Rattle.frame_ir.specs.Arguments.{lasting_value}
use Rattle.frame_ir.specs.Running.{step}
use Rattle.layout_relation.specs.Links.{Links, Extends, SameVal}
use Rattle.layout_relation.specs.Contexts.{Context, IsUnused}
use Rattle.layout_relation.specs.Laid.{Sketch, Gives, IsLaidOut}
use Rattle.layout_relation.specs.Related.{SameMade, HoldAll, Leads, Waits, same_end}
use Rattle.layout_relation.proofs.Growing.{waits_grow}
use Rattle.layout_relation.proofs.Scopes.{eqb_same, hold_set}
use Rattle.layout_relation.proofs.Paths.{steps}
use Rattle.layout_relation.proofs.Handing.{LowBelow, Reaches, reaches_after, reaches_step, give_moves, gives_arrives}

module _ (cps : Cps) (p : Frames) (laid : IsLaidOut cps p) (Low : ℕ → ℕ → Type 0) where
  abbrev w : Sketch
  w = laid.sketch

  abbrev P : Program
  P = marked cps all_escape

  -- the value stands in a new variable
  pub brings : (links : Links) (c : Context) (t : ℕ) (scope : Scope) (env : Env) (s : State) (at u : FrameState) (k : Cont) (to : Var) (ops : List FrameOp) (last : FrameEnd) (x y : Val) (n : ℕ) → IsUnused c.vars to.0 → Gives cps w c t k (FrameArgument.Var to) ops last → SameVal links x y
      → SameMade cps w links s u → HoldAll w links scope env c.vars → Leads scope c.exits → Waits w links u.frames c.catches s.waiting u.live → LowBelow cps p laid Low u → step p at ≡ going (Running ops last ((to.0, Lasting y) ∷ env)) u → u.moves ≤ at.moves + n
      → Reaches cps p w Low (give P scope k x s) at (n + give_moves cps p laid Low) (w.rank t)
  brings links c t scope env s at u k to ops last x y n unused onward same made held leads waits low one few =
      let env2 : Env = (to.0, Lasting y) ∷ env in
      let z = going (Running ops last env2) u in
      let reads : lasting_value p.shared env2 (FrameArgument.Var to) ≡ Some y = ap (λ b. option_and_then lasting_of (if b then Some (Lasting y) else value_at env to.0)) (eqb_same to.0) in
      let arrives = gives_arrives cps p laid Low links s u c t k scope (FrameArgument.Var to) x y ops last env2 onward reads same (hold_set w links scope env c.vars to.0 (Lasting y) unused held) leads waits made low in
      reaches_after cps p w Low (give P scope k x s) at z n (give_moves cps p laid Low) (w.rank t) (steps p Low at z n one few (low (length u.live) (omega arith))) arrives

  -- both fault
  pub fault_reaches : (links : Links) (s : State) (at u : FrameState) (fault : Fault) (n most top : ℕ) → SameMade cps w links s u → LowBelow cps p laid Low u → step p at ≡ faulted fault u → u.moves ≤ at.moves + n → Reaches cps p w Low (faulted_to fault s) at (n + most) top
  fault_reaches links s at u fault n most top made low one few =
      let z = faulted fault u in
      reaches_step cps p w Low (faulted_to fault s) at z n most top one few (low (length u.live) (omega arith)) (record {
        end = z;
        path = record { count = 0; goes = refl; moves = omega arith; low = λ i a b. absurd (omega (arith, a, b)) };
        related = record { links = links; made = made; doing = same_end (runs.Faulted fault) (EndedAt (runs.Faulted fault)) refl };
      })

  -- what waits is the same behind arguments
  pub waits_behind : (links links2 : Links) (c : Context) (s left : State) (u right : FrameState) → Extends links links2 → Waits w links u.frames c.catches s.waiting u.live → left.waiting ≡ s.waiting → right.frames ≡ u.frames → right.live ≡ u.live → Waits w links2 right.frames c.catches left.waiting right.live
  waits_behind links links2 c s left u right ext waits a b d = subst (λ fs. Waits w links2 fs c.catches left.waiting right.live) (sym b) (subst (λ l. Waits w links2 u.frames c.catches left.waiting l) (sym d) (subst (λ q. Waits w links2 u.frames c.catches q u.live) (sym a) (waits_grow links links2 ext w u.frames u.frames (λ i f h. h) c.catches s.waiting u.live waits)))
