-- A continuation that has a name.
use Rattle.std.proofs.Common.{ℕ, ◌<◌, List, ◌∷◌, refl}
use Rattle.t_base.specs.declared.basics.Var.{Var}
use Rattle.cps_ir.specs.declared.terms.Term.TheVariants as Node
use Rattle.cps_ir.specs.declared.terms.Cps.{Cps}
use Rattle.cps_ir.specs.States.{Scope, State, Program, marked, all_escape, At, going as going_to, Joined}
use Rattle.cps_ir.specs.Running.{performed}
use Rattle.frame_ir.specs.declared.forms.FrameOp.{FrameOp}
use Rattle.frame_ir.specs.declared.forms.FrameEnd.{FrameEnd}
use Rattle.frame_ir.specs.declared.forms.Frames.{Frames}
use Rattle.frame_ir.specs.Values.{Env}
use Rattle.frame_ir.specs.States.{Running, State as FrameState, going}
use Rattle.layout_relation.specs.Contexts.{Context, Meeting, JoinExit}
use Rattle.layout_relation.specs.Laid.{Sketch, Lays, IsLaidOut}
use Rattle.layout_relation.specs.Related.{leads_join}
use Rattle.layout_relation.proofs.Preparing.{remade}
use Rattle.layout_relation.proofs.Handing.{Reaches, here_reaches, give_moves}
use Rattle.layout_relation.proofs.Staged.{Staged}

module _ (cps : Cps) (p : Frames) (laid : IsLaidOut cps p) (Low : ℕ → ℕ → Type 0) where
  abbrev w : Sketch
  w = laid.sketch

  abbrev P : Program
  P = marked cps all_escape

  pub join_reaches : (c : Context) (t : ℕ) (scope : Scope) (env : Env) (s : State) (u : FrameState) (k param : Var) (body rest block : ℕ) (needs : List ℕ) (ops : List FrameOp) (last : FrameEnd) → w.rank rest < w.rank t
      → Lays cps w (record c { exits = JoinExit (record { k = k.0; param = param.0; body = body; block = block; needs = needs }) c.exits }) rest ops last
      → Staged cps p w Low c scope env s (performed P scope (Node.Join k param body rest) s) u
      → Reaches cps p w Low (performed P scope (Node.Join k param body rest) s) (going (Running ops last env) u) (give_moves cps p laid Low) (w.rank t)
  join_reaches c t scope env s u k param body rest block needs ops last lower laying g =
      let m : Meeting = record { k = k.0; param = param.0; body = body; block = block; needs = needs } in
      let inner : Scope = Joined k.0 param.0 body ∷ scope in
      let final = going_to (At rest inner) s in
      here_reaches cps p laid Low g.links final u (record c { exits = JoinExit m c.exits }) t rest inner ops last env laying
      (λ x y i. let h = g.held x y i in record { meant = h.meant; value = h.value; is = h.is; at = h.at; same = h.same })
      (leads_join m scope c.exits g.leads) g.waits (remade cps w g.links s final u u g.made refl refl) refl lower
