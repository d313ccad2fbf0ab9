-- A value is given.
use Rattle.std.proofs.Common.{◌≡◌, ℕ, ◌+◌, ◌*◌, List, [], ◌∷◌, ◌++◌, length, sym, ap, subst, ◌∙◌, arith, inl}
use Rattle.t_prim.specs.Values.{Val}
use Rattle.cps_ir.specs.declared.args.Arg.{Arg}
use Rattle.cps_ir.specs.declared.terms.Cont.{Cont}
use Rattle.cps_ir.specs.declared.terms.Term.TheVariants as Node
use Rattle.cps_ir.specs.declared.terms.Cps.{Cps}
use Rattle.cps_ir.specs.States.{Scope, State, Program, marked, all_escape}
use Rattle.cps_ir.specs.Giving.{way, give}
use Rattle.cps_ir.specs.Running.{performed}
use Rattle.frame_ir.specs.declared.forms.FrameOp.{FrameOp}
use Rattle.frame_ir.specs.declared.forms.FrameEnd.{FrameEnd}
use Rattle.frame_ir.specs.declared.forms.Frames.{Frames}
use Rattle.frame_ir.specs.Values.{Env}
use Rattle.frame_ir.specs.States.{Running, State as FrameState, going}
use Rattle.layout_relation.specs.Contexts.{Context}
use Rattle.layout_relation.specs.Laid.{Sketch, StartsApart, Prepares, Gives, IsLaidOut}
use Rattle.layout_relation.specs.Related.{Waits}
use Rattle.layout_relation.proofs.Growing.{waits_grow}
use Rattle.layout_relation.proofs.Handing.{LowBelow, Reaches, reaches_after, give_moves, gives_arrives}
use Rattle.layout_relation.proofs.Stepping.{given_store}
use Rattle.layout_relation.proofs.Staged.{Staged, first}

module _ (cps : Cps) (p : Frames) (laid : IsLaidOut cps p) (Low : ℕ → ℕ → Type 0) where
  abbrev w : Sketch
  w = laid.sketch

  abbrev P : Program
  P = marked cps all_escape

  pub give_reaches : (c : Context) (t : ℕ) (scope : Scope) (env : Env) (s : State) (u : FrameState) (k : Cont) (value : Arg) (ms : List FrameOp) (b : Arg) (ops : List FrameOp) (last : FrameEnd) → Prepares cps w c.vars (value ∷ []) ms (b ∷ []) → StartsApart ops → Gives cps w c t k b ops last
      → Staged cps p w Low c scope env s (performed P scope (Node.Give k value) s) u
      → Reaches cps p w Low (performed P scope (Node.Give k value) s) (going (Running (ms ++ ops) last env) u) (1 * (1 + cps.shared.size) + give_moves cps p laid Low) (w.rank t)
  give_reaches c t scope env s u k value ms b ops last d apart gives g =
      let f = first cps p laid Low g.links scope c.vars s u value [] ms ops b [] last env g.made g.held d apart in
      let x = f.x in
      let go : State → Val → List Val → State = λ t v vs. give P scope k v t in
      let final = go x.left f.v f.vs in
      let there : performed P scope (Node.Give k value) s ≡ final = f.gives go in
      let heap : (performed P scope (Node.Give k value) s).store.heap ≡ x.left.store.heap = ap (λ q. q.store.heap) there ∙ ap (λ st. st.heap) (given_store cps p laid Low (way scope k) f.v x.left) in
      let at = going (Running ops last x.env2) x.right in
      let lows : LowBelow cps p laid Low x.right = λ n le. g.low x.right.store.heap n (let a = x.made.store.heap in omega (arith, a, heap)) (inl (let e = ap length x.live in omega (arith, le, e))) in
      let waits = subst (λ fs. Waits w x.links2 fs c.catches x.left.waiting x.right.live) (sym x.frames) (subst (λ l. Waits w x.links2 u.frames c.catches x.left.waiting l) (sym x.live) (subst (λ q. Waits w x.links2 u.frames c.catches q u.live) (sym x.waiting) (waits_grow g.links x.links2 x.extends w u.frames u.frames (λ i f h. h) c.catches s.waiting u.live g.waits))) in
      let arrives = gives_arrives cps p laid Low x.links2 x.left x.right c t k scope b f.v f.r ops last x.env2 gives f.reads f.same x.held g.leads waits x.made lows in
      let path = x.path (λ h le. g.low h (length u.live) (omega (arith, le, heap)) (inl (omega arith))) in
      subst (λ f. Reaches cps p w Low f (going (Running (ms ++ ops) last env) u) (1 * (1 + cps.shared.size) + give_moves cps p laid Low) (w.rank t)) (sym there)
      (reaches_after cps p w Low final (going (Running (ms ++ ops) last env) u) at (1 * (1 + cps.shared.size)) (give_moves cps p laid Low) (w.rank t) path arrives)
