-- The end of the program.
use Rattle.std.proofs.Common.{◌≡◌, ℕ, ◌+◌, ◌*◌, List, [], ◌∷◌, length, Some, refl, sym, ap, subst, arith, inl, append-nil}
use Rattle.program_runs.specs.Runs as runs
use Rattle.t_prim.specs.Values.{Val, shown_of}
use Rattle.cps_ir.specs.declared.args.Arg.{Arg}
use Rattle.cps_ir.specs.declared.terms.Term.TheVariants as Node
use Rattle.cps_ir.specs.declared.terms.Cps.{Cps}
use Rattle.cps_ir.specs.States.{Scope, State, Program, marked, all_escape, ended as ended_to}
use Rattle.cps_ir.specs.Running.{performed}
use Rattle.frame_ir.specs.declared.forms.FrameOp.{FrameOp}
use Rattle.frame_ir.specs.declared.forms.FrameEnd.TheVariants as Last
use Rattle.frame_ir.specs.declared.forms.Frames.{Frames}
use Rattle.frame_ir.specs.Values.{Env}
use Rattle.frame_ir.specs.States.{Running, Ended as EndedAt, State as FrameState, going, counted, or_wrong}
use Rattle.frame_ir.specs.Running.{step}
use Rattle.layout_relation.specs.Contexts.{Context}
use Rattle.layout_relation.specs.Laid.{Sketch, Prepares, IsLaidOut}
use Rattle.layout_relation.specs.Related.{same_end}
use Rattle.layout_relation.proofs.Rows.{shown_same}
use Rattle.layout_relation.proofs.Paths.{Path}
use Rattle.layout_relation.proofs.Preparing.{remade}
use Rattle.layout_relation.proofs.Handing.{Reaches, reaches_after, reaches_step}
use Rattle.layout_relation.proofs.Staged.{Staged, first}

module _ (cps : Cps) (p : Frames) (laid : IsLaidOut cps p) (Low : ℕ → ℕ → Type 0) where
  abbrev w : Sketch
  w = laid.sketch

  abbrev P : Program
  P = marked cps all_escape

  pub halt_reaches : (c : Context) (t : ℕ) (scope : Scope) (env : Env) (s : State) (u : FrameState) (value : Arg) (ms : List FrameOp) (b : Arg) → Prepares cps w c.vars (value ∷ []) ms (b ∷ [])
      → Staged cps p w Low c scope env s (performed P scope (Node.Halt value) s) u
      → Reaches cps p w Low (performed P scope (Node.Halt value) s) (going (Running ms (Last.Halt b) env) u) (1 * (1 + cps.shared.size) + (2 + 0)) (w.rank t)
  halt_reaches c t scope env s u value ms b d g =
      let last = Last.Halt b in
      let f = first cps p laid Low g.links scope c.vars s u value [] ms [] b [] last env g.made g.held d tt in
      let x = f.x in
      let go : State → Val → List Val → State = λ t v vs. ended_to (runs.Value (shown_of t.store v)) t in
      let final = go x.left f.v f.vs in
      let there : performed P scope (Node.Halt value) s ≡ final = f.gives go in
      let at = going (Running [] last x.env2) x.right in
      let end = going (EndedAt (runs.Value (shown_of x.right.store f.r))) (counted 2 x.right) in
      let one : step p at ≡ end = ap (λ o. or_wrong o at (λ v. going (EndedAt (runs.Value (shown_of at.store v))) (counted 2 at))) f.reads in
      let shown = shown_same x.links2 f.v f.r x.left.store x.right.store f.same x.made.store in
      let heap = ap (λ q. q.store.heap) there in
      let low : Low x.right.store.heap (length x.right.live) = subst (λ l. Low x.right.store.heap (length l)) (sym x.live) (g.low x.right.store.heap (length u.live) (let a = x.made.store.heap in omega (arith, a, heap)) (inl (omega arith))) in
      let path = subst (λ os. Path p Low (going (Running os last env) u) at (1 * (1 + cps.shared.size))) (append-nil ms) (x.path (λ h le. g.low h (length u.live) (omega (arith, le, heap)) (inl (omega arith)))) in
      subst (λ f. Reaches cps p w Low f (going (Running ms last env) u) (1 * (1 + cps.shared.size) + (2 + 0)) (w.rank t)) (sym there)
      (reaches_after cps p w Low final (going (Running ms last env) u) at (1 * (1 + cps.shared.size)) (2 + 0) (w.rank t) path
      (reaches_step cps p w Low final at end 2 0 (w.rank t) one (omega arith) low (record {
        end = end;
        path = record { count = 0; goes = refl; moves = omega arith; low = λ i a b. absurd (omega (arith, a, b)) };
        related = record { links = x.links2; made = remade cps w x.links2 x.left final x.right end x.made refl refl; doing = same_end (runs.Value (shown_of x.left.store f.v)) (EndedAt (runs.Value (shown_of x.right.store f.r))) (ap (λ v. Some (runs.Value v)) (sym shown)) };
      })))
