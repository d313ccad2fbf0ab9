-- One of two arms.
use Rattle.std.proofs.Common.{◌≡◌, ℕ, ◌+◌, ◌*◌, Bool, true, false, if◌then◌else◌, List, [], ◌∷◌, length, refl, sym, ap, subst, ◌∙◌, arith, inl, append-nil}
use Rattle.t_prim.specs.Values.{Val}
use Rattle.t_prim.specs.Kinds.{is_nil}
use Rattle.cps_ir.specs.declared.args.Arg.{Arg}
use Rattle.cps_ir.specs.declared.terms.Term.TheVariants as Node
use Rattle.cps_ir.specs.declared.terms.Cps.{Cps}
use Rattle.cps_ir.specs.States.{Scope, State, Program, marked, all_escape, At, going as going_to}
use Rattle.cps_ir.specs.Running.{performed}
use Rattle.frame_ir.specs.declared.forms.FrameOp.{FrameOp}
use Rattle.frame_ir.specs.declared.forms.FrameEnd.TheVariants as Last
use Rattle.frame_ir.specs.declared.forms.Frames.{Frames}
use Rattle.frame_ir.specs.Values.{Env}
use Rattle.frame_ir.specs.States.{Running, State as FrameState, going, counted, or_wrong}
use Rattle.frame_ir.specs.Arguments.{value_of}
use Rattle.frame_ir.specs.Calls.{shown, begun}
use Rattle.frame_ir.specs.Operations.{branched}
use Rattle.frame_ir.specs.Running.{step}
use Rattle.layout_relation.specs.Links.{Links}
use Rattle.layout_relation.specs.Contexts.{Context, ArmOf}
use Rattle.layout_relation.specs.Laid.{Sketch, IsFor, Prepares, IsLaidOut}
use Rattle.layout_relation.specs.Related.{parts_at, SameMade, HoldAll, Leads, Waits, same_term}
use Rattle.layout_relation.proofs.Growing.{waits_grow}
use Rattle.layout_relation.proofs.Rows.{nil_same}
use Rattle.layout_relation.proofs.Paths.{Path}
use Rattle.layout_relation.proofs.Preparing.{remade}
use Rattle.layout_relation.proofs.Arriving.{lasting_is, block_at}
use Rattle.layout_relation.proofs.Handing.{Reaches, reaches_after, reaches_step}
use Rattle.layout_relation.proofs.Staged.{Staged, first}

module _ (cps : Cps) (p : Frames) (laid : IsLaidOut cps p) (Low : ℕ → ℕ → Type 0) where
  abbrev w : Sketch
  w = laid.sketch

  abbrev P : Program
  P = marked cps all_escape

  -- an arm sees what is seen at the end of the block
  arm_reaches : (links : Links) (c : Context) (scope : Scope) (env : Env) (s : State) (at v : FrameState) (block term top : ℕ) → IsFor w block (ArmOf c term) → step p at ≡ shown p block env (counted 2 at) → SameMade cps w links s v → parts_at v ≡ parts_at at
      → HoldAll w links scope env c.vars → Leads scope c.exits → Waits w links at.frames c.catches s.waiting at.live → Low at.store.heap (length at.live) → Reaches cps p w Low (going_to (At term scope) s) at (2 + 0) top
  arm_reaches links c scope env s at v block term top for one made a held leads waits low =
      let blk = block_at cps p laid block (ArmOf c term) for in
      let end = going (Running blk.block.ops.items blk.block.last env) (counted 2 at) in
      let goes : step p at ≡ end = one ∙ ap (λ o. or_wrong o (counted 2 at) (λ b. begun b env (counted 2 at))) blk.is in
      reaches_step cps p w Low (going_to (At term scope) s) at end 2 0 top goes (omega arith) low (record {
        end = end;
        path = record { count = 0; goes = refl; moves = omega arith; low = λ i a b. absurd (omega (arith, a, b)) };
        related = record { links = links; made = remade cps w links s (going_to (At term scope) s) v end made refl (sym a); doing = same_term c term scope blk.block.ops.items blk.block.last env blk.fits.lays held leads waits };
      })

  choose : (links : Links) (c : Context) (scope : Scope) (env : Env) (s : State) (at v : FrameState) (there_arm other_arm first_arm second_arm top : ℕ) (n m : Bool) → n ≡ m → IsFor w there_arm (ArmOf c first_arm) → IsFor w other_arm (ArmOf c second_arm) → step p at ≡ shown p (if m then other_arm else there_arm) env (counted 2 at)
      → SameMade cps w links s v → parts_at v ≡ parts_at at → HoldAll w links scope env c.vars → Leads scope c.exits → Waits w links at.frames c.catches s.waiting at.live → Low at.store.heap (length at.live)
      → Reaches cps p w Low (going_to (At (if n then second_arm else first_arm) scope) s) at (2 + 0) top
  choose links c scope env s at v there_arm other_arm first_arm second_arm top true m e fy fn one made a held leads waits low = arm_reaches links c scope env s at v other_arm second_arm top fn (one ∙ ap (λ x. shown p (if x then other_arm else there_arm) env (counted 2 at)) (sym e)) made a held leads waits low
  choose links c scope env s at v there_arm other_arm first_arm second_arm top false m e fy fn one made a held leads waits low = arm_reaches links c scope env s at v there_arm first_arm top fy (one ∙ ap (λ x. shown p (if x then other_arm else there_arm) env (counted 2 at)) (sym e)) made a held leads waits low

  pub if_reaches : (c : Context) (t : ℕ) (scope : Scope) (env : Env) (s : State) (u : FrameState) (test : Arg) (first_arm second_arm : ℕ) (ms : List FrameOp) (b : Arg) (there_arm other_arm : ℕ) → Prepares cps w c.vars (test ∷ []) ms (b ∷ []) → IsFor w there_arm (ArmOf c first_arm) → IsFor w other_arm (ArmOf c second_arm)
      → Staged cps p w Low c scope env s (performed P scope (Node.If test first_arm second_arm) s) u
      → Reaches cps p w Low (performed P scope (Node.If test first_arm second_arm) s) (going (Running ms (Last.If b there_arm other_arm) env) u) (1 * (1 + cps.shared.size) + (2 + 0)) (w.rank t)
  if_reaches c t scope env s u test first_arm second_arm ms b there_arm other_arm d fy fn g =
      let last = Last.If b there_arm other_arm in
      let f = first cps p laid Low g.links scope c.vars s u test [] ms [] b [] last env g.made g.held d tt in
      let x = f.x in
      let go : State → Val → List Val → State = λ t v vs. going_to (At (if is_nil v then second_arm else first_arm) scope) t in
      let final = go x.left f.v f.vs in
      let there : performed P scope (Node.If test first_arm second_arm) s ≡ final = f.gives go in
      let at = going (Running [] last x.env2) x.right in
      let one : step p at ≡ shown p (if is_nil f.r then other_arm else there_arm) x.env2 (counted 2 at) = ap (λ o. or_wrong o at (λ v. branched p v there_arm other_arm x.env2 (counted 2 at))) (lasting_is (value_of p.shared x.env2 b) f.r f.reads) in
      let heap = ap (λ q. q.store.heap) there in
      let low : Low x.right.store.heap (length x.right.live) = subst (λ l. Low x.right.store.heap (length l)) (sym x.live) (g.low x.right.store.heap (length u.live) (let a = x.made.store.heap in omega (arith, a, heap)) (inl (omega arith))) in
      let waits = subst (λ fs. Waits w x.links2 fs c.catches x.left.waiting x.right.live) (sym x.frames) (subst (λ l. Waits w x.links2 u.frames c.catches x.left.waiting l) (sym x.live) (subst (λ q. Waits w x.links2 u.frames c.catches q u.live) (sym x.waiting) (waits_grow g.links x.links2 x.extends w u.frames u.frames (λ i f h. h) c.catches s.waiting u.live g.waits))) in
      let path = subst (λ os. Path p Low (going (Running os last env) u) at (1 * (1 + cps.shared.size))) (append-nil ms) (x.path (λ h le. g.low h (length u.live) (omega (arith, le, heap)) (inl (omega arith)))) in
      subst (λ f. Reaches cps p w Low f (going (Running ms last env) u) (1 * (1 + cps.shared.size) + (2 + 0)) (w.rank t)) (sym there)
      (reaches_after cps p w Low final (going (Running ms last env) u) at (1 * (1 + cps.shared.size)) (2 + 0) (w.rank t) path
      (choose x.links2 c scope x.env2 x.left at x.right there_arm other_arm first_arm second_arm (w.rank t) (is_nil f.v) (is_nil f.r) (nil_same x.links2 f.v f.r f.same) fy fn one x.made refl x.held g.leads waits low))
