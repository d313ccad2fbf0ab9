-- A builtin at its operands.
use Rattle.std.proofs.Common.{◌≡◌, ℕ, ◌+◌, ◌*◌, ◌≤◌, if◌then◌else◌, List, ◌∷◌, ◌++◌, length, Some, refl, sym, ap, subst, ◌∙◌, arith, inl}
use Rattle.program_runs.specs.Runs as runs
use Rattle.t_base.specs.declared.basics.Var.{Var}
use Rattle.t_base.specs.declared.builtins.Builtin.{Builtin}
use Rattle.t_prim.specs.Operands.{Row, Gives as RowGives, Changes as RowChanges, Faults as RowFaults}
use Rattle.t_prim.specs.Table.{row}
use Rattle.t_prim.proofs.RowLaws.{RowGrows, row_grows}
use Rattle.std.specs.Prelude.{option_and_then}
use Rattle.cps_ir.specs.declared.args.Arg.{Arg}
use Rattle.cps_ir.specs.declared.terms.Cont.{Cont}
use Rattle.cps_ir.specs.declared.terms.Term.TheVariants as Node
use Rattle.cps_ir.specs.declared.terms.Cps.{Cps}
use Rattle.cps_ir.specs.States.{Scope, State, Program, marked, all_escape, faulted as faulted_to, with_store as store_to}
use Rattle.cps_ir.specs.Giving.{after_row as row_to, way, give}
use Rattle.cps_ir.specs.Running.{performed}
use Rattle.cps_ir.specs.declared.args.Arg.TheVariants as FrameArgument
use Rattle.frame_ir.specs.declared.forms.FrameOp.{FrameOp}
use Rattle.frame_ir.specs.declared.forms.FrameOp.TheVariants as Op
use Rattle.frame_ir.specs.declared.forms.FrameEnd.{FrameEnd}
use Rattle.frame_ir.specs.declared.forms.Frames.{Frames}
use Rattle.frame_ir.specs.Values.{Lasting, Env, value_at, lasting_of}
use Rattle.frame_ir.specs.States.{Running, Ended as EndedAt, State as FrameState, Wrong, going, counted, faulted, or_wrong, after_row, with_store}
use Rattle.frame_ir.specs.Arguments.{lasting_value, lasting_values}
use Rattle.frame_ir.specs.Running.{step}
use Rattle.layout_relation.specs.Links.{Links, SameRow, gives, changes, faults}
use Rattle.layout_relation.specs.Contexts.{Context, IsUnused}
use Rattle.layout_relation.specs.Laid.{Sketch, Prepares, Gives, IsLaidOut}
use Rattle.layout_relation.specs.Related.{SameMade, HoldAll, Leads, Waits, same_end}
use Rattle.layout_relation.proofs.Growing.{waits_grow}
use Rattle.layout_relation.proofs.Rows.{row_same}
use Rattle.layout_relation.proofs.Scopes.{eqb_same, hold_set}
use Rattle.layout_relation.proofs.Stepping.{given_store}
use Rattle.layout_relation.proofs.Paths.{steps}
use Rattle.layout_relation.proofs.Preparing.{remade, prepared}
use Rattle.layout_relation.proofs.Handing.{LowBelow, Reaches, reaches_after, reaches_step, give_moves, gives_arrives}
use Rattle.layout_relation.proofs.Staged.{Staged}

module _ (cps : Cps) (p : Frames) (laid : IsLaidOut cps p) (Low : ℕ → ℕ → Type 0) where
  abbrev w : Sketch
  w = laid.sketch

  abbrev P : Program
  P = marked cps all_escape

  -- what the term comes to by a row
  abbrev behind_row : Scope → Cont → Row → State → State
  behind_row scope k r s = row_to r s (λ v u. give P scope k v u)

  row_heap : (scope : Scope) (k : Cont) (r : Row) (s : State) → RowGrows s.store r → s.store.heap ≤ (behind_row scope k r s).store.heap
  row_heap scope k (RowGives v) s g = let e = ap (λ st. st.heap) (given_store cps p laid Low (way scope k) v s) in omega (arith, e)
  row_heap scope k (RowChanges st v) s g = let e = ap (λ st. st.heap) (given_store cps p laid Low (way scope k) v (store_to s st)) in let h = g.heap in omega (arith, e, h)
  row_heap scope k (RowFaults fault) s g = omega arith

  -- what stands in `doing` isn't looked at
  row_going : (q : Row) (a b : FrameState) (ops : List FrameOp) (last : FrameEnd) (to : Var) (env : Env) → going Wrong a ≡ going Wrong b
      → after_row q a (λ v z. going (Running ops last ((to.0, Lasting v) ∷ env)) z) ≡ after_row q b (λ v z. going (Running ops last ((to.0, Lasting v) ∷ env)) z)
  row_going (RowGives v) a b ops last to env e = ap (λ z. going (Running ops last ((to.0, Lasting v) ∷ env)) z) e
  row_going (RowChanges st v) a b ops last to env e = ap (λ z. going (Running ops last ((to.0, Lasting v) ∷ env)) (with_store z st)) e
  row_going (RowFaults fault) a b ops last to env e = ap (λ z. faulted fault z) e

  -- the row's value is given, or it faults
  row_reaches : (links : Links) (c : Context) (t : ℕ) (scope : Scope) (env : Env) (s : State) (u : FrameState) (k : Cont) (to : Var) (ops : List FrameOp) (last : FrameEnd) (at : FrameState) (n : ℕ) (r q : Row) → SameRow links r q → IsUnused c.vars to.0 → Gives cps w c t k (FrameArgument.Var to) ops last
      → SameMade cps w links s u → HoldAll w links scope env c.vars → Leads scope c.exits → Waits w links u.frames c.catches s.waiting u.live
      → ((h m : ℕ) → h ≤ (behind_row scope k r s).store.heap → m ≤ length u.live → Low h m) → s.store.heap ≤ (behind_row scope k r s).store.heap
      → step p at ≡ after_row q (counted n u) (λ v z. going (Running ops last ((to.0, Lasting v) ∷ env)) z) → u.moves ≤ at.moves
      → Reaches cps p w Low (behind_row scope k r s) at (n + give_moves cps p laid Low) (w.rank t)
  row_reaches links c t scope env s u k to ops last at n r q (gives x y h) unused onward made held leads waits lows up one few =
      let env2 : Env = (to.0, Lasting y) ∷ env in
      let z = going (Running ops last env2) (counted n u) in
      let low : LowBelow cps p laid Low (counted n u) = λ m le. lows u.store.heap m (let e = made.store.heap in omega (arith, e, up)) le in
      let reads : lasting_value p.shared env2 (FrameArgument.Var to) ≡ Some y = ap (λ b. option_and_then lasting_of (if b then Some (Lasting y) else value_at env to.0)) (eqb_same to.0) in
      let arrives = gives_arrives cps p laid Low links s (counted n u) c t k scope (FrameArgument.Var to) x y ops last env2 onward reads h (hold_set w links scope env c.vars to.0 (Lasting y) unused held) leads waits (remade cps w links s s u (counted n u) made refl refl) low in
      reaches_after cps p w Low (give P scope k x s) at z n (give_moves cps p laid Low) (w.rank t) (steps p Low at z n one (omega (arith, few)) (low (length u.live) (omega arith))) arrives
  row_reaches links c t scope env s u k to ops last at n r q (changes a b x y st h) unused onward made held leads waits lows up one few =
      let s2 = store_to s a in
      let u2 = with_store (counted n u) b in
      let env2 : Env = (to.0, Lasting y) ∷ env in
      let z = going (Running ops last env2) u2 in
      let made2 : SameMade cps w links s2 u2 = record { one = made.one; store = st; closures = made.closures; globals = made.globals; count = made.count; procedures = made.procedures; cells = made.cells; objects = made.objects; located = made.located; objected = made.objected; escapes = made.escapes } in
      let low : LowBelow cps p laid Low u2 = λ m le. lows b.heap m (let e = st.heap in let f = ap (λ o. o.heap) (given_store cps p laid Low (way scope k) x s2) in omega (arith, e, f)) le in
      let reads : lasting_value p.shared env2 (FrameArgument.Var to) ≡ Some y = ap (λ b. option_and_then lasting_of (if b then Some (Lasting y) else value_at env to.0)) (eqb_same to.0) in
      let arrives = gives_arrives cps p laid Low links s2 u2 c t k scope (FrameArgument.Var to) x y ops last env2 onward reads h (hold_set w links scope env c.vars to.0 (Lasting y) unused held) leads waits made2 low in
      reaches_after cps p w Low (give P scope k x s2) at z n (give_moves cps p laid Low) (w.rank t) (steps p Low at z n one (omega (arith, few)) (low (length u.live) (omega arith))) arrives
  row_reaches links c t scope env s u k to ops last at n r q (faults fault) unused onward made held leads waits lows up one few =
      let z = faulted fault (counted n u) in
      let final = faulted_to fault s in
      reaches_step cps p w Low final at z n (give_moves cps p laid Low) (w.rank t) one (omega (arith, few)) (lows u.store.heap (length u.live) (let e = made.store.heap in omega (arith, e, up)) (omega arith)) (record {
        end = z;
        path = record { count = 0; goes = refl; moves = omega arith; low = λ i a b. absurd (omega (arith, a, b)) };
        related = record { links = links; made = remade cps w links s final u z made refl refl; doing = same_end (runs.Faulted fault) (EndedAt (runs.Faulted fault)) refl };
      })

  pub prim_reaches : (c : Context) (t : ℕ) (scope : Scope) (env : Env) (s : State) (u : FrameState) (b : Builtin) (args : List Arg) (k : Cont) (ms : List FrameOp) (bs : List Arg) (to : Var) (ops : List FrameOp) (last : FrameEnd) → Prepares cps w c.vars args ms bs
      → IsUnused c.vars to.0 → Gives cps w c t k (FrameArgument.Var to) ops last → Staged cps p w Low c scope env s (performed P scope (Node.Prim b args k) s) u
      → Reaches cps p w Low (performed P scope (Node.Prim b args k) s) (going (Running (ms ++ Op.Prim to b bs ∷ ops) last env) u) (length args * (1 + cps.shared.size) + ((1 + length bs) + give_moves cps p laid Low)) (w.rank t)
  prim_reaches c t scope env s u b args k ms bs to ops last d unused onward g =
      let x = prepared cps p w laid.small Low g.links scope c.vars s u args ms (Op.Prim to b bs ∷ ops) bs last env g.made g.held d refl in
      let r = row b x.lefts x.left.store in
      let q = row b x.rights x.right.store in
      let final = behind_row scope k r x.left in
      let there : performed P scope (Node.Prim b args k) s ≡ final = x.gives (λ t vs. behind_row scope k (row b vs t.store) t) in
      let at = going (Running (Op.Prim to b bs ∷ ops) last x.env2) x.right in
      let up = row_heap scope k r x.left (row_grows b x.lefts x.left.store) in
      let heap = ap (λ z. z.store.heap) there in
      let reads : lasting_values p.shared x.env2 bs ≡ Some x.rights = subst (λ sh. lasting_values sh x.env2 bs ≡ Some x.rights) (sym laid.shared) x.reads in
      let one : step p at ≡ after_row q (counted (1 + length bs) x.right) (λ v z. going (Running ops last ((to.0, Lasting v) ∷ x.env2)) z) =
      ap (λ o. or_wrong o at (λ vs. after_row (row b vs at.store) (counted (1 + length bs) at) (λ v z. going (Running ops last ((to.0, Lasting v) ∷ x.env2)) z))) reads ∙ row_going q (counted (1 + length bs) at) (counted (1 + length bs) x.right) ops last to x.env2 refl in
      let waits = subst (λ fs. Waits w x.links2 fs c.catches x.left.waiting x.right.live) (sym x.frames) (subst (λ l. Waits w x.links2 u.frames c.catches x.left.waiting l) (sym x.live) (subst (λ q. Waits w x.links2 u.frames c.catches q u.live) (sym x.waiting) (waits_grow g.links x.links2 x.extends w u.frames u.frames (λ i f h. h) c.catches s.waiting u.live g.waits))) in
      let path = x.path (λ h le. g.low h (length u.live) (omega (arith, le, heap, up)) (inl (omega arith))) in
      let lows : (h m : ℕ) → h ≤ final.store.heap → m ≤ length x.right.live → Low h m = λ h m le below. g.low h m (omega (arith, le, heap)) (inl (let e = ap length x.live in omega (arith, below, e))) in
      subst (λ f. Reaches cps p w Low f (going (Running (ms ++ Op.Prim to b bs ∷ ops) last env) u) (length args * (1 + cps.shared.size) + ((1 + length bs) + give_moves cps p laid Low)) (w.rank t)) (sym there)
      (reaches_after cps p w Low final (going (Running (ms ++ Op.Prim to b bs ∷ ops) last env) u) at (length args * (1 + cps.shared.size)) ((1 + length bs) + give_moves cps p laid Low) (w.rank t) path
      (row_reaches x.links2 c t scope x.env2 x.left x.right k to ops last at (1 + length bs) r q (row_same x.links2 x.made.one b x.lefts x.rights x.left.store x.right.store x.same x.made.store) unused onward x.made x.held g.leads waits lows up one (omega arith)))
