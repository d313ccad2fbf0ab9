-- A builtin is performed.
use Rattle.std.proofs.Common.{◌≡◌, ◌+◌, ◌<◌, inl, inr, List, ◌∷◌, length, refl, subst, arith}
use Rattle.program_runs.specs.Runs.{Faulted}
use Rattle.t_base.specs.declared.basics.Var.{Var}
use Rattle.t_base.specs.declared.builtins.Builtin.{Builtin}
use Rattle.cps_ir.specs.declared.args.Arg.{Arg}
use Rattle.t_prim.specs.Values.{Val}
use Rattle.t_prim.specs.Operands.{Row, Gives, Changes, Faults}
use Rattle.t_prim.specs.Table.{row}
use Rattle.t_prim.proofs.RowLaws.{RowGrows, row_grows}
use Rattle.word_ir.specs.Stamps.{Stamped}
use Rattle.frame_ir.specs.declared.forms.FrameOp.{FrameOp}
use Rattle.frame_ir.specs.declared.forms.FrameOp.TheVariants as Op
use Rattle.frame_ir.specs.declared.forms.FrameEnd.{FrameEnd}
use Rattle.frame_ir.specs.Values.{Lasting, Env}
use Rattle.frame_ir.specs.States.{State, Running, going, counted, after_row, with_store}
use Rattle.frame_ir.specs.Arguments.{lasting_values}
use Rattle.select_rows.specs.Codes.{code_of}
use Rattle.prim_holds.specs.Operands.{cost_of}
use Rattle.prim_holds.specs.Laws.{PrimComes}
use Rattle.prim_holds.proofs.Prims.{prim_performs}
use Rattle.selection_steps.specs.Settings.{Setting, choice_of, layout_of, IsSound}
use Rattle.selection_steps.specs.Related.{ways_of}
use Rattle.selection_steps.specs.Led.{saved, caught, Comes, Led}
use Rattle.selection_steps.proofs.Leading.{below_more, Spot, IsLed, acted, lookup, fit, held, below, spot_led, goes_on}
use Rattle.selection_steps.proofs.Ending.{ends_by, no_room}
use Rattle.selection_steps.proofs.Costs.{row_cost}
use Rattle.selection_steps.proofs.Keeping.{store_kept}

module _ (m : Setting) (s : State) (ops : List FrameOp) (last : FrameEnd) (env : Env) (x : Stamped) (to : Var) (b : Builtin) (args : List Arg) (sp : Spot m s (Op.Prim to b args) ops last env x) where
  abbrev behind : Val → State → State
  behind v t = going (Running ops last ((to.0, Lasting v) ∷ env)) t

  abbrev counts : State
  counts = counted (1 + length args) s

  lower : to.0 < (choice_of m).free
  lower = (fit m s (Op.Prim to b args) ops last env x sp).binds.0

  row_comes : (vs : List Val) (r : Row) → row b vs s.store ≡ r → (y : Stamped) → PrimComes m.words m.sizes (layout_of m) sp.runs.escapes (ways_of m sp.runs.born) sp.t s env to sp.rest r y → Comes m s (after_row r counts behind) y
  row_comes vs (Gives v) is y o =
      goes_on m s (Op.Prim to b args) ops last env x sp s sp.runs.escapes sp.runs.born ((to.0, Lasting v) ∷ env) (s.moves + (1 + length args)) y (below_more (choice_of m).free env to.0 (Lasting v) lower (below m s (Op.Prim to b args) ops last env x sp)) sp.keeps o
  row_comes vs (Changes t v) is y (inl o) =
      let grows = subst (λ r. RowGrows s.store r) is (row_grows b vs s.store) in
      goes_on m s (Op.Prim to b args) ops last env x sp (with_store s t) sp.runs.escapes sp.runs.born ((to.0, Lasting v) ∷ env) (s.moves + (1 + length args)) y (below_more (choice_of m).free env to.0 (Lasting v) lower (below m s (Op.Prim to b args) ops last env x sp)) (store_kept m s sp.keeps t grows) o
  row_comes vs (Changes t v) is y (inr o) = inr (no_room m s (with_store s t) (behind v (with_store counts t)) y sp.runs.escapes refl o)
  row_comes vs (Faults f) is y o =
      ends_by m s s sp.runs.escapes (Faulted f) (s.moves + (1 + length args)) y sp.keeps
      (record { core = o.core; data_held = o.data_held; block = o.block; place = o.place; moves = o.moves; steps = o.steps; there = o.there })

  row_moves : (r : Row) → (after_row r counts behind).moves ≡ s.moves + (1 + length args)
  row_moves (Gives v) = refl
  row_moves (Changes t v) = refl
  row_moves (Faults f) = refl

  row_saves : (r : Row) → saved (after_row r counts behind).doing ≡ 0
  row_saves (Gives v) = refl
  row_saves (Changes t v) = refl
  row_saves (Faults f) = refl

  row_frames : (r : Row) → caught (after_row r counts behind).frames (after_row r counts behind).live ≡ caught s.frames s.live
  row_frames (Gives v) = refl
  row_frames (Changes t v) = refl
  row_frames (Faults f) = refl

  pub prim_led : IsSound (acted m s (Op.Prim to b args) ops last env) → IsLed m s (Op.Prim to b args) ops last env x
  prim_led sound =
      lookup (Led m s x) (lasting_values m.p.shared env args) s (λ vs. after_row (row b vs s.store) counts behind) sound
      (λ vs given sound2.
      let named = (fit m s (Op.Prim to b args) ops last env x sp).args in
      let many = (fit m s (Op.Prim to b args) ops last env x sp).shaped in
      let above = sp.above in
      let lt = lower in
      let cost = row_cost b in
      let n = row_moves (row b vs s.store) in
      let z = row_saves (row b vs s.store) in
      spot_led m s (Op.Prim to b args) ops last env x sp (after_row (row b vs s.store) counts behind) (row_frames (row b vs s.store))
      (PrimComes m.words m.sizes (layout_of m) sp.runs.escapes (ways_of m sp.runs.born) sp.t s env to sp.rest (row b vs s.store)) (cost_of (code_of b))
      (prim_performs m.words m.sizes (layout_of m) sp.runs.escapes (ways_of m sp.runs.born) sp.t s env sp.runs.core m.p.shared to sp.rest (held m s (Op.Prim to b args) ops last env x sp) (omega (arith, lt, above)) b args vs named given many)
      (λ y o. row_comes vs (row b vs s.store) refl y o)
      (omega (arith, cost, n, z)))
