-- A cell and an object are made.
use Rattle.std.proofs.Common.{◌≡◌, ℕ, ◌+◌, ◌*◌, ◌<◌, inl, inr, Bool, true, false, if◌then◌else◌, List, ◌∷◌, length, Some, refl, arith}
use Rattle.std.specs.List.{list_all}
use Rattle.t_base.specs.declared.basics.Var.{Var}
use Rattle.cps_ir.specs.declared.args.Arg.{Arg}
use Rattle.t_prim.specs.Values.{Val, ObjectV}
use Rattle.word_ir.specs.Stamps.{Stamped}
use Rattle.frame_ir.specs.declared.forms.FrameOp.{FrameOp}
use Rattle.frame_ir.specs.declared.forms.FrameOp.TheVariants as Op
use Rattle.frame_ir.specs.declared.forms.FrameEnd.{FrameEnd}
use Rattle.frame_ir.specs.Values.{Value, Lasting, CellAt, Object, Env, is_lasting, record_words, cell_words}
use Rattle.frame_ir.specs.States.{State, Running, going, wrong, counted, taking, or_wrong, with_cell, with_object}
use Rattle.frame_ir.specs.Arguments.{lasting_value, kept_values}
use Rattle.frame_heap.specs.Laws.{GoesOnOrFull}
use Rattle.frame_things.proofs.Things.{cell_made, object_made}
use Rattle.prim_holds.specs.Operands.{operand_of}
use Rattle.selection_steps.specs.Settings.{Setting, choice_of, layout_of, IsSound}
use Rattle.selection_steps.specs.Related.{ways_of, Keeps}
use Rattle.selection_steps.specs.Led.{Comes, Led}
use Rattle.selection_steps.proofs.Leading.{AreBelow, below_more, Spot, IsLed, acted, lookup, fit, held, below, spot_led, goes_on}
use Rattle.selection_steps.proofs.Ending.{no_heap}
use Rattle.selection_steps.proofs.Cells.{argument_has}
use Rattle.selection_steps.proofs.Keeping.{cell_kept, object_kept}

module _ (m : Setting) (s : State) (op : FrameOp) (ops : List FrameOp) (last : FrameEnd) (env : Env) (x : Stamped) (sp : Spot m s op ops last env x) where
  -- on in the block with more on the heap, or to the end for want of room
  pub goes_on_or_full : (u : State) (env2 : Env) (moves : ℕ) (y : Stamped) → AreBelow (choice_of m).free env2 → Keeps m u → GoesOnOrFull m.words m.sizes (layout_of m) sp.runs.escapes (ways_of m sp.runs.born) sp.t s u env2 sp.runs.core sp.rest y
      → Comes m s (record u { moves = moves; doing = Running ops last env2 }) y
  goes_on_or_full u env2 moves y lower keeps (inl o) = goes_on m s op ops last env x sp u sp.runs.escapes sp.runs.born env2 moves y lower keeps o
  goes_on_or_full u env2 moves y lower keeps (inr o) = inr (no_heap m s u (record u { moves = moves; doing = Running ops last env2 }) y sp.runs.escapes sp.t sp.runs.core sp.runs.holds.data_held refl o)

module _ (m : Setting) (s : State) (ops : List FrameOp) (last : FrameEnd) (env : Env) (x : Stamped) where
  pub cell_led : (to : Var) (value : Arg) → Spot m s (Op.Cell to value) ops last env x → IsSound (acted m s (Op.Cell to value) ops last env) → IsLed m s (Op.Cell to value) ops last env x
  cell_led to value sp sound =
      lookup (Led m s x) (lasting_value m.p.shared env value) s (λ v. going (Running ops last ((to.0, CellAt (length s.cells)) ∷ env)) (counted 2 (taking cell_words (with_cell s v)))) sound
      (λ v given sound2.
      let lt : to.0 < (choice_of m).free = (fit m s (Op.Cell to value) ops last env x sp).binds.0 in
      let above = sp.above in
      let named = (fit m s (Op.Cell to value) ops last env x sp).args in
      spot_led m s (Op.Cell to value) ops last env x sp (going (Running ops last ((to.0, CellAt (length s.cells)) ∷ env)) (counted 2 (taking cell_words (with_cell s v)))) refl
      (GoesOnOrFull m.words m.sizes (layout_of m) sp.runs.escapes (ways_of m sp.runs.born) sp.t s (taking cell_words (with_cell s v)) ((to.0, CellAt (length s.cells)) ∷ env) sp.runs.core sp.rest) 14
      (cell_made m.words m.sizes (layout_of m) sp.runs.escapes (ways_of m sp.runs.born) sp.t s env sp.runs.core to (operand_of (layout_of m) m.p.shared value) v sp.rest (held m s (Op.Cell to value) ops last env x sp) (argument_has m s (Op.Cell to value) ops last env x sp value v named.0 given) (omega (arith, lt, above)))
      (λ y o. goes_on_or_full m s (Op.Cell to value) ops last env x sp (taking cell_words (with_cell s v)) ((to.0, CellAt (length s.cells)) ∷ env) (s.moves + 2) y (below_more (choice_of m).free env to.0 (CellAt (length s.cells)) lt (below m s (Op.Cell to value) ops last env x sp)) (cell_kept m s sp.keeps v) o)
      (omega arith))

  module _ (to : Var) (template : ℕ) (proc : Arg) (kept : List Var) (sp : Spot m s (Op.Object to template proc kept) ops last env x) where
    abbrev object : Val → List Value → Object
    object f vs = record { procedure = f; template = template; captured = vs }

    abbrev more : Val → List Value → State
    more f vs = taking (record_words (length kept)) (with_object s (object f vs))

    abbrev made : Val → List Value → State
    made f vs = going (Running ops last ((to.0, Lasting (ObjectV (length s.objects))) ∷ env)) (counted (2 + length kept) (more f vs))

    by_lasting : (f : Val) (vs : List Value) (b : Bool) → list_all is_lasting vs ≡ b → lasting_value m.p.shared env proc ≡ Some f → kept_values env kept ≡ Some vs → IsSound (if b then made f vs else wrong s) → Led m s x (if b then made f vs else wrong s)
    by_lasting f vs false lasting given have sound = absurd (cc)
    by_lasting f vs true lasting given have sound =
        let lt : to.0 < (choice_of m).free = (fit m s (Op.Object to template proc kept) ops last env x sp).binds.0 in
        let above = sp.above in
        let named = (fit m s (Op.Object to template proc kept) ops last env x sp).args in
        spot_led m s (Op.Object to template proc kept) ops last env x sp (made f vs) refl
        (GoesOnOrFull m.words m.sizes (layout_of m) sp.runs.escapes (ways_of m sp.runs.born) sp.t s (more f vs) ((to.0, Lasting (ObjectV (length s.objects))) ∷ env) sp.runs.core sp.rest) (17 + 3 * length kept)
        (object_made m.words m.sizes (layout_of m) sp.runs.escapes (ways_of m sp.runs.born) sp.t s env sp.runs.core to template (operand_of (layout_of m) m.p.shared proc) f kept vs sp.rest (held m s (Op.Object to template proc kept) ops last env x sp) (argument_has m s (Op.Object to template proc kept) ops last env x sp proc f named.0 given) have lasting (fit m s (Op.Object to template proc kept) ops last env x sp).named (omega (arith, lt, above)))
        (λ y o. goes_on_or_full m s (Op.Object to template proc kept) ops last env x sp (more f vs) ((to.0, Lasting (ObjectV (length s.objects))) ∷ env) (s.moves + (2 + length kept)) y (below_more (choice_of m).free env to.0 (Lasting (ObjectV (length s.objects))) lt (below m s (Op.Object to template proc kept) ops last env x sp)) (object_kept m s sp.keeps (object f vs)) o)
        (omega arith)

    pub object_led : IsSound (acted m s (Op.Object to template proc kept) ops last env) → IsLed m s (Op.Object to template proc kept) ops last env x
    object_led sound =
        lookup (Led m s x) (lasting_value m.p.shared env proc) s (λ f. or_wrong (kept_values env kept) s (λ vs. if list_all is_lasting vs then made f vs else wrong s)) sound
        (λ f given sound2.
        lookup (Led m s x) (kept_values env kept) s (λ vs. if list_all is_lasting vs then made f vs else wrong s) sound2
        (λ vs have sound3. by_lasting f vs (list_all is_lasting vs) refl given have sound3))
