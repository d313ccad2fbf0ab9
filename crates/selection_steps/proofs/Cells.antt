-- A cell is read, and gets another value.
use Rattle.std.proofs.Common.{◌≡◌, ℕ, ◌+◌, ◌<◌, List, ◌∷◌, Option, Some, None, slice_get, option_and_then, refl, ap, ◌∙◌, arith}
use Rattle.t_base.specs.declared.basics.Var.{Var}
use Rattle.cps_ir.specs.declared.args.Arg.{Arg}
use Rattle.t_prim.specs.Values.{Val}
use Rattle.word_ir.specs.Stamps.{Stamped}
use Rattle.frame_ir.specs.declared.forms.FrameOp.{FrameOp}
use Rattle.frame_ir.specs.declared.forms.FrameOp.TheVariants as Op
use Rattle.frame_ir.specs.declared.forms.FrameEnd.{FrameEnd}
use Rattle.frame_ir.specs.Values.{Value, Lasting, InFrame, CellAt, Env, value_at, lasting_of}
use Rattle.frame_ir.specs.States.{State, ACell, Running, going, counted, or_wrong, with_cell_at}
use Rattle.frame_ir.specs.Arguments.{value_of, lasting_value}
use Rattle.frame_ir.specs.Operations.{cell_of, with_cell_of}
use Rattle.frame_words.specs.Holding.{IsMade}
use Rattle.frame_words.specs.Origins.{OnHeap}
use Rattle.frame_words.proofs.Reading.{made_is}
use Rattle.frame_words.proofs.Values.{on_heap}
use Rattle.frame_stacks.specs.Stacks.{IsLasting}
use Rattle.frame_stacks.specs.Frames.{HoldsVariable}
use Rattle.frame_stacks.specs.Laws.{GoesOn, HasValue}
use Rattle.frame_reads.proofs.Records.{cell_read}
use Rattle.frame_cells.proofs.Cells.{cell_is_set}
use Rattle.prim_holds.specs.Operands.{IsNamed, operand_of}
use Rattle.prim_holds.proofs.Arguments.{operand_has}
use Rattle.selection_steps.specs.Settings.{Setting, choice_of, layout_of, IsSound}
use Rattle.selection_steps.specs.Related.{ways_of}
use Rattle.selection_steps.specs.Led.{Led}
use Rattle.selection_steps.proofs.Leading.{below_more, Spot, IsLed, acted, lookup, fit, held, below, spot_led, goes_on}

cell_is : (v : Value) (k : ℕ) → cell_of v ≡ Some k → v ≡ CellAt k
cell_is (CellAt n) k is = ap CellAt (cc)
cell_is (Lasting v) k is = absurd (cc)
cell_is (InFrame birth slot) k is = absurd (cc)

pub with_cell : (P : State → Type 0) (o : Option Value) (s : State) (go : ℕ → State) → IsSound (with_cell_of o s go) → ((k : ℕ) → o ≡ Some (CellAt k) → IsSound (go k) → P (go k)) → P (with_cell_of o s go)
with_cell P o s go sound h =
    lookup P o s (λ v. or_wrong (cell_of v) s go) sound (λ v is sound2. lookup P (cell_of v) s go sound2 (λ k at sound3. h k (is ∙ ap Some (cell_is v k at)) sound3))

lasting_is : (w : Value) (v : Val) → lasting_of w ≡ Some v → w ≡ Lasting v
lasting_is (Lasting x) v is = ap Lasting (cc)
lasting_is (InFrame birth slot) v is = absurd (cc)
lasting_is (CellAt k) v is = absurd (cc)

pub lasting_by : (o : Option Value) (v : Val) → option_and_then lasting_of o ≡ Some v → o ≡ Some (Lasting v)
lasting_by (Some w) v is = ap Some (lasting_is w v is)
lasting_by None v is = absurd (cc)

-- an operand with the word of an argument's value
module _ (m : Setting) (s : State) (op : FrameOp) (ops : List FrameOp) (last : FrameEnd) (env : Env) (x : Stamped) (sp : Spot m s op ops last env x) where
  pub argument_has : (a : Arg) (v : Val) → IsNamed (layout_of m) m.p.shared a → lasting_value m.p.shared env a ≡ Some v → HasValue m.words m.sizes (layout_of m) (ways_of m sp.runs.born) sp.t s sp.runs.core (operand_of (layout_of m) m.p.shared a) (Lasting v)
  argument_has a v named is =
      operand_has m.words m.sizes (layout_of m) sp.runs.escapes (ways_of m sp.runs.born) sp.t s env sp.runs.core (held m s op ops last env x sp) m.p.shared a (Lasting v) named (lasting_by (value_of m.p.shared env a) v is)

  -- what is a variable's cell was made
  pub cell_there : (cell : Var) (k : ℕ) → value_at env cell.0 ≡ Some (CellAt k) → (v : Val) × (slice_get s.cells k ≡ Some v)
  cell_there cell k is =
      let o : HoldsVariable m.sizes (layout_of m) (ways_of m sp.runs.born) (choice_of m).free s sp.runs.core cell.0 (CellAt k) = sp.runs.holds.variables.each cell.0 (CellAt k) is in
      let known : IsLasting (layout_of m) s (CellAt k) o.word = o.stands in
      let place : OnHeap s 2 (ACell k) known.number = on_heap s 2 (ACell k) known.number known.known in
      let made : IsMade (layout_of m) s (ACell k) = made_is m.sizes (layout_of m) sp.runs.escapes s sp.runs.core.storage sp.runs.core.next sp.runs.core.output sp.runs.holds.data_held (ACell k) place.place place.found in
      (made.0, made.1)

module _ (m : Setting) (s : State) (ops : List FrameOp) (last : FrameEnd) (env : Env) (x : Stamped) where
  pub cell_get_led : (to cell : Var) → Spot m s (Op.CellGet to cell) ops last env x → IsSound (acted m s (Op.CellGet to cell) ops last env) → IsLed m s (Op.CellGet to cell) ops last env x
  cell_get_led to cell sp sound =
      with_cell (Led m s x) (value_at env cell.0) s (λ k. or_wrong (slice_get s.cells k) s (λ v. going (Running ops last ((to.0, Lasting v) ∷ env)) (counted 2 s))) sound
      (λ k is sound2.
      lookup (Led m s x) (slice_get s.cells k) s (λ v. going (Running ops last ((to.0, Lasting v) ∷ env)) (counted 2 s)) sound2
      (λ v there sound3.
      let lt : to.0 < (choice_of m).free = (fit m s (Op.CellGet to cell) ops last env x sp).binds.0 in
      let above = sp.above in
      spot_led m s (Op.CellGet to cell) ops last env x sp (going (Running ops last ((to.0, Lasting v) ∷ env)) (counted 2 s)) refl
      (GoesOn m.words m.sizes (layout_of m) sp.runs.escapes (ways_of m sp.runs.born) sp.t s ((to.0, Lasting v) ∷ env) sp.rest) 2
      (cell_read m.words m.sizes (layout_of m) sp.runs.escapes (ways_of m sp.runs.born) sp.t s env sp.runs.core to cell k v sp.rest (held m s (Op.CellGet to cell) ops last env x sp) is there (omega (arith, lt, above)))
      (λ y o. goes_on m s (Op.CellGet to cell) ops last env x sp s sp.runs.escapes sp.runs.born ((to.0, Lasting v) ∷ env) (s.moves + 2) y (below_more (choice_of m).free env to.0 (Lasting v) lt (below m s (Op.CellGet to cell) ops last env x sp)) sp.keeps o)
      (omega arith)))

  pub cell_set_led : (cell : Var) (value : Arg) → Spot m s (Op.CellSet cell value) ops last env x → IsSound (acted m s (Op.CellSet cell value) ops last env) → IsLed m s (Op.CellSet cell value) ops last env x
  cell_set_led cell value sp sound =
      with_cell (Led m s x) (value_at env cell.0) s (λ k. or_wrong (lasting_value m.p.shared env value) s (λ v. going (Running ops last env) (counted 3 (with_cell_at s k v)))) sound
      (λ k is sound2.
      lookup (Led m s x) (lasting_value m.p.shared env value) s (λ v. going (Running ops last env) (counted 3 (with_cell_at s k v))) sound2
      (λ v given sound3.
      let named = (fit m s (Op.CellSet cell value) ops last env x sp).args in
      let old = cell_there m s (Op.CellSet cell value) ops last env x sp cell k is in
      spot_led m s (Op.CellSet cell value) ops last env x sp (going (Running ops last env) (counted 3 (with_cell_at s k v))) refl
      (GoesOn m.words m.sizes (layout_of m) sp.runs.escapes (ways_of m sp.runs.born) sp.t (with_cell_at s k v) env sp.rest) 3
      (cell_is_set m.words m.sizes (layout_of m) sp.runs.escapes (ways_of m sp.runs.born) sp.t s env sp.runs.core cell (operand_of (layout_of m) m.p.shared value) k old.0 v sp.rest (held m s (Op.CellSet cell value) ops last env x sp) is old.1 (argument_has m s (Op.CellSet cell value) ops last env x sp value v named.0 given))
      (λ y o. goes_on m s (Op.CellSet cell value) ops last env x sp (with_cell_at s k v) sp.runs.escapes sp.runs.born env (s.moves + 3) y (below m s (Op.CellSet cell value) ops last env x sp) sp.keeps o)
      (omega arith)))
