-- Laws of operations, of tests and their items.
use Rattle.std.specs.Prelude.{◌≡◌, ℕ, ◌*◌, true, IsTrue, List, ◌++◌}
use Rattle.word_ir.specs.declared.words.WordOp.{WordOp}
use Rattle.word_ir.specs.declared.operands.Operand.{Operand}
use Rattle.word_ir.specs.declared.words.Test.{Test}
use Rattle.word_ir.specs.declared.words.WordEnd.TheVariants as last
use Rattle.word_ir.specs.Lines.{Op, Last, moves_of}
use Rattle.word_ir.specs.Whole.{is_op_shaped, is_test_sized}
use Rattle.word_ir.specs.State.{Setting, State as WordState}
use Rattle.word_ir.specs.Effects.{names_of, op_effect, end_effect}
use Rattle.word_ir.specs.Ranges.{IsInPlace}
use Rattle.m68020_step.specs.Step.{State}
use Rattle.m68020_asm.specs.declared.item.Item.{Item}
use Rattle.lap_items.specs.Ends.{test_items}
use Rattle.lap_items.specs.Operations.{op_items}
use Rattle.lap_runs.specs.Represents.{Represents}
use Rattle.lap_paths.specs.Paths.{Assembly, Stands}
use Rattle.lap_paths.specs.Housed.{IsHoused, IsUsable}
use Rattle.lap_lines.specs.Laws.{IsOperable}
use Rattle.lap_ends.specs.Codes.{HasCodes}
use Rattle.lap_operations.specs.Comes.{Comes}

abbrev pub OperationsArrive : Type 0
OperationsArrive =
    (a : Assembly) (m : Setting) (s : WordState) (t : State) (items : List Item) (o : WordOp) → a.names ≡ names_of m → IsHoused m → IsInPlace m s → Represents m a.labels s t → IsOperable m o → IsTrue (is_op_shaped o)
    → Stands a t (op_items m.homes o ++ items) → Comes a m s t items (13 * moves_of (Op o)) (op_effect m s o)

abbrev pub TestsCome : Type 0
TestsCome =
    (a : Assembly) (m : Setting) (s : WordState) (t : State) (items : List Item) (k : Test) (x y : Operand) (at_true at_false : ℕ) → HasCodes a m → IsHoused m → IsInPlace m s → Represents m a.labels s t
    → IsUsable m x → IsUsable m y → is_test_sized k ≡ true → Stands a t (test_items m.homes k x y at_true at_false ++ items)
    → Comes a m s t items (13 * moves_of (Last (last.Test k x y at_true at_false))) (end_effect m s (last.Test k x y at_true at_false))
