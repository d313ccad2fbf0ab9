-- Laws of ends of blocks and their items.
use Rattle.std.specs.Prelude.{◌≡◌, ℕ, true, List, ◌++◌}
use Rattle.word_ir.specs.declared.operands.Operand.{Operand}
use Rattle.word_ir.specs.declared.words.Test.{Test}
use Rattle.word_ir.specs.declared.words.WordEnd.TheVariants as last
use Rattle.word_ir.specs.Whole.{is_test_sized}
use Rattle.word_ir.specs.declared.placed.Placed.{Placed}
use Rattle.word_ir.specs.Storage.{Sizes}
use Rattle.word_ir.specs.Step.{placed_in}
use Rattle.lap_items.specs.Program.{IsEmitted}
use Rattle.word_ir.specs.State.{Setting, State as WordState}
use Rattle.word_ir.specs.Effects.{end_effect}
use Rattle.word_ir.specs.Ranges.{IsInPlace}
use Rattle.m68020_step.specs.Step.{State}
use Rattle.m68020_asm.specs.declared.item.Item.{Item}
use Rattle.lap_items.specs.Ends.{test_items}
use Rattle.lap_runs.specs.Represents.{Represents}
use Rattle.lap_paths.specs.Paths.{Assembly, Stands}
use Rattle.lap_paths.specs.Housed.{IsHoused, IsUsable}
use Rattle.lap_lines.specs.Arrives.{Arrives}
use Rattle.lap_ends.specs.Codes.{HasCodes}

-- From each state that stands for one of the words, at the items of a test, these come to the label of the block to which the test turns.
abbrev pub TestsArrive : Type 0
TestsArrive =
    (a : Assembly) (m : Setting) (s : WordState) (t : State) (items : List Item) (k : Test) (x y : Operand) (at_true at_false : ℕ) → HasCodes a m → IsHoused m → IsInPlace m s → Represents m a.labels s t
    → IsUsable m x → IsUsable m y → is_test_sized k ≡ true → Stands a t (test_items m.homes k x y at_true at_false ++ items) → Arrives a m s t items 8 (end_effect m s (last.Test k x y at_true at_false))

-- So it is with the code that is emitted.
abbrev pub CodesApart : Type 0
CodesApart = (a : Assembly) (placed : Placed) (sizes : Sizes) → IsEmitted placed a.items → HasCodes a (placed_in placed sizes)
