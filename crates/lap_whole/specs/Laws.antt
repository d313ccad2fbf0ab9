-- Lines whose items serve, and that all of a whole program are such.
use Rattle.std.specs.Prelude.{◌≡◌, ℕ, IsTrue, Some}
use Rattle.std.specs.List.{AllByRecursion}
use Rattle.word_ir.specs.declared.placed.Placed.{Placed}
use Rattle.word_ir.specs.declared.words.WordOp.{WordOp}
use Rattle.word_ir.specs.Lines.{Line, Op, line_at, operands_of, binds_of}
use Rattle.word_ir.specs.Storage.{Sizes}
use Rattle.word_ir.specs.State.{Setting}
use Rattle.word_ir.specs.Step.{placed_in}
use Rattle.word_ir.specs.Whole.{is_sized, IsShaped}
use Rattle.word_ir.specs.WholePlaced.{IsWholePlaced}
use Rattle.lap_paths.specs.Housed.{HasHome, IsUsable}
use Rattle.lap_lines.specs.Laws.{IsOperable}

-- The line's variables have homes, its numbers are those of its types, the code that it takes is taken, and its lists fit.
pub record IsUsableLine (m : Setting) (line : Line) : Type 0 where
  pub operands : AllByRecursion (IsUsable m) (operands_of line)
  pub binds : AllByRecursion (HasHome m) (binds_of line)
  pub sized : IsTrue (is_sized line)
  pub shaped : IsShaped m.words line

abbrev pub LinesUsable : Type 0
LinesUsable = (placed : Placed) (sizes : Sizes) (block place : ℕ) (line : Line) → IsWholePlaced placed → line_at placed.words block place ≡ Some line → IsUsableLine (placed_in placed sizes) line

abbrev pub OperationsOperable : Type 0
OperationsOperable = (placed : Placed) (sizes : Sizes) (block place : ℕ) (o : WordOp) → IsWholePlaced placed → line_at placed.words block place ≡ Some (Op o) → IsOperable (placed_in placed sizes) o
