-- Code as trees: the lines from a place of a program on, with the blocks to which they turn.
use Rattle.std.specs.Prelude.{◌≡◌, ℕ, ◌+◌, Some}
use Rattle.t_base.specs.declared.basics.Var.{Var}
use Rattle.word_ir.specs.declared.operands.Operand.{Operand}
use Rattle.word_ir.specs.declared.words.Arith.{Arith}
use Rattle.word_ir.specs.declared.words.Test.{Test}
use Rattle.word_ir.specs.declared.words.WordOp.{WordOp}
use Rattle.word_ir.specs.declared.words.WordOp.TheVariants as op
use Rattle.word_ir.specs.declared.words.WordEnd.{WordEnd}
use Rattle.word_ir.specs.declared.words.WordEnd.TheVariants as last
use Rattle.word_ir.specs.declared.words.Words.{Words}
use Rattle.word_ir.specs.Lines.{Op, Last, line_at}

-- an operation that turns to another block where its result doesn't fit or there is no room
pub data Trying : Type 0 where
  Compute : (to : Var) (kind : Arith) (a b : Operand) → Trying
  Take : (to : Var) (bytes : Operand) → Trying
  Push : (words : ℕ) → Trying

-- with that block
abbrev pub tried : Trying → ℕ → WordOp
tried (Compute to kind a b) exit = op.Arith to kind a b exit
tried (Take to bytes) exit = op.Take to bytes exit
tried (Push words) exit = op.Push words exit

-- an operation and the rest; one with an exit; a test; an end
pub data Tree : Type 0 where
  Do : (op : WordOp) (rest : Tree) → Tree
  Or : (trying : Trying) (exit rest : Tree) → Tree
  Ask : (kind : Test) (a b : Operand) (at_true at_false : Tree) → Tree
  Close : (end : WordEnd) → Tree

-- From a place of a block on, and in the blocks to which that leads, a program has the lines of a tree. Trees that meet may be in one block.
abbrev pub Spells : Words → ℕ → ℕ → Tree → Type 0
Spells words block place (Do op rest) = (line_at words block place ≡ Some (Op op)) × Spells words block (place + 1) rest
Spells words block place (Or trying exit rest) =
    (turn : ℕ) × (line_at words block place ≡ Some (Op (tried trying turn))) × Spells words turn 0 exit × Spells words block (place + 1) rest
Spells words block place (Ask kind a b at_true at_false) =
    (first second : ℕ) × (line_at words block place ≡ Some (Last (last.Test kind a b first second))) × Spells words first 0 at_true × Spells words second 0 at_false
Spells words block place (Close end) = line_at words block place ≡ Some (Last end)
