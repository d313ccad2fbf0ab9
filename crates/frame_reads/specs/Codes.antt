-- The code of operations that read, in front of what comes behind it.
use Rattle.std.specs.Prelude.{ℕ, ◌+◌, ◌*◌, pos}
use Rattle.t_base.specs.declared.basics.Var.{Var}
use Rattle.word_ir.specs.declared.operands.Operand.{Operand}
use Rattle.word_ir.specs.declared.operands.Operand.TheVariants as operand
use Rattle.word_ir.specs.declared.words.Test.TheVariants as test
use Rattle.word_ir.specs.declared.words.WordOp.TheVariants as op
use Rattle.word_trees.specs.Trees.{Tree, Do, Ask}
use Rattle.frame_words.specs.Layouts.{GLOBALS}
use Rattle.frame_words.specs.ValueWords.{NIL, UNBOUND}
use Rattle.select_rows.specs.Macros.{word, fault}

-- what a closure or an object captured stands behind three words; the address has the tag of objects, 2
abbrev pub closure_get : Var → Var → ℕ → Tree → Tree
closure_get to from slot rest = Do (op.Load to (operand.Var from) (pos (4 * slot + 10))) rest

abbrev pub cell_get : Var → Var → Tree → Tree
cell_get to cell rest = Do (op.Load to (operand.Var cell) (pos 2)) rest

abbrev pub global_get : Var → ℕ → Tree → Tree
global_get to global rest = Do (op.Load to (operand.Static (GLOBALS + global)) (pos 0)) (Ask test.Eq (operand.Var to) (word UNBOUND) (fault 9) rest)

-- Nil or not
abbrev pub branch : Operand → Tree → Tree → Tree
branch x first second = Ask test.Eq x (word NIL) second first
