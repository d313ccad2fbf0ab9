-- How many bytes the items of a program have at most: a table by the kind of each operation and end. Each branch is counted with the
-- widest displacement, each operand and home as the dearest, a single move of a home's word with 10 bytes, and three of them for
-- each argument of a jump or an Enter and each parameter.
use Rattle.std.specs.Prelude.{ℕ, ◌+◌, ◌*◌, nat_le, if◌then◌else◌, ℤ, pos, negsuc, length, sum_by}
use Rattle.word_ir.specs.declared.words.Arith.{Arith}
use Rattle.word_ir.specs.declared.words.Arith.TheVariants as arith
use Rattle.word_ir.specs.declared.words.WordBlock.{WordBlock}
use Rattle.word_ir.specs.declared.words.WordEnd.{WordEnd}
use Rattle.word_ir.specs.declared.words.WordEnd.TheVariants as last
use Rattle.word_ir.specs.declared.words.WordOp.{WordOp}
use Rattle.word_ir.specs.declared.words.WordOp.TheVariants as op
use Rattle.word_ir.specs.declared.words.Words.{Words}

-- one instruction shifts by 8 bits at most
abbrev pub shift_bytes : ℤ → ℕ
shift_bytes (pos n) = if nat_le n 8 then 26 else 50
shift_bytes (negsuc n) = 26

abbrev pub arith_bytes : Arith → ℕ
arith_bytes arith.Add = 36
arith_bytes arith.Sub = 36
arith_bytes arith.Mul = 40
arith_bytes arith.Quotient = 40
arith_bytes arith.Remainder = 40
arith_bytes (arith.Shift count) = shift_bytes count
arith_bytes arith.And = 32
arith_bytes arith.Or = 32

abbrev pub op_bytes : WordOp → ℕ
op_bytes (op.Move to from) = 16
op_bytes (op.Load to base offset) = 20
op_bytes (op.LoadByte to base index offset) = 36
op_bytes (op.Store base offset from) = 28
op_bytes (op.Arith to kind a b over) = arith_bytes kind
op_bytes (op.Take to bytes full) = 34
op_bytes (op.Push words full) = 22
op_bytes (op.Pop words) = 6
op_bytes (op.Service number args) = 30
op_bytes (op.Reset to) = 12

abbrev pub end_bytes : WordEnd → ℕ
end_bytes (last.Jump block args) = 6 + 30 * length args
end_bytes (last.Test kind a b at_true at_false) = 36
end_bytes (last.Enter code args) = 16 + 30 * length args
end_bytes last.Stop = 2

-- the sum over all blocks
abbrev pub block_bytes : WordBlock → ℕ
block_bytes block = sum_by op_bytes block.ops.items + end_bytes block.last + 30 * length block.params

abbrev pub most_bytes : Words → ℕ
most_bytes words = sum_by block_bytes words.blocks.items
