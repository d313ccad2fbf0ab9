-- The code of operations on frames, in front of what comes behind it.
use Rattle.std.specs.Prelude.{ℕ, suc, ◌+◌, ◌*◌, List, [], ◌∷◌, pos}
use Rattle.t_base.specs.declared.basics.Var.{Var}
use Rattle.word_ir.specs.declared.operands.Operand.{Operand}
use Rattle.word_ir.specs.declared.operands.Operand.TheVariants as operand
use Rattle.word_ir.specs.declared.words.WordOp.TheVariants as op
use Rattle.word_ir.specs.declared.words.WordEnd.TheVariants as last
use Rattle.word_trees.specs.Trees.{Tree, Do, Or, Close, Push}
use Rattle.select_rows.specs.Macros.{var, of_var, word, never}

-- a slot stands behind the two first words
abbrev pub frame_get : Var → ℕ → Tree → Tree
frame_get to slot rest = Do (op.Load to (operand.Slot (4 * (2 + slot))) (pos 0)) rest

-- the next frame's address, down to which words are popped
abbrev pub pop_frame : ℕ → Tree → Tree
pop_frame t rest = Do (op.Load (var t) (operand.Slot 4) (pos 0)) (Do (op.Reset (of_var t)) rest)

abbrev pub jump : ℕ → List Operand → Tree
jump block args = Close (last.Jump block args)

-- to the way back of the youngest frame, with one value
abbrev pub give_back : ℕ → Operand → Tree
give_back t x = Do (op.Load (var t) (operand.Slot 0) (pos 0)) (Close (last.Enter (of_var t) (x ∷ [])))

-- words of the youngest frame from one on
abbrev pub stores : ℕ → List Operand → Tree → Tree
stores place [] rest = rest
stores place (x ∷ xs) rest = Do (op.Store (operand.Slot (4 * place)) (pos 0) x) (stores (suc place) xs rest)

-- the run ends for want of so many words of stack
abbrev pub no_stack : ℕ → Tree
no_stack count = Do (op.Service 4 (word (4 * count) ∷ word 1 ∷ [])) never

-- a frame of so many words: the way back, the address of the next frame, and what is kept
abbrev pub push_frame : ℕ → ℕ → List Operand → Tree → Tree
push_frame back count kept rest = Or (Push count) (no_stack count) (stores 0 (operand.Code back ∷ operand.Slot (4 * count) ∷ kept) rest)
