-- The code of calls and of entries. A call passes the count of operands, the procedure and the first five operands as arguments, further ones in static words.
use Rattle.std.specs.Prelude.{ℕ, zero, suc, ◌+◌, ◌-◌, List, [], ◌∷◌, length, map, take, drop, pos, negsuc}
use Rattle.t_base.specs.declared.basics.Var.{Var}
use Rattle.word_ir.specs.declared.operands.Operand.{Operand}
use Rattle.word_ir.specs.declared.operands.Operand.TheVariants as operand
use Rattle.word_ir.specs.declared.words.Test.TheVariants as test
use Rattle.word_ir.specs.declared.words.WordOp.TheVariants as op
use Rattle.word_ir.specs.declared.words.WordEnd.TheVariants as last
use Rattle.word_trees.specs.Trees.{Tree, Do, Ask, Close}
use Rattle.frame_words.specs.Layouts.{OPERANDS}
use Rattle.select_rows.specs.Macros.{var, of_var, word, fault}

-- so many variables from a number on
abbrev pub params_from : ℕ → ℕ → List Var
params_from n zero = []
params_from n (suc k) = var n ∷ params_from (suc n) k

-- count, procedure, five operands
abbrev pub call_params : ℕ → List Var
call_params t = params_from t 7

-- ---- calls

-- further operands from one on
abbrev pub store_operands : ℕ → List Operand → Tree → Tree
store_operands i [] rest = rest
store_operands i (x ∷ xs) rest = Do (op.Store (operand.Static (OPERANDS + i)) (pos 0) x) (store_operands (suc i) xs rest)

abbrev pub call_code : ℕ → Operand → List Operand → Tree
call_code target f args = store_operands 0 (drop 5 args) (Close (last.Enter (operand.Code target) (word (length args) ∷ f ∷ take 5 args)))

-- ---- entries

abbrev pub load_operands : ℕ → ℕ → ℕ → Tree → Tree
load_operands t i zero rest = rest
load_operands t i (suc k) rest = Do (op.Load (var (t + 7 + i)) (operand.Static (OPERANDS + i)) (pos 0)) (load_operands t (suc i) k rest)

-- of a code with so many operands, whose block gets the procedure too
abbrev pub entry_code : ℕ → ℕ → ℕ → Tree
entry_code t count block = Ask test.Eq (of_var t) (word count) (load_operands t 0 (count - 5) (Close (last.Jump block (map operand.Var (params_from (t + 1) (suc count)))))) (fault 2)

-- ---- a procedure that isn't known

-- to the code of a closure or a builtin, which stands behind the header
abbrev pub pass_on : ℕ → Tree
pass_on t = Do (op.Load (var (t + 8)) (of_var (t + 1)) (pos 2)) (Close (last.Enter (of_var (t + 8)) (map operand.Var (call_params t))))

-- `others` is for what has another header
abbrev pub apply_code : ℕ → Tree → Tree
apply_code t others =
    Ask (test.TagIs 2) (of_var (t + 1)) (word 0) (Do (op.Load (var (t + 7)) (of_var (t + 1)) (negsuc 1)) (Ask test.Eq (of_var (t + 7)) (word 0x1D) (pass_on t) others)) (fault 1)
