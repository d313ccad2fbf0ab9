-- The operands of arguments: variables, and the words of what a program names.
use Rattle.std.specs.Prelude.{◌≡◌, ℕ, nat_lt, true, if◌then◌else◌, List, [], ◌∷◌, Option, Some, None, is_some, option_and_then}
use Rattle.std.specs.List.{AllByRecursion}
use Rattle.t_base.specs.declared.basics.Var.{Var}
use Rattle.t_base.specs.declared.shared_parts.Shared.{Shared}
use Rattle.t_prim.specs.Values.{Val, FixV, CharV, NilV, TrueV, SymbolV, StringV, PairV, ClosureV, OperationV, BuiltinV, val_of}
use Rattle.t_prim.specs.Operands.{in_range}
use Rattle.cps_ir.specs.declared.args.Arg.{Arg}
use Rattle.cps_ir.specs.declared.args.Arg.TheVariants as Argument
use Rattle.word_ir.specs.declared.operands.Operand.{Operand}
use Rattle.word_ir.specs.declared.operands.Operand.TheVariants as operand
use Rattle.frame_ir.specs.Arguments.{code_of_global}
use Rattle.tagged_words.specs.Tags.{fixnum_word, char_word}
use Rattle.word_trees.specs.Trees.{Tree}
use Rattle.frame_words.specs.Layouts.{Layout, ClosureOf, BuiltinOf, OperationOf, TextOf, SymbolOf, PairOf, fixed_address}
use Rattle.frame_words.specs.ValueWords.{OBJECT, PAIR, NIL, TRUE, tagged, or_zero}
use Rattle.select_rows.specs.Macros.{never}
use Rattle.select_rows.specs.Codes.{Code, of_none, of_one, of_two, of_three}

-- ---- what is named

-- the word of a value that needs no heap, which is the same in all states
abbrev pub fixed_word : Layout → Val → Option ℕ
fixed_word l (FixV x) = if in_range x then Some (fixnum_word x) else None
fixed_word l (CharV c) = if nat_lt c 128 then Some (char_word c) else None
fixed_word l NilV = Some NIL
fixed_word l TrueV = Some TRUE
fixed_word l (SymbolV n) = tagged OBJECT (fixed_address l (SymbolOf n))
fixed_word l (StringV t) = tagged OBJECT (fixed_address l (TextOf t))
fixed_word l (PairV k) = tagged PAIR (fixed_address l (PairOf k))
fixed_word l (ClosureV i) = tagged OBJECT (fixed_address l (ClosureOf i))
fixed_word l (OperationV o) = tagged OBJECT (fixed_address l (OperationOf o))
fixed_word l (BuiltinV p) = tagged OBJECT (fixed_address l (BuiltinOf p))
fixed_word l _ = None

-- the word of an argument that is no variable
abbrev pub named_word : Layout → Shared → Arg → Option ℕ
named_word l shared (Argument.Const c) = fixed_word l (val_of c)
named_word l shared (Argument.Var x) = None
named_word l shared (Argument.Proc block) = fixed_word l (ClosureV block)
named_word l shared (Argument.Global g) = option_and_then (λ code. fixed_word l (ClosureV code)) (code_of_global shared g)
named_word l shared (Argument.Builtin p) = fixed_word l (BuiltinV p)
named_word l shared (Argument.Op o) = fixed_word l (OperationV o)

-- the program's static words have what an argument names
abbrev pub IsNamed : Layout → Shared → Arg → Type 0
IsNamed l shared (Argument.Var x) = Unit {0}
IsNamed l shared a = is_some (named_word l shared a) ≡ true

abbrev pub AreNamed : Layout → Shared → List Arg → Type 0
AreNamed l shared args = AllByRecursion (IsNamed l shared) args

-- ---- operands

abbrev pub operand_of : Layout → Shared → Arg → Operand
operand_of l shared (Argument.Var x) = operand.Var x
operand_of l shared a = operand.Word (or_zero (named_word l shared a))

-- ---- the code of a builtin at as many operands as it takes

abbrev pub code_at : Code → List Operand → ℕ → Var → Tree → Tree
code_at (of_none cost code) [] t to rest = code t to rest
code_at (of_one cost code) (a ∷ []) t to rest = code a t to rest
code_at (of_two cost code) (a ∷ b ∷ []) t to rest = code a b t to rest
code_at (of_three cost code) (a ∷ b ∷ d ∷ []) t to rest = code a b d t to rest
code_at _ _ t to rest = never

-- how many it takes
abbrev pub operands_of : Code → ℕ
operands_of (of_none cost code) = 0
operands_of (of_one cost code) = 1
operands_of (of_two cost code) = 2
operands_of (of_three cost code) = 3

-- its most moves
abbrev pub cost_of : Code → ℕ
cost_of (of_none cost code) = cost
cost_of (of_one cost code) = cost
cost_of (of_two cost code) = cost
cost_of (of_three cost code) = cost
