-- The kinds of values: what a value of a kind stands for, and tests of kinds.
use Rattle.std.specs.Prelude.{ℕ, Bool, true, false, ℤ, Option, Some, None, is_some}
use Rattle.t_prim.specs.Values.{Text, Val, FixV, CharV, NilV, SymbolV, StringV, PairV, VectorV, ClosureV, ObjectV, OperationV, BuiltinV, EscapeV}

abbrev pub fixnum_of : Val → Option ℤ
fixnum_of (FixV x) = Some x
fixnum_of _ = None

abbrev pub char_of : Val → Option ℕ
char_of (CharV c) = Some c
char_of _ = None

abbrev pub symbol_of : Val → Option ℕ
symbol_of (SymbolV n) = Some n
symbol_of _ = None

abbrev pub string_of : Val → Option Text
string_of (StringV t) = Some t
string_of _ = None

abbrev pub pair_of : Val → Option ℕ
pair_of (PairV k) = Some k
pair_of _ = None

abbrev pub vector_of : Val → Option ℕ
vector_of (VectorV k) = Some k
vector_of _ = None

abbrev pub is_nil : Val → Bool
is_nil NilV = true
is_nil _ = false

abbrev pub is_pair : Val → Bool
is_pair v = is_some (pair_of v)

-- what a call may have as its operator
abbrev pub is_procedure : Val → Bool
is_procedure (ClosureV i) = true
is_procedure (ObjectV i) = true
is_procedure (OperationV o) = true
is_procedure (BuiltinV p) = true
is_procedure (EscapeV i) = true
is_procedure _ = false
