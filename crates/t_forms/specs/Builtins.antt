-- The names of the builtins.
use Rattle.std.specs.Prelude.{ℕ, List, [], ◌∷◌, Option, Some, None, codes}
use Rattle.t_base.specs.declared.builtins.Builtin.{Builtin}
use Rattle.t_base.specs.declared.builtins.Builtin.TheVariants.{Add, Sub, Mul, Quotient, Remainder, Inc, Dec, NumEq, NumLt, NumGt, NumLe, NumGe, IsZero, IsNegative, IsPositive, Eq, Not, IsNull, IsPair, IsAtom, IsList, IsFixnum, IsChar, IsString, IsSymbol, IsVector, IsProcedure, Cons, Car, Cdr, MakeVector, VectorLength, Vref, StringLength, StringElt, SymbolToString, CharToAscii, AsciiToChar, CharEq, CharLt, PutFixnum, PutChar, PutString, Newline, Error}
use Rattle.t_objects.specs.Words.{spelled}

-- sums, quotients and comparisons of fixnums
abbrev pub number_names : List (List ℕ × Builtin)
number_names =
    (codes "+", Add) ∷ (codes "-", Sub) ∷ (codes "*", Mul) ∷ (codes "quotient", Quotient) ∷ (codes "remainder", Remainder)
    ∷ (codes "1+", Inc) ∷ (codes "-1+", Dec) ∷ (codes "=", NumEq) ∷ (codes "<", NumLt) ∷ (codes ">", NumGt)
    ∷ (codes "<=", NumLe) ∷ (codes ">=", NumGe) ∷ []

-- tests of numbers, of identity and of kinds
abbrev pub test_names : List (List ℕ × Builtin)
test_names =
    (codes "zero?", IsZero) ∷ (codes "negative?", IsNegative) ∷ (codes "positive?", IsPositive) ∷ (codes "eq?", Eq)
    ∷ (codes "not", Not) ∷ (codes "null?", IsNull) ∷ (codes "pair?", IsPair) ∷ (codes "atom?", IsAtom)
    ∷ (codes "list?", IsList) ∷ (codes "fixnum?", IsFixnum) ∷ (codes "char?", IsChar) ∷ (codes "string?", IsString)
    ∷ (codes "symbol?", IsSymbol) ∷ (codes "vector?", IsVector) ∷ (codes "procedure?", IsProcedure) ∷ []

-- pairs, vectors, strings and symbols
abbrev pub data_names : List (List ℕ × Builtin)
data_names =
    (codes "cons", Cons) ∷ (codes "car", Car) ∷ (codes "cdr", Cdr) ∷ (codes "make-vector", MakeVector)
    ∷ (codes "vector-length", VectorLength) ∷ (codes "vref", Vref) ∷ (codes "string-length", StringLength)
    ∷ (codes "string-elt", StringElt) ∷ (codes "symbol->string", SymbolToString) ∷ []

-- characters, output and the fault that a program raises
abbrev pub output_names : List (List ℕ × Builtin)
output_names =
    (codes "char->ascii", CharToAscii) ∷ (codes "ascii->char", AsciiToChar) ∷ (codes "char=", CharEq)
    ∷ (codes "char<", CharLt) ∷ (codes "put-fixnum", PutFixnum) ∷ (codes "put-char", PutChar)
    ∷ (codes "put-string", PutString) ∷ (codes "newline", Newline) ∷ (codes "error", Error) ∷ []

-- the first if there is one, else the second
abbrev pub first_of_two : {A : Type 0} → Option A → Option A → Option A
first_of_two None other = other
first_of_two (Some x) other = Some x

abbrev pub builtin_named : List ℕ → Option Builtin
builtin_named text =
    first_of_two (spelled number_names text) (first_of_two (spelled test_names text) (first_of_two (spelled data_names text) (spelled output_names text)))
