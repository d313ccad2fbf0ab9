-- The primitive table: what each builtin makes of its operands and the store.
use Rattle.std.specs.Prelude.{ℕ, nat_eq, nat_lt, not, ◌||◌, is_some, List, [], ◌∷◌, length, pos, ◌+ℤ◌, ◌-ℤ◌, ◌*ℤ◌, int_lt, int_le, int_div, int_rem, slice_set}
use Rattle.std.specs.Ordering.{int_eq}
use Rattle.std.specs.Fmt.{signed_decimal}
use Rattle.t_base.specs.declared.faults.Fault.TheVariants.{WrongCount, User}
use Rattle.t_base.specs.declared.builtins.Builtin.{Builtin}
use Rattle.t_base.specs.declared.builtins.Builtin.TheVariants.{Add, Sub, Mul, Quotient, Remainder, Inc, Dec, NumEq, NumLt, NumGt, NumLe, NumGe, IsZero, IsNegative, IsPositive, Eq, Not, IsNull, IsPair, IsAtom, IsList, IsFixnum, IsChar, IsString, IsSymbol, IsVector, IsProcedure, Cons, Car, Cdr, SetCar, SetCdr, MakeVector, VectorLength, Vref, SetVref, StringLength, StringElt, SymbolToString, CharToAscii, AsciiToChar, CharEq, CharLt, PutFixnum, PutChar, PutString, Newline, Error}
use Rattle.t_prim.specs.Values.{PrintName, Val, FixV, CharV, NilV, StringV, PairV, VectorV, Store, with_new_pair, with_new_vector, with_pair_at, with_vector_at, with_output}
use Rattle.t_prim.specs.Kinds.{fixnum_of, char_of, string_of, symbol_of, vector_of, is_nil, is_pair, is_procedure}
use Rattle.t_prim.specs.Identity.{is_same}
use Rattle.t_prim.specs.Operands.{Row, Gives, Changes, Faults, with_fixnum, with_fixnums, with_char, with_chars, with_symbol, with_string, with_pair, with_vector, with_size, with_element, with_ascii, unless_zero, number, truth}

-- a line of the table, by its count of operands
pub data Line : Type 0 where
  with_none : (Store → Row) → Line
  with_one : (Val → Store → Row) → Line
  with_two : (Val → Val → Store → Row) → Line
  with_three : (Val → Val → Val → Store → Row) → Line

abbrev pub table : Builtin → Line
table Add = with_two (λ a b s. with_fixnums a b (λ x y. number (x +ℤ y)))
table Sub = with_two (λ a b s. with_fixnums a b (λ x y. number (x -ℤ y)))
table Mul = with_two (λ a b s. with_fixnums a b (λ x y. number (x *ℤ y)))
table Quotient = with_two (λ a b s. with_fixnums a b (λ x y. unless_zero y (number (int_div x y))))
table Remainder = with_two (λ a b s. with_fixnums a b (λ x y. unless_zero y (number (int_rem x y))))
table Inc = with_one (λ a s. with_fixnum a (λ x. number (x +ℤ pos 1)))
table Dec = with_one (λ a s. with_fixnum a (λ x. number (x -ℤ pos 1)))
table NumEq = with_two (λ a b s. with_fixnums a b (λ x y. truth (int_eq x y)))
table NumLt = with_two (λ a b s. with_fixnums a b (λ x y. truth (int_lt x y)))
table NumGt = with_two (λ a b s. with_fixnums a b (λ x y. truth (int_lt y x)))
table NumLe = with_two (λ a b s. with_fixnums a b (λ x y. truth (int_le x y)))
table NumGe = with_two (λ a b s. with_fixnums a b (λ x y. truth (int_le y x)))
table IsZero = with_one (λ a s. with_fixnum a (λ x. truth (int_eq x (pos 0))))
table IsNegative = with_one (λ a s. with_fixnum a (λ x. truth (int_lt x (pos 0))))
table IsPositive = with_one (λ a s. with_fixnum a (λ x. truth (int_lt (pos 0) x)))
table Eq = with_two (λ a b s. truth (is_same a b))
table Not = with_one (λ a s. truth (is_nil a))
table IsNull = with_one (λ a s. truth (is_nil a))
table IsPair = with_one (λ a s. truth (is_pair a))
table IsAtom = with_one (λ a s. truth (not (is_pair a)))
table IsList = with_one (λ a s. truth (is_pair a || is_nil a))
table IsFixnum = with_one (λ a s. truth (is_some (fixnum_of a)))
table IsChar = with_one (λ a s. truth (is_some (char_of a)))
table IsString = with_one (λ a s. truth (is_some (string_of a)))
table IsSymbol = with_one (λ a s. truth (is_some (symbol_of a)))
table IsVector = with_one (λ a s. truth (is_some (vector_of a)))
table IsProcedure = with_one (λ a s. truth (is_procedure a))
table Cons = with_two (λ a b s. Changes (with_new_pair s a b) (PairV (length s.pairs)))
table Car = with_one (λ a s. with_pair a s (λ k p. Gives p.0))
table Cdr = with_one (λ a s. with_pair a s (λ k p. Gives p.1))
table SetCar = with_two (λ a v s. with_pair a s (λ k p. Changes (with_pair_at s k (v, p.1)) v))
table SetCdr = with_two (λ a v s. with_pair a s (λ k p. Changes (with_pair_at s k (p.0, v)) v))
table MakeVector = with_one (λ a s. with_fixnum a (λ x. with_size x (λ n. Changes (with_new_vector s n (FixV (pos 0))) (VectorV (length s.vectors)))))
table VectorLength = with_one (λ a s. with_vector a s (λ k items. Gives (FixV (pos (length items)))))
table Vref = with_two (λ a b s. with_vector a s (λ k items. with_fixnum b (λ x. with_element items x (λ i old. Gives old))))
table SetVref = with_three (λ a b v s. with_vector a s (λ k items. with_fixnum b (λ x. with_element items x (λ i old. Changes (with_vector_at s k (slice_set items i v)) v))))
table StringLength = with_one (λ a s. with_string a s (λ bytes. Gives (FixV (pos (length bytes)))))
table StringElt = with_two (λ a b s. with_string a s (λ bytes. with_fixnum b (λ x. with_element bytes x (λ i byte. Gives (CharV byte)))))
table SymbolToString = with_one (λ a s. with_symbol a (λ n. Gives (StringV (PrintName n))))
table CharToAscii = with_one (λ a s. with_char a (λ c. Gives (FixV (pos c))))
table AsciiToChar = with_one (λ a s. with_fixnum a (λ x. with_ascii x (λ c. Gives (CharV c))))
table CharEq = with_two (λ a b s. with_chars a b (λ c d. truth (nat_eq c d)))
table CharLt = with_two (λ a b s. with_chars a b (λ c d. truth (nat_lt c d)))
table PutFixnum = with_one (λ a s. with_fixnum a (λ x. Changes (with_output s (signed_decimal x)) NilV))
table PutChar = with_one (λ a s. with_char a (λ c. Changes (with_output s (c ∷ [])) NilV))
table PutString = with_one (λ a s. with_string a s (λ bytes. Changes (with_output s bytes) NilV))
table Newline = with_none (λ s. Changes (with_output s (10 ∷ [])) NilV)
table Error = with_one (λ a s. with_fixnum a (λ x. Faults (User x)))

-- ---- its use

abbrev pub count_of : Line → ℕ
count_of (with_none go) = 0
count_of (with_one go) = 1
count_of (with_two go) = 2
count_of (with_three go) = 3

abbrev pub at_operands : Line → List Val → Store → Row
at_operands (with_none go) [] s = go s
at_operands (with_one go) (a ∷ []) s = go a s
at_operands (with_two go) (a ∷ b ∷ []) s = go a b s
at_operands (with_three go) (a ∷ b ∷ c ∷ []) s = go a b c s
at_operands _ _ s = Faults WrongCount

-- how many operands a builtin takes
abbrev pub arity_of : Builtin → ℕ
arity_of p = count_of (table p)

-- what a builtin makes of these operands
abbrev pub row : Builtin → List Val → Store → Row
row p args s = at_operands (table p) args s
