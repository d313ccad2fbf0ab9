-- Which values are one thing.
use Rattle.std.specs.Prelude.{ℕ, nat_eq, Bool, true, false}
use Rattle.std.specs.Ordering.{int_eq}
use Rattle.t_base.specs.declared.builtins.Builtin.{Builtin}
use Rattle.t_base.specs.declared.builtins.Builtin.TheVariants.{Add, Sub, Mul, Quotient, Remainder, Inc, Dec, NumEq, NumLt, NumGt, NumLe, NumGe, IsZero, IsNegative, IsPositive, Eq, Not, IsNull, IsPair, IsAtom, IsList, IsFixnum, IsChar, IsString, IsSymbol, IsVector, IsProcedure, Cons, Car, Cdr, SetCar, SetCdr, MakeVector, VectorLength, Vref, SetVref, StringLength, StringElt, SymbolToString, CharToAscii, AsciiToChar, CharEq, CharLt, PutFixnum, PutChar, PutString, Newline, Error}
use Rattle.t_prim.specs.Values.{Text, Literal, PrintName, Val, FixV, CharV, NilV, TrueV, SymbolV, StringV, PairV, VectorV, ClosureV, ObjectV, OperationV, BuiltinV, EscapeV}

-- the place of a builtin among all of them, from 0
abbrev pub number_of : Builtin → ℕ
number_of Add = 0
number_of Sub = 1
number_of Mul = 2
number_of Quotient = 3
number_of Remainder = 4
number_of Inc = 5
number_of Dec = 6
number_of NumEq = 7
number_of NumLt = 8
number_of NumGt = 9
number_of NumLe = 10
number_of NumGe = 11
number_of IsZero = 12
number_of IsNegative = 13
number_of IsPositive = 14
number_of Eq = 15
number_of Not = 16
number_of IsNull = 17
number_of IsPair = 18
number_of IsAtom = 19
number_of IsList = 20
number_of IsFixnum = 21
number_of IsChar = 22
number_of IsString = 23
number_of IsSymbol = 24
number_of IsVector = 25
number_of IsProcedure = 26
number_of Cons = 27
number_of Car = 28
number_of Cdr = 29
number_of SetCar = 30
number_of SetCdr = 31
number_of MakeVector = 32
number_of VectorLength = 33
number_of Vref = 34
number_of SetVref = 35
number_of StringLength = 36
number_of StringElt = 37
number_of SymbolToString = 38
number_of CharToAscii = 39
number_of AsciiToChar = 40
number_of CharEq = 41
number_of CharLt = 42
number_of PutFixnum = 43
number_of PutChar = 44
number_of PutString = 45
number_of Newline = 46
number_of Error = 47

abbrev pub is_same_text : Text → Text → Bool
is_same_text (Literal k) (Literal l) = nat_eq k l
is_same_text (PrintName n) (PrintName m) = nat_eq n m
is_same_text _ _ = false

-- the values are one thing: numbers and characters where they are equal, each string literal by its place, a symbol's print
-- name as one string, and a builtin, an operation and all that was made each as one thing
abbrev pub is_same : Val → Val → Bool
is_same (FixV x) (FixV y) = int_eq x y
is_same (CharV c) (CharV d) = nat_eq c d
is_same NilV NilV = true
is_same TrueV TrueV = true
is_same (SymbolV n) (SymbolV m) = nat_eq n m
is_same (StringV t) (StringV u) = is_same_text t u
is_same (PairV k) (PairV l) = nat_eq k l
is_same (VectorV k) (VectorV l) = nat_eq k l
is_same (ClosureV i) (ClosureV j) = nat_eq i j
is_same (ObjectV i) (ObjectV j) = nat_eq i j
is_same (OperationV o) (OperationV p) = nat_eq o p
is_same (BuiltinV p) (BuiltinV q) = nat_eq (number_of p) (number_of q)
is_same (EscapeV i) (EscapeV j) = nat_eq i j
is_same _ _ = false
