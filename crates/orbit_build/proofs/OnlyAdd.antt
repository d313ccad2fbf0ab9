-- The builtin that is +.
use Rattle.std.proofs.Common.{◌≡◌, true, false, refl}
use Rattle.t_base.specs.declared.builtins.Builtin.{Builtin}
use Rattle.t_base.specs.declared.builtins.Builtin.TheVariants.{Add, Sub, Mul, Quotient, Remainder, Inc, Dec, NumEq, NumLt, NumGt, NumLe, NumGe, IsZero, IsNegative, IsPositive, Eq, Not, IsNull, IsPair, IsAtom, IsList, IsFixnum, IsChar, IsString, IsSymbol, IsVector, IsProcedure, Cons, Car, Cdr, SetCar, SetCdr, MakeVector, VectorLength, Vref, SetVref, StringLength, StringElt, SymbolToString, CharToAscii, AsciiToChar, CharEq, CharLt, PutFixnum, PutChar, PutString, Newline, Error}
use Rattle.orbit_build.specs.Sums.{is_add}

pub false_true : false ≡ true → ⊥
false_true e = cc

pub add_only : (b : Builtin) → is_add b ≡ true → b ≡ Add
add_only Add e = refl
add_only Sub e = absurd (false_true e)
add_only Mul e = absurd (false_true e)
add_only Quotient e = absurd (false_true e)
add_only Remainder e = absurd (false_true e)
add_only Inc e = absurd (false_true e)
add_only Dec e = absurd (false_true e)
add_only NumEq e = absurd (false_true e)
add_only NumLt e = absurd (false_true e)
add_only NumGt e = absurd (false_true e)
add_only NumLe e = absurd (false_true e)
add_only NumGe e = absurd (false_true e)
add_only IsZero e = absurd (false_true e)
add_only IsNegative e = absurd (false_true e)
add_only IsPositive e = absurd (false_true e)
add_only Eq e = absurd (false_true e)
add_only Not e = absurd (false_true e)
add_only IsNull e = absurd (false_true e)
add_only IsPair e = absurd (false_true e)
add_only IsAtom e = absurd (false_true e)
add_only IsList e = absurd (false_true e)
add_only IsFixnum e = absurd (false_true e)
add_only IsChar e = absurd (false_true e)
add_only IsString e = absurd (false_true e)
add_only IsSymbol e = absurd (false_true e)
add_only IsVector e = absurd (false_true e)
add_only IsProcedure e = absurd (false_true e)
add_only Cons e = absurd (false_true e)
add_only Car e = absurd (false_true e)
add_only Cdr e = absurd (false_true e)
add_only SetCar e = absurd (false_true e)
add_only SetCdr e = absurd (false_true e)
add_only MakeVector e = absurd (false_true e)
add_only VectorLength e = absurd (false_true e)
add_only Vref e = absurd (false_true e)
add_only SetVref e = absurd (false_true e)
add_only StringLength e = absurd (false_true e)
add_only StringElt e = absurd (false_true e)
add_only SymbolToString e = absurd (false_true e)
add_only CharToAscii e = absurd (false_true e)
add_only AsciiToChar e = absurd (false_true e)
add_only CharEq e = absurd (false_true e)
add_only CharLt e = absurd (false_true e)
add_only PutFixnum e = absurd (false_true e)
add_only PutChar e = absurd (false_true e)
add_only PutString e = absurd (false_true e)
add_only Newline e = absurd (false_true e)
add_only Error e = absurd (false_true e)
