-- No builtin takes more than 31 moves.
use Rattle.std.proofs.Common.{◌≤◌, arith}
use Rattle.t_base.specs.declared.builtins.Builtin.{Builtin}
use Rattle.t_base.specs.declared.builtins.Builtin.TheVariants as builtin
use Rattle.select_rows.specs.Codes.{code_of}
use Rattle.prim_holds.specs.Operands.{cost_of}

pub row_cost : (p : Builtin) → cost_of (code_of p) ≤ 31
row_cost builtin.Add = omega arith
row_cost builtin.Sub = omega arith
row_cost builtin.Mul = omega arith
row_cost builtin.Quotient = omega arith
row_cost builtin.Remainder = omega arith
row_cost builtin.Inc = omega arith
row_cost builtin.Dec = omega arith
row_cost builtin.NumEq = omega arith
row_cost builtin.NumLt = omega arith
row_cost builtin.NumGt = omega arith
row_cost builtin.NumLe = omega arith
row_cost builtin.NumGe = omega arith
row_cost builtin.IsZero = omega arith
row_cost builtin.IsNegative = omega arith
row_cost builtin.IsPositive = omega arith
row_cost builtin.Eq = omega arith
row_cost builtin.Not = omega arith
row_cost builtin.IsNull = omega arith
row_cost builtin.IsPair = omega arith
row_cost builtin.IsAtom = omega arith
row_cost builtin.IsList = omega arith
row_cost builtin.IsFixnum = omega arith
row_cost builtin.IsChar = omega arith
row_cost builtin.IsString = omega arith
row_cost builtin.IsSymbol = omega arith
row_cost builtin.IsVector = omega arith
row_cost builtin.IsProcedure = omega arith
row_cost builtin.Cons = omega arith
row_cost builtin.Car = omega arith
row_cost builtin.Cdr = omega arith
row_cost builtin.SetCar = omega arith
row_cost builtin.SetCdr = omega arith
row_cost builtin.MakeVector = omega arith
row_cost builtin.VectorLength = omega arith
row_cost builtin.Vref = omega arith
row_cost builtin.SetVref = omega arith
row_cost builtin.StringLength = omega arith
row_cost builtin.StringElt = omega arith
row_cost builtin.SymbolToString = omega arith
row_cost builtin.CharToAscii = omega arith
row_cost builtin.AsciiToChar = omega arith
row_cost builtin.CharEq = omega arith
row_cost builtin.CharLt = omega arith
row_cost builtin.PutFixnum = omega arith
row_cost builtin.PutChar = omega arith
row_cost builtin.PutString = omega arith
row_cost builtin.Newline = omega arith
row_cost builtin.Error = omega arith
