-- Each row of the table is performed by its code.
use Rattle.t_base.specs.declared.builtins.Builtin.{Builtin}
use Rattle.t_base.specs.declared.builtins.Builtin.TheVariants as builtin
use Rattle.select_rows.specs.Codes.{code_of, IsCodeOf}
use Rattle.select_rows.proofs.NumberRows.{add_row, sub_row, mul_row, quotient_row, remainder_row, inc_row, dec_row, eq_row, lt_row, gt_row, le_row, ge_row, zero_row, negative_row, positive_row, char_number_row, ascii_char_row, char_eq_row, char_lt_row, error_row}
use Rattle.select_rows.proofs.KindRows.{not_row, null_row, pair_row, atom_row, list_row, fixnum_row, char_row, string_row, symbol_row, vector_row, procedure_row, same_row}
use Rattle.select_rows.proofs.DataRows.{car_row, cdr_row, vector_length_row, vref_row, string_length_row, symbol_text_row}
use Rattle.select_rows.proofs.Puts.{put_fixnum_row, put_char_row, newline_row}
use Rattle.select_rows.proofs.Pairs.{cons_row}
use Rattle.select_rows.proofs.Parts.{set_car_row, set_cdr_row}
use Rattle.select_rows.proofs.Elements.{set_vref_row}
use Rattle.select_rows.proofs.Strings.{string_element_row, put_string_row}
use Rattle.select_rows.proofs.Vectors.{make_vector_row}

pub rows_performed : (p : Builtin) → IsCodeOf p (code_of p)
rows_performed builtin.Add = add_row
rows_performed builtin.Sub = sub_row
rows_performed builtin.Mul = mul_row
rows_performed builtin.Quotient = quotient_row
rows_performed builtin.Remainder = remainder_row
rows_performed builtin.Inc = inc_row
rows_performed builtin.Dec = dec_row
rows_performed builtin.NumEq = eq_row
rows_performed builtin.NumLt = lt_row
rows_performed builtin.NumGt = gt_row
rows_performed builtin.NumLe = le_row
rows_performed builtin.NumGe = ge_row
rows_performed builtin.IsZero = zero_row
rows_performed builtin.IsNegative = negative_row
rows_performed builtin.IsPositive = positive_row
rows_performed builtin.Eq = same_row
rows_performed builtin.Not = not_row
rows_performed builtin.IsNull = null_row
rows_performed builtin.IsPair = pair_row
rows_performed builtin.IsAtom = atom_row
rows_performed builtin.IsList = list_row
rows_performed builtin.IsFixnum = fixnum_row
rows_performed builtin.IsChar = char_row
rows_performed builtin.IsString = string_row
rows_performed builtin.IsSymbol = symbol_row
rows_performed builtin.IsVector = vector_row
rows_performed builtin.IsProcedure = procedure_row
rows_performed builtin.Cons = cons_row
rows_performed builtin.Car = car_row
rows_performed builtin.Cdr = cdr_row
rows_performed builtin.SetCar = set_car_row
rows_performed builtin.SetCdr = set_cdr_row
rows_performed builtin.MakeVector = make_vector_row
rows_performed builtin.VectorLength = vector_length_row
rows_performed builtin.Vref = vref_row
rows_performed builtin.SetVref = set_vref_row
rows_performed builtin.StringLength = string_length_row
rows_performed builtin.StringElt = string_element_row
rows_performed builtin.SymbolToString = symbol_text_row
rows_performed builtin.CharToAscii = char_number_row
rows_performed builtin.AsciiToChar = ascii_char_row
rows_performed builtin.CharEq = char_eq_row
rows_performed builtin.CharLt = char_lt_row
rows_performed builtin.PutFixnum = put_fixnum_row
rows_performed builtin.PutChar = put_char_row
rows_performed builtin.PutString = put_string_row
rows_performed builtin.Newline = newline_row
rows_performed builtin.Error = error_row
