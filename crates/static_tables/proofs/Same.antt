-- Things that the test of sameness tells apart.
use Rattle.std.proofs.Common.{◌≡◌, ℕ, true, false, List, [], ◌∷◌, slice_get, Option, Some, None, refl, sym, ap, ◌∙◌, subst}
use Rattle.std.proofs.lemmas.Bool.{eqb-true}
use Rattle.t_base.specs.declared.builtins.Builtin.{Builtin}
use Rattle.t_base.specs.declared.builtins.Builtin.TheVariants as builtin
use Rattle.t_prim.specs.Values.{Text, Literal, PrintName}
use Rattle.t_prim.specs.Identity.{number_of, is_same_text}
use Rattle.frame_words.specs.Layouts.{Fixed, ClosureOf, BuiltinOf, OperationOf, TextOf, SymbolOf, PairOf, TemplateOf, same_fixed}

-- ---- items that are the same are equal

abbrev builtins : List Builtin
builtins = builtin.Add ∷ builtin.Sub ∷ builtin.Mul ∷ builtin.Quotient ∷ builtin.Remainder ∷ builtin.Inc ∷ builtin.Dec ∷ builtin.NumEq ∷ builtin.NumLt ∷ builtin.NumGt ∷ builtin.NumLe ∷ builtin.NumGe ∷ builtin.IsZero ∷ builtin.IsNegative ∷ builtin.IsPositive ∷ builtin.Eq ∷ builtin.Not ∷ builtin.IsNull ∷ builtin.IsPair ∷ builtin.IsAtom ∷ builtin.IsList ∷ builtin.IsFixnum ∷ builtin.IsChar ∷ builtin.IsString ∷ builtin.IsSymbol ∷ builtin.IsVector ∷ builtin.IsProcedure ∷ builtin.Cons ∷ builtin.Car ∷ builtin.Cdr ∷ builtin.SetCar ∷ builtin.SetCdr ∷ builtin.MakeVector ∷ builtin.VectorLength ∷ builtin.Vref ∷ builtin.SetVref ∷ builtin.StringLength ∷ builtin.StringElt ∷ builtin.SymbolToString ∷ builtin.CharToAscii ∷ builtin.AsciiToChar ∷ builtin.CharEq ∷ builtin.CharLt ∷ builtin.PutFixnum ∷ builtin.PutChar ∷ builtin.PutString ∷ builtin.Newline ∷ builtin.Error ∷ []

builtin_at : (p : Builtin) → slice_get builtins (number_of p) ≡ Some p
builtin_at builtin.Add = refl
builtin_at builtin.Sub = refl
builtin_at builtin.Mul = refl
builtin_at builtin.Quotient = refl
builtin_at builtin.Remainder = refl
builtin_at builtin.Inc = refl
builtin_at builtin.Dec = refl
builtin_at builtin.NumEq = refl
builtin_at builtin.NumLt = refl
builtin_at builtin.NumGt = refl
builtin_at builtin.NumLe = refl
builtin_at builtin.NumGe = refl
builtin_at builtin.IsZero = refl
builtin_at builtin.IsNegative = refl
builtin_at builtin.IsPositive = refl
builtin_at builtin.Eq = refl
builtin_at builtin.Not = refl
builtin_at builtin.IsNull = refl
builtin_at builtin.IsPair = refl
builtin_at builtin.IsAtom = refl
builtin_at builtin.IsList = refl
builtin_at builtin.IsFixnum = refl
builtin_at builtin.IsChar = refl
builtin_at builtin.IsString = refl
builtin_at builtin.IsSymbol = refl
builtin_at builtin.IsVector = refl
builtin_at builtin.IsProcedure = refl
builtin_at builtin.Cons = refl
builtin_at builtin.Car = refl
builtin_at builtin.Cdr = refl
builtin_at builtin.SetCar = refl
builtin_at builtin.SetCdr = refl
builtin_at builtin.MakeVector = refl
builtin_at builtin.VectorLength = refl
builtin_at builtin.Vref = refl
builtin_at builtin.SetVref = refl
builtin_at builtin.StringLength = refl
builtin_at builtin.StringElt = refl
builtin_at builtin.SymbolToString = refl
builtin_at builtin.CharToAscii = refl
builtin_at builtin.AsciiToChar = refl
builtin_at builtin.CharEq = refl
builtin_at builtin.CharLt = refl
builtin_at builtin.PutFixnum = refl
builtin_at builtin.PutChar = refl
builtin_at builtin.PutString = refl
builtin_at builtin.Newline = refl
builtin_at builtin.Error = refl

pub same_builtin : (p q : Builtin) → number_of p ≡ number_of q → p ≡ q
same_builtin p q e = let h : slice_get builtins (number_of p) ≡ Some p = builtin_at p in let k : slice_get builtins (number_of q) ≡ Some q = builtin_at q in cc

pub same_text : (t u : Text) → is_same_text t u ≡ true → t ≡ u
same_text (Literal a) (Literal b) e = ap Literal (eqb-true a b e)
same_text (Literal a) (PrintName b) e = absurd (cc)
same_text (PrintName a) (Literal b) e = absurd (cc)
same_text (PrintName a) (PrintName b) e = ap PrintName (eqb-true a b e)

pub fixed_sound : (x y : Fixed) → same_fixed x y ≡ true → x ≡ y
fixed_sound (ClosureOf a) (ClosureOf b) e = ap ClosureOf (eqb-true a b e)
fixed_sound (ClosureOf a) (BuiltinOf b) e = absurd (cc)
fixed_sound (ClosureOf a) (OperationOf b) e = absurd (cc)
fixed_sound (ClosureOf a) (TextOf b) e = absurd (cc)
fixed_sound (ClosureOf a) (SymbolOf b) e = absurd (cc)
fixed_sound (ClosureOf a) (PairOf b) e = absurd (cc)
fixed_sound (ClosureOf a) (TemplateOf b) e = absurd (cc)
fixed_sound (BuiltinOf a) (ClosureOf b) e = absurd (cc)
fixed_sound (BuiltinOf a) (BuiltinOf b) e = ap BuiltinOf (same_builtin a b (eqb-true (number_of a) (number_of b) e))
fixed_sound (BuiltinOf a) (OperationOf b) e = absurd (cc)
fixed_sound (BuiltinOf a) (TextOf b) e = absurd (cc)
fixed_sound (BuiltinOf a) (SymbolOf b) e = absurd (cc)
fixed_sound (BuiltinOf a) (PairOf b) e = absurd (cc)
fixed_sound (BuiltinOf a) (TemplateOf b) e = absurd (cc)
fixed_sound (OperationOf a) (ClosureOf b) e = absurd (cc)
fixed_sound (OperationOf a) (BuiltinOf b) e = absurd (cc)
fixed_sound (OperationOf a) (OperationOf b) e = ap OperationOf (eqb-true a b e)
fixed_sound (OperationOf a) (TextOf b) e = absurd (cc)
fixed_sound (OperationOf a) (SymbolOf b) e = absurd (cc)
fixed_sound (OperationOf a) (PairOf b) e = absurd (cc)
fixed_sound (OperationOf a) (TemplateOf b) e = absurd (cc)
fixed_sound (TextOf a) (ClosureOf b) e = absurd (cc)
fixed_sound (TextOf a) (BuiltinOf b) e = absurd (cc)
fixed_sound (TextOf a) (OperationOf b) e = absurd (cc)
fixed_sound (TextOf a) (TextOf b) e = ap TextOf (same_text a b e)
fixed_sound (TextOf a) (SymbolOf b) e = absurd (cc)
fixed_sound (TextOf a) (PairOf b) e = absurd (cc)
fixed_sound (TextOf a) (TemplateOf b) e = absurd (cc)
fixed_sound (SymbolOf a) (ClosureOf b) e = absurd (cc)
fixed_sound (SymbolOf a) (BuiltinOf b) e = absurd (cc)
fixed_sound (SymbolOf a) (OperationOf b) e = absurd (cc)
fixed_sound (SymbolOf a) (TextOf b) e = absurd (cc)
fixed_sound (SymbolOf a) (SymbolOf b) e = ap SymbolOf (eqb-true a b e)
fixed_sound (SymbolOf a) (PairOf b) e = absurd (cc)
fixed_sound (SymbolOf a) (TemplateOf b) e = absurd (cc)
fixed_sound (PairOf a) (ClosureOf b) e = absurd (cc)
fixed_sound (PairOf a) (BuiltinOf b) e = absurd (cc)
fixed_sound (PairOf a) (OperationOf b) e = absurd (cc)
fixed_sound (PairOf a) (TextOf b) e = absurd (cc)
fixed_sound (PairOf a) (SymbolOf b) e = absurd (cc)
fixed_sound (PairOf a) (PairOf b) e = ap PairOf (eqb-true a b e)
fixed_sound (PairOf a) (TemplateOf b) e = absurd (cc)
fixed_sound (TemplateOf a) (ClosureOf b) e = absurd (cc)
fixed_sound (TemplateOf a) (BuiltinOf b) e = absurd (cc)
fixed_sound (TemplateOf a) (OperationOf b) e = absurd (cc)
fixed_sound (TemplateOf a) (TextOf b) e = absurd (cc)
fixed_sound (TemplateOf a) (SymbolOf b) e = absurd (cc)
fixed_sound (TemplateOf a) (PairOf b) e = absurd (cc)
fixed_sound (TemplateOf a) (TemplateOf b) e = ap TemplateOf (eqb-true a b e)
