-- Contents are as long as is said, and items that are the same are equal.
use Rattle.std.proofs.Common.{◌≡◌, ℕ, suc, ◌+◌, ◌*◌, ◌%◌, true, List, [], ◌∷◌, ◌++◌, length, map, replicate, slice_get, Option, Some, None, refl, ap, ◌∙◌, arith, length-append}
use Rattle.std.specs.List.{flat_map}
use Rattle.std.specs.Option.{option_map_or}
use Rattle.std.proofs.lemmas.List.{length-map, length-replicate}
use Rattle.std.proofs.lemmas.Bool.{eqb-true, eq-eqb}
use Rattle.t_base.specs.declared.builtins.Builtin.{Builtin}
use Rattle.t_base.specs.declared.builtins.Builtin.TheVariants as builtin
use Rattle.t_prim.specs.Values.{Val, Text, Literal, PrintName, vector_words}
use Rattle.t_prim.specs.Identity.{number_of, is_same_text}
use Rattle.word_ir.specs.Word.{Word, Number, Code}
use Rattle.frame_ir.specs.Values.{Closure, Object, even}
use Rattle.frame_ir.specs.States.{State, Thing, APair, AVector, AClosure, AnObject, AnEscape, ACell, thing_words}
use Rattle.frame_words.specs.Layouts.{Layout, Fixed, ClosureOf, BuiltinOf, OperationOf, TextOf, SymbolOf, PairOf, TemplateOf, same_fixed, padded, packed, fixed_words, fixed_address}
use Rattle.frame_words.specs.ValueWords.{same_thing, val_word, or_zero}
use Rattle.frame_words.specs.Contents.{Escapes, values, captures, pair_contents, vector_contents, closure_contents, object_contents, cell_contents, thing_contents, method_contents, fixed_contents}

-- ---- lengths

padded_length : (words : List Word) → length (padded words) ≡ even (length words)
padded_length words = length-append words (replicate (length words % 2) (Number 0)) ∙ ap (λ n. length words + n) (length-replicate (length words % 2) (Number 0))

pair_length : (l : Layout) (s : State) (o : Option (Val × Val)) → length (pair_contents l s o) ≡ 2
pair_length l s None = refl
pair_length l s (Some p) = refl

cell_length : (l : Layout) (s : State) (o : Option Val) → length (cell_contents l s o) ≡ 2
cell_length l s None = refl
cell_length l s (Some v) = refl

vector_length : (l : Layout) (s : State) (o : Option (List Val)) → length (option_map_or (vector_contents l s) o []) ≡ option_map_or (λ items. vector_words (length items)) o 0
vector_length l s None = refl
vector_length l s (Some items) =
    let n : length (values l s items) ≡ length items = length-map items _ in
    let p = padded_length (Number 0x11 ∷ Number (4 * length items) ∷ values l s items) in
    omega (arith, n, p)

closure_length : (l : Layout) (s : State) (o : Option Closure) → length (option_map_or (closure_contents l s) o []) ≡ option_map_or (λ c. even (3 + length c.captured)) o 0
closure_length l s None = refl
closure_length l s (Some c) =
    let n : length (captures l s c.captured) ≡ length c.captured = length-map c.captured _ in
    let e : suc (suc (suc (length (captures l s c.captured)))) ≡ 3 + length c.captured = omega (arith, n) in
    padded_length (Number 0x1D ∷ Code (l.closure_entry c.code) ∷ Number 0 ∷ captures l s c.captured) ∙ ap even e

object_length : (l : Layout) (s : State) (o : Option Object) → length (option_map_or (object_contents l s) o []) ≡ option_map_or (λ object. even (3 + length object.captured)) o 0
object_length l s None = refl
object_length l s (Some object) =
    let n : length (captures l s object.captured) ≡ length object.captured = length-map object.captured _ in
    let e : suc (suc (suc (length (captures l s object.captured)))) ≡ 3 + length object.captured = omega (arith, n) in
    padded_length (Number 0x21 ∷ Number (or_zero (fixed_address l (TemplateOf object.template))) ∷ Number (val_word l s object.procedure) ∷ captures l s object.captured) ∙ ap even e

pub thing_sized : (l : Layout) (e : Escapes) (s : State) (x : Thing) → length (thing_contents l e s x) ≡ thing_words s x
thing_sized l e s (APair k) = pair_length l s (slice_get s.store.pairs k)
thing_sized l e s (AVector k) = vector_length l s (slice_get s.store.vectors k)
thing_sized l e s (AClosure i) = closure_length l s (slice_get s.closures i)
thing_sized l e s (AnObject i) = object_length l s (slice_get s.objects i)
thing_sized l e s (AnEscape b) = refl
thing_sized l e s (ACell k) = cell_length l s (slice_get s.cells k)

methods_length : (l : Layout) (s : State) (ms : List (ℕ × ℕ)) → length (flat_map (method_contents l s) ms) ≡ 2 * length ms
methods_length l s [] = refl
methods_length l s (m ∷ ms) = let n = methods_length l s ms in omega (arith, n)

pub fixed_sized : (l : Layout) (s : State) (x : Fixed) → length (fixed_contents l s x) ≡ fixed_words l x
fixed_sized l s (ClosureOf b) = refl
fixed_sized l s (BuiltinOf p) = refl
fixed_sized l s (OperationOf o) = refl
fixed_sized l s (TextOf t) =
    let n : length (map Number (packed (l.bytes t))) ≡ length (packed (l.bytes t)) = length-map (packed (l.bytes t)) _ in
    let e : suc (suc (length (map Number (packed (l.bytes t))))) ≡ 2 + length (packed (l.bytes t)) = omega (arith, n) in
    padded_length (Number 0x15 ∷ Number (4 * length (l.bytes t)) ∷ map Number (packed (l.bytes t))) ∙ ap even e
fixed_sized l s (SymbolOf n) = refl
fixed_sized l s (PairOf k) = pair_length l s (slice_get s.store.pairs k)
fixed_sized l s (TemplateOf t) =
    let n = methods_length l s (l.methods t) in
    let e : length (flat_map (method_contents l s) (l.methods t) ++ Number 0 ∷ []) ≡ 2 * length (l.methods t) + 1 = length-append (flat_map (method_contents l s) (l.methods t)) (Number 0 ∷ []) ∙ ap (λ k. k + 1) n in
    padded_length (flat_map (method_contents l s) (l.methods t) ++ Number 0 ∷ []) ∙ ap even e

-- ---- items that are the same are equal

abbrev builtins : List Builtin
builtins = builtin.Add ∷ builtin.Sub ∷ builtin.Mul ∷ builtin.Quotient ∷ builtin.Remainder ∷ builtin.Inc ∷ builtin.Dec ∷ builtin.NumEq ∷ builtin.NumLt ∷ builtin.NumGt ∷ builtin.NumLe ∷ builtin.NumGe ∷ builtin.IsZero ∷ builtin.IsNegative ∷ builtin.IsPositive ∷ builtin.Eq ∷ builtin.Not ∷ builtin.IsNull ∷ builtin.IsPair ∷ builtin.IsAtom ∷ builtin.IsList ∷ builtin.IsFixnum ∷ builtin.IsChar ∷ builtin.IsString ∷ builtin.IsSymbol ∷ builtin.IsVector ∷ builtin.IsProcedure ∷ builtin.Cons ∷ builtin.Car ∷ builtin.Cdr ∷ builtin.SetCar ∷ builtin.SetCdr ∷ builtin.MakeVector ∷ builtin.VectorLength ∷ builtin.Vref ∷ builtin.SetVref ∷ builtin.StringLength ∷ builtin.StringElt ∷ builtin.SymbolToString ∷ builtin.CharToAscii ∷ builtin.AsciiToChar ∷ builtin.CharEq ∷ builtin.CharLt ∷ builtin.PutFixnum ∷ builtin.PutChar ∷ builtin.PutString ∷ builtin.Newline ∷ builtin.Error ∷ []

builtin_at : (p : Builtin) → slice_get builtins (number_of p) ≡ Some p
builtin_at builtin.Add = refl
builtin_at builtin.Sub = refl
builtin_at builtin.Mul = refl
builtin_at builtin.Quotient = refl
builtin_at builtin.Remainder = refl
builtin_at builtin.Inc = refl
builtin_at builtin.Dec = refl
builtin_at builtin.NumEq = refl
builtin_at builtin.NumLt = refl
builtin_at builtin.NumGt = refl
builtin_at builtin.NumLe = refl
builtin_at builtin.NumGe = refl
builtin_at builtin.IsZero = refl
builtin_at builtin.IsNegative = refl
builtin_at builtin.IsPositive = refl
builtin_at builtin.Eq = refl
builtin_at builtin.Not = refl
builtin_at builtin.IsNull = refl
builtin_at builtin.IsPair = refl
builtin_at builtin.IsAtom = refl
builtin_at builtin.IsList = refl
builtin_at builtin.IsFixnum = refl
builtin_at builtin.IsChar = refl
builtin_at builtin.IsString = refl
builtin_at builtin.IsSymbol = refl
builtin_at builtin.IsVector = refl
builtin_at builtin.IsProcedure = refl
builtin_at builtin.Cons = refl
builtin_at builtin.Car = refl
builtin_at builtin.Cdr = refl
builtin_at builtin.SetCar = refl
builtin_at builtin.SetCdr = refl
builtin_at builtin.MakeVector = refl
builtin_at builtin.VectorLength = refl
builtin_at builtin.Vref = refl
builtin_at builtin.SetVref = refl
builtin_at builtin.StringLength = refl
builtin_at builtin.StringElt = refl
builtin_at builtin.SymbolToString = refl
builtin_at builtin.CharToAscii = refl
builtin_at builtin.AsciiToChar = refl
builtin_at builtin.CharEq = refl
builtin_at builtin.CharLt = refl
builtin_at builtin.PutFixnum = refl
builtin_at builtin.PutChar = refl
builtin_at builtin.PutString = refl
builtin_at builtin.Newline = refl
builtin_at builtin.Error = refl

pub same_builtin : (p q : Builtin) → number_of p ≡ number_of q → p ≡ q
same_builtin p q e = let h : slice_get builtins (number_of p) ≡ Some p = builtin_at p in let k : slice_get builtins (number_of q) ≡ Some q = builtin_at q in cc

pub same_text : (t u : Text) → is_same_text t u ≡ true → t ≡ u
same_text (Literal a) (Literal b) e = ap Literal (eqb-true a b e)
same_text (Literal a) (PrintName b) e = absurd (cc)
same_text (PrintName a) (Literal b) e = absurd (cc)
same_text (PrintName a) (PrintName b) e = ap PrintName (eqb-true a b e)

pub thing_sound : (x y : Thing) → same_thing x y ≡ true → x ≡ y
thing_sound (APair a) (APair b) e = ap APair (eqb-true a b e)
thing_sound (APair a) (AVector b) e = absurd (cc)
thing_sound (APair a) (AClosure b) e = absurd (cc)
thing_sound (APair a) (AnObject b) e = absurd (cc)
thing_sound (APair a) (AnEscape b) e = absurd (cc)
thing_sound (APair a) (ACell b) e = absurd (cc)
thing_sound (AVector a) (APair b) e = absurd (cc)
thing_sound (AVector a) (AVector b) e = ap AVector (eqb-true a b e)
thing_sound (AVector a) (AClosure b) e = absurd (cc)
thing_sound (AVector a) (AnObject b) e = absurd (cc)
thing_sound (AVector a) (AnEscape b) e = absurd (cc)
thing_sound (AVector a) (ACell b) e = absurd (cc)
thing_sound (AClosure a) (APair b) e = absurd (cc)
thing_sound (AClosure a) (AVector b) e = absurd (cc)
thing_sound (AClosure a) (AClosure b) e = ap AClosure (eqb-true a b e)
thing_sound (AClosure a) (AnObject b) e = absurd (cc)
thing_sound (AClosure a) (AnEscape b) e = absurd (cc)
thing_sound (AClosure a) (ACell b) e = absurd (cc)
thing_sound (AnObject a) (APair b) e = absurd (cc)
thing_sound (AnObject a) (AVector b) e = absurd (cc)
thing_sound (AnObject a) (AClosure b) e = absurd (cc)
thing_sound (AnObject a) (AnObject b) e = ap AnObject (eqb-true a b e)
thing_sound (AnObject a) (AnEscape b) e = absurd (cc)
thing_sound (AnObject a) (ACell b) e = absurd (cc)
thing_sound (AnEscape a) (APair b) e = absurd (cc)
thing_sound (AnEscape a) (AVector b) e = absurd (cc)
thing_sound (AnEscape a) (AClosure b) e = absurd (cc)
thing_sound (AnEscape a) (AnObject b) e = absurd (cc)
thing_sound (AnEscape a) (AnEscape b) e = ap AnEscape (eqb-true a b e)
thing_sound (AnEscape a) (ACell b) e = absurd (cc)
thing_sound (ACell a) (APair b) e = absurd (cc)
thing_sound (ACell a) (AVector b) e = absurd (cc)
thing_sound (ACell a) (AClosure b) e = absurd (cc)
thing_sound (ACell a) (AnObject b) e = absurd (cc)
thing_sound (ACell a) (AnEscape b) e = absurd (cc)
thing_sound (ACell a) (ACell b) e = ap ACell (eqb-true a b e)

pub thing_same : (x : Thing) → same_thing x x ≡ true
thing_same (APair a) = eq-eqb a a refl
thing_same (AVector a) = eq-eqb a a refl
thing_same (AClosure a) = eq-eqb a a refl
thing_same (AnObject a) = eq-eqb a a refl
thing_same (AnEscape a) = eq-eqb a a refl
thing_same (ACell a) = eq-eqb a a refl

pub fixed_sound : (x y : Fixed) → same_fixed x y ≡ true → x ≡ y
fixed_sound (ClosureOf a) (ClosureOf b) e = ap ClosureOf (eqb-true a b e)
fixed_sound (ClosureOf a) (BuiltinOf b) e = absurd (cc)
fixed_sound (ClosureOf a) (OperationOf b) e = absurd (cc)
fixed_sound (ClosureOf a) (TextOf b) e = absurd (cc)
fixed_sound (ClosureOf a) (SymbolOf b) e = absurd (cc)
fixed_sound (ClosureOf a) (PairOf b) e = absurd (cc)
fixed_sound (ClosureOf a) (TemplateOf b) e = absurd (cc)
fixed_sound (BuiltinOf a) (ClosureOf b) e = absurd (cc)
fixed_sound (BuiltinOf a) (BuiltinOf b) e = ap BuiltinOf (same_builtin a b (eqb-true (number_of a) (number_of b) e))
fixed_sound (BuiltinOf a) (OperationOf b) e = absurd (cc)
fixed_sound (BuiltinOf a) (TextOf b) e = absurd (cc)
fixed_sound (BuiltinOf a) (SymbolOf b) e = absurd (cc)
fixed_sound (BuiltinOf a) (PairOf b) e = absurd (cc)
fixed_sound (BuiltinOf a) (TemplateOf b) e = absurd (cc)
fixed_sound (OperationOf a) (ClosureOf b) e = absurd (cc)
fixed_sound (OperationOf a) (BuiltinOf b) e = absurd (cc)
fixed_sound (OperationOf a) (OperationOf b) e = ap OperationOf (eqb-true a b e)
fixed_sound (OperationOf a) (TextOf b) e = absurd (cc)
fixed_sound (OperationOf a) (SymbolOf b) e = absurd (cc)
fixed_sound (OperationOf a) (PairOf b) e = absurd (cc)
fixed_sound (OperationOf a) (TemplateOf b) e = absurd (cc)
fixed_sound (TextOf a) (ClosureOf b) e = absurd (cc)
fixed_sound (TextOf a) (BuiltinOf b) e = absurd (cc)
fixed_sound (TextOf a) (OperationOf b) e = absurd (cc)
fixed_sound (TextOf a) (TextOf b) e = ap TextOf (same_text a b e)
fixed_sound (TextOf a) (SymbolOf b) e = absurd (cc)
fixed_sound (TextOf a) (PairOf b) e = absurd (cc)
fixed_sound (TextOf a) (TemplateOf b) e = absurd (cc)
fixed_sound (SymbolOf a) (ClosureOf b) e = absurd (cc)
fixed_sound (SymbolOf a) (BuiltinOf b) e = absurd (cc)
fixed_sound (SymbolOf a) (OperationOf b) e = absurd (cc)
fixed_sound (SymbolOf a) (TextOf b) e = absurd (cc)
fixed_sound (SymbolOf a) (SymbolOf b) e = ap SymbolOf (eqb-true a b e)
fixed_sound (SymbolOf a) (PairOf b) e = absurd (cc)
fixed_sound (SymbolOf a) (TemplateOf b) e = absurd (cc)
fixed_sound (PairOf a) (ClosureOf b) e = absurd (cc)
fixed_sound (PairOf a) (BuiltinOf b) e = absurd (cc)
fixed_sound (PairOf a) (OperationOf b) e = absurd (cc)
fixed_sound (PairOf a) (TextOf b) e = absurd (cc)
fixed_sound (PairOf a) (SymbolOf b) e = absurd (cc)
fixed_sound (PairOf a) (PairOf b) e = ap PairOf (eqb-true a b e)
fixed_sound (PairOf a) (TemplateOf b) e = absurd (cc)
fixed_sound (TemplateOf a) (ClosureOf b) e = absurd (cc)
fixed_sound (TemplateOf a) (BuiltinOf b) e = absurd (cc)
fixed_sound (TemplateOf a) (OperationOf b) e = absurd (cc)
fixed_sound (TemplateOf a) (TextOf b) e = absurd (cc)
fixed_sound (TemplateOf a) (SymbolOf b) e = absurd (cc)
fixed_sound (TemplateOf a) (PairOf b) e = absurd (cc)
fixed_sound (TemplateOf a) (TemplateOf b) e = ap TemplateOf (eqb-true a b e)
