-- The words of two values are equal where the values are one thing.
use Rattle.std.proofs.Common.{◌≡◌, ℕ, ◌<◌, ◌≤◌, ◌==◌, ◌⊎◌, Bool, true, false, List, Option, Some, None, inl, inr, refl, sym, ap, ◌∙◌, subst, arith}
use Rattle.std.proofs.lemmas.Bool.{eqb-true, eq-eqb, ne_eqb, cases_Bool}
use Rattle.std.proofs.lemmas.Bool.Decides.{nat_tests, Decides-int_eq}
use Rattle.t_prim.specs.Values.{Text, Literal, PrintName, Val, FixV, CharV, NilV, TrueV, SymbolV, StringV, PairV, VectorV, ClosureV, ObjectV, OperationV, BuiltinV, EscapeV}
use Rattle.t_prim.specs.Identity.{is_same, is_same_text, number_of}
use Rattle.word_ir.specs.Storage.{Sizes, Regions}
use Rattle.frame_ir.specs.States.{State, Thing, APair, AVector, AClosure, AnObject, AnEscape, ACell, thing_words}
use Rattle.tagged_words.proofs.Fixnums.{same_fixnum}
use Rattle.frame_words.specs.Layouts.{Layout, Fixed, ClosureOf, BuiltinOf, OperationOf, TextOf, SymbolOf, PairOf, TemplateOf, same_fixed, fixed_words}
use Rattle.frame_words.specs.ValueWords.{same_thing, word_for, tag_of}
use Rattle.frame_words.specs.Contents.{Escapes}
use Rattle.frame_words.specs.Holding.{IsMade, HoldsData}
use Rattle.frame_words.specs.Origins.{OnHeap, InStatics}
use Rattle.frame_words.proofs.Segments.{apart}
use Rattle.frame_words.proofs.Sizes.{thing_sound, fixed_sound, same_builtin, same_text}
use Rattle.frame_words.proofs.Reading.{made_is, fixed_within}
use Rattle.frame_words.proofs.Values.{on_heap, in_statics, either, tag_is, fixnum_is, char_is, IsFixnumWord, IsCharWord}

-- ---- the tests of sameness are symmetric

eqb_symmetric : (a b : ℕ) → (a == b) ≡ (b == a)
eqb_symmetric a b = grind (arith, nat_tests)

pub thing_symmetric : (x y : Thing) → same_thing x y ≡ same_thing y x
thing_symmetric (APair a) (APair b) = eqb_symmetric a b
thing_symmetric (APair a) (AVector b) = refl
thing_symmetric (APair a) (AClosure b) = refl
thing_symmetric (APair a) (AnObject b) = refl
thing_symmetric (APair a) (AnEscape b) = refl
thing_symmetric (APair a) (ACell b) = refl
thing_symmetric (AVector a) (APair b) = refl
thing_symmetric (AVector a) (AVector b) = eqb_symmetric a b
thing_symmetric (AVector a) (AClosure b) = refl
thing_symmetric (AVector a) (AnObject b) = refl
thing_symmetric (AVector a) (AnEscape b) = refl
thing_symmetric (AVector a) (ACell b) = refl
thing_symmetric (AClosure a) (APair b) = refl
thing_symmetric (AClosure a) (AVector b) = refl
thing_symmetric (AClosure a) (AClosure b) = eqb_symmetric a b
thing_symmetric (AClosure a) (AnObject b) = refl
thing_symmetric (AClosure a) (AnEscape b) = refl
thing_symmetric (AClosure a) (ACell b) = refl
thing_symmetric (AnObject a) (APair b) = refl
thing_symmetric (AnObject a) (AVector b) = refl
thing_symmetric (AnObject a) (AClosure b) = refl
thing_symmetric (AnObject a) (AnObject b) = eqb_symmetric a b
thing_symmetric (AnObject a) (AnEscape b) = refl
thing_symmetric (AnObject a) (ACell b) = refl
thing_symmetric (AnEscape a) (APair b) = refl
thing_symmetric (AnEscape a) (AVector b) = refl
thing_symmetric (AnEscape a) (AClosure b) = refl
thing_symmetric (AnEscape a) (AnObject b) = refl
thing_symmetric (AnEscape a) (AnEscape b) = eqb_symmetric a b
thing_symmetric (AnEscape a) (ACell b) = refl
thing_symmetric (ACell a) (APair b) = refl
thing_symmetric (ACell a) (AVector b) = refl
thing_symmetric (ACell a) (AClosure b) = refl
thing_symmetric (ACell a) (AnObject b) = refl
thing_symmetric (ACell a) (AnEscape b) = refl
thing_symmetric (ACell a) (ACell b) = eqb_symmetric a b

text_symmetric : (t u : Text) → is_same_text t u ≡ is_same_text u t
text_symmetric (Literal a) (Literal b) = eqb_symmetric a b
text_symmetric (Literal a) (PrintName b) = refl
text_symmetric (PrintName a) (Literal b) = refl
text_symmetric (PrintName a) (PrintName b) = eqb_symmetric a b

fixed_symmetric : (x y : Fixed) → same_fixed x y ≡ same_fixed y x
fixed_symmetric (ClosureOf a) (ClosureOf b) = eqb_symmetric a b
fixed_symmetric (ClosureOf a) (BuiltinOf b) = refl
fixed_symmetric (ClosureOf a) (OperationOf b) = refl
fixed_symmetric (ClosureOf a) (TextOf b) = refl
fixed_symmetric (ClosureOf a) (SymbolOf b) = refl
fixed_symmetric (ClosureOf a) (PairOf b) = refl
fixed_symmetric (ClosureOf a) (TemplateOf b) = refl
fixed_symmetric (BuiltinOf a) (ClosureOf b) = refl
fixed_symmetric (BuiltinOf a) (BuiltinOf b) = eqb_symmetric (number_of a) (number_of b)
fixed_symmetric (BuiltinOf a) (OperationOf b) = refl
fixed_symmetric (BuiltinOf a) (TextOf b) = refl
fixed_symmetric (BuiltinOf a) (SymbolOf b) = refl
fixed_symmetric (BuiltinOf a) (PairOf b) = refl
fixed_symmetric (BuiltinOf a) (TemplateOf b) = refl
fixed_symmetric (OperationOf a) (ClosureOf b) = refl
fixed_symmetric (OperationOf a) (BuiltinOf b) = refl
fixed_symmetric (OperationOf a) (OperationOf b) = eqb_symmetric a b
fixed_symmetric (OperationOf a) (TextOf b) = refl
fixed_symmetric (OperationOf a) (SymbolOf b) = refl
fixed_symmetric (OperationOf a) (PairOf b) = refl
fixed_symmetric (OperationOf a) (TemplateOf b) = refl
fixed_symmetric (TextOf a) (ClosureOf b) = refl
fixed_symmetric (TextOf a) (BuiltinOf b) = refl
fixed_symmetric (TextOf a) (OperationOf b) = refl
fixed_symmetric (TextOf a) (TextOf b) = text_symmetric a b
fixed_symmetric (TextOf a) (SymbolOf b) = refl
fixed_symmetric (TextOf a) (PairOf b) = refl
fixed_symmetric (TextOf a) (TemplateOf b) = refl
fixed_symmetric (SymbolOf a) (ClosureOf b) = refl
fixed_symmetric (SymbolOf a) (BuiltinOf b) = refl
fixed_symmetric (SymbolOf a) (OperationOf b) = refl
fixed_symmetric (SymbolOf a) (TextOf b) = refl
fixed_symmetric (SymbolOf a) (SymbolOf b) = eqb_symmetric a b
fixed_symmetric (SymbolOf a) (PairOf b) = refl
fixed_symmetric (SymbolOf a) (TemplateOf b) = refl
fixed_symmetric (PairOf a) (ClosureOf b) = refl
fixed_symmetric (PairOf a) (BuiltinOf b) = refl
fixed_symmetric (PairOf a) (OperationOf b) = refl
fixed_symmetric (PairOf a) (TextOf b) = refl
fixed_symmetric (PairOf a) (SymbolOf b) = refl
fixed_symmetric (PairOf a) (PairOf b) = eqb_symmetric a b
fixed_symmetric (PairOf a) (TemplateOf b) = refl
fixed_symmetric (TemplateOf a) (ClosureOf b) = refl
fixed_symmetric (TemplateOf a) (BuiltinOf b) = refl
fixed_symmetric (TemplateOf a) (OperationOf b) = refl
fixed_symmetric (TemplateOf a) (TextOf b) = refl
fixed_symmetric (TemplateOf a) (SymbolOf b) = refl
fixed_symmetric (TemplateOf a) (PairOf b) = refl
fixed_symmetric (TemplateOf a) (TemplateOf b) = eqb_symmetric a b

-- ---- nothing is empty

some_words : (l : Layout) (s : State) (x : Thing) → IsMade l s x → 1 ≤ thing_words s x
some_words l s (APair k) m = omega arith
some_words l s (AVector k) m = rw m.1 (omega arith)
some_words l s (AClosure i) m = rw m.1 (omega arith)
some_words l s (AnObject i) m = rw m.1 (omega arith)
some_words l s (AnEscape b) m = omega arith
some_words l s (ACell k) m = omega arith

some_fixed_words : (l : Layout) (x : Fixed) → 1 ≤ fixed_words l x
some_fixed_words l (ClosureOf b) = omega arith
some_fixed_words l (BuiltinOf p) = omega arith
some_fixed_words l (OperationOf o) = omega arith
some_fixed_words l (TextOf t) = omega arith
some_fixed_words l (SymbolOf n) = omega arith
some_fixed_words l (PairOf k) = omega arith
some_fixed_words l (TemplateOf t) = omega arith

-- ---- where the word of a value points tells the value

abbrev value_of_thing : Thing → Option Val
value_of_thing (APair k) = Some (PairV k)
value_of_thing (AVector k) = Some (VectorV k)
value_of_thing (AClosure i) = Some (ClosureV i)
value_of_thing (AnObject i) = Some (ObjectV i)
value_of_thing (AnEscape b) = Some (EscapeV b)
value_of_thing (ACell k) = None

abbrev value_of_fixed : Fixed → Option Val
value_of_fixed (ClosureOf b) = Some (ClosureV b)
value_of_fixed (BuiltinOf p) = Some (BuiltinV p)
value_of_fixed (OperationOf o) = Some (OperationV o)
value_of_fixed (TextOf t) = Some (StringV t)
value_of_fixed (SymbolOf n) = Some (SymbolV n)
value_of_fixed (PairOf k) = Some (PairV k)
value_of_fixed (TemplateOf t) = None

data Points (l : Layout) (s : State) (tag n : ℕ) (v : Val) : Type 0 where
  ToThing : (x : Thing) → OnHeap s tag x n → value_of_thing x ≡ Some v → Points l s tag n v
  ToFixed : (y : Fixed) → InStatics l tag y n → value_of_fixed y ≡ Some v → Points l s tag n v

either_points : (l : Layout) (s : State) (tag n : ℕ) (v : Val) (x : Thing) (y : Fixed) → value_of_thing x ≡ Some v → value_of_fixed y ≡ Some v → OnHeap s tag x n ⊎ InStatics l tag y n → Points l s tag n v
either_points l s tag n v x y f g (inl o) = ToThing x o f
either_points l s tag n v x y f g (inr o) = ToFixed y o g

points : (l : Layout) (s : State) (n : ℕ) (v : Val) → 2 ≤ tag_of v → word_for l s v ≡ Some n → Points l s (tag_of v) n v
points l s n (FixV x) le w = absurd (omega (arith, le))
points l s n (CharV c) le w = absurd (omega (arith, le))
points l s n NilV le w = absurd (omega (arith, le))
points l s n TrueV le w = absurd (omega (arith, le))
points l s n (SymbolV k) le w = ToFixed (SymbolOf k) (in_statics l 2 (SymbolOf k) n w) refl
points l s n (StringV t) le w = ToFixed (TextOf t) (in_statics l 2 (TextOf t) n w) refl
points l s n (PairV k) le w = either_points l s 3 n (PairV k) (APair k) (PairOf k) refl refl (either l s 3 (APair k) (PairOf k) n w)
points l s n (VectorV k) le w = ToThing (AVector k) (on_heap s 2 (AVector k) n w) refl
points l s n (ClosureV i) le w = either_points l s 2 n (ClosureV i) (AClosure i) (ClosureOf i) refl refl (either l s 2 (AClosure i) (ClosureOf i) n w)
points l s n (ObjectV i) le w = ToThing (AnObject i) (on_heap s 2 (AnObject i) n w) refl
points l s n (OperationV o) le w = ToFixed (OperationOf o) (in_statics l 2 (OperationOf o) n w) refl
points l s n (BuiltinV p) le w = ToFixed (BuiltinOf p) (in_statics l 2 (BuiltinOf p) n w) refl
points l s n (EscapeV b) le w = ToThing (AnEscape b) (on_heap s 2 (AnEscape b) n w) refl

module _ (sizes : Sizes) (l : Layout) (e : Escapes) (s : State) (storage : Regions Rattle.word_ir.specs.Word.Word) (next : ℕ) (output : List ℕ) (h : HoldsData sizes l e s storage next output) where
  one_thing : (b : Bool) (tag n : ℕ) (x y : Thing) → same_thing x y ≡ b → same_thing y x ≡ b → OnHeap s tag x n → OnHeap s tag y n → x ≡ y
  one_thing true tag n x y f g o r = thing_sound x y f
  one_thing false tag n x y f g o r =
      let p = some_words l s x (made_is sizes l e s storage next output h x o.place o.found) in
      let q = some_words l s y (made_is sizes l e s storage next output h y r.place r.found) in
      elim (apart same_thing (thing_words s) s.made x y o.place r.place thing_sound f g o.found r.found) [
        | inl a ↦ absurd (omega (arith, a, p, o.word, r.word))
        | inr a ↦ absurd (omega (arith, a, q, o.word, r.word))
      ]

  one_fixed : (b : Bool) (tag n : ℕ) (x y : Fixed) → same_fixed x y ≡ b → same_fixed y x ≡ b → InStatics l tag x n → InStatics l tag y n → x ≡ y
  one_fixed true tag n x y f g o r = fixed_sound x y f
  one_fixed false tag n x y f g o r =
      elim (apart same_fixed (fixed_words l) l.fixed x y o.place r.place fixed_sound f g o.found r.found) [
        | inl a ↦ absurd (omega (arith, a, some_fixed_words l x, o.word, r.word))
        | inr a ↦ absurd (omega (arith, a, some_fixed_words l y, o.word, r.word))
      ]

  far : (tag n : ℕ) (x : Thing) (y : Fixed) → tag < 4 → OnHeap s tag x n → InStatics l tag y n → ⊥
  far tag n x y lt o r = let le = fixed_within sizes l e s storage next output h y r.place r.found in absurd (omega (arith, le, o.word, r.word))

  one_pointed : (tag n : ℕ) (v w : Val) → tag < 4 → Points l s tag n v → Points l s tag n w → v ≡ w
  one_pointed tag n v w lt (ToThing x o f) (ToThing y r g) = let same : x ≡ y = one_thing (same_thing x y) tag n x y refl (thing_symmetric y x) o r in let q : value_of_thing x ≡ Some w = ap value_of_thing same ∙ g in cc
  one_pointed tag n v w lt (ToThing x o f) (ToFixed y r g) = absurd (far tag n x y lt o r)
  one_pointed tag n v w lt (ToFixed x o f) (ToThing y r g) = absurd (far tag n y x lt r o)
  one_pointed tag n v w lt (ToFixed x o f) (ToFixed y r g) = let same : x ≡ y = one_fixed (same_fixed x y) tag n x y refl (fixed_symmetric y x) o r in let q : value_of_fixed x ≡ Some w = ap value_of_fixed same ∙ g in cc

  -- one word, one value
  pub one_value : (n : ℕ) (v w : Val) → word_for l s v ≡ Some n → word_for l s w ≡ Some n → v ≡ w
  one_value n (FixV x1) (FixV x2) f g = let p : IsFixnumWord x1 n = fixnum_is l s x1 n f in let q : IsFixnumWord x2 n = fixnum_is l s x2 n g in ap FixV (same_fixnum x1 x2 p.fixnum q.fixnum (sym p.word ∙ q.word))
  one_value n (FixV x1) (CharV c2) f g = absurd (omega (arith, tag_is l s (FixV x1) n f, tag_is l s (CharV c2) n g))
  one_value n (FixV x1) NilV f g = absurd (omega (arith, tag_is l s (FixV x1) n f, tag_is l s NilV n g))
  one_value n (FixV x1) TrueV f g = absurd (omega (arith, tag_is l s (FixV x1) n f, tag_is l s TrueV n g))
  one_value n (FixV x1) (SymbolV k2) f g = absurd (omega (arith, tag_is l s (FixV x1) n f, tag_is l s (SymbolV k2) n g))
  one_value n (FixV x1) (StringV t2) f g = absurd (omega (arith, tag_is l s (FixV x1) n f, tag_is l s (StringV t2) n g))
  one_value n (FixV x1) (PairV k2) f g = absurd (omega (arith, tag_is l s (FixV x1) n f, tag_is l s (PairV k2) n g))
  one_value n (FixV x1) (VectorV k2) f g = absurd (omega (arith, tag_is l s (FixV x1) n f, tag_is l s (VectorV k2) n g))
  one_value n (FixV x1) (ClosureV i2) f g = absurd (omega (arith, tag_is l s (FixV x1) n f, tag_is l s (ClosureV i2) n g))
  one_value n (FixV x1) (ObjectV i2) f g = absurd (omega (arith, tag_is l s (FixV x1) n f, tag_is l s (ObjectV i2) n g))
  one_value n (FixV x1) (OperationV o2) f g = absurd (omega (arith, tag_is l s (FixV x1) n f, tag_is l s (OperationV o2) n g))
  one_value n (FixV x1) (BuiltinV p2) f g = absurd (omega (arith, tag_is l s (FixV x1) n f, tag_is l s (BuiltinV p2) n g))
  one_value n (FixV x1) (EscapeV b2) f g = absurd (omega (arith, tag_is l s (FixV x1) n f, tag_is l s (EscapeV b2) n g))
  one_value n (CharV c1) (FixV x2) f g = absurd (omega (arith, tag_is l s (CharV c1) n f, tag_is l s (FixV x2) n g))
  one_value n (CharV c1) (CharV c2) f g = let p : IsCharWord c1 n = char_is l s c1 n f in let q : IsCharWord c2 n = char_is l s c2 n g in ap CharV (omega (arith, p.word, q.word))
  one_value n (CharV c1) NilV f g = let p : IsCharWord c1 n = char_is l s c1 n f in let q : 5 ≡ n = cc in absurd (omega (arith, p.word, q))
  one_value n (CharV c1) TrueV f g = let p : IsCharWord c1 n = char_is l s c1 n f in let q : 9 ≡ n = cc in absurd (omega (arith, p.word, q))
  one_value n (CharV c1) (SymbolV k2) f g = absurd (omega (arith, tag_is l s (CharV c1) n f, tag_is l s (SymbolV k2) n g))
  one_value n (CharV c1) (StringV t2) f g = absurd (omega (arith, tag_is l s (CharV c1) n f, tag_is l s (StringV t2) n g))
  one_value n (CharV c1) (PairV k2) f g = absurd (omega (arith, tag_is l s (CharV c1) n f, tag_is l s (PairV k2) n g))
  one_value n (CharV c1) (VectorV k2) f g = absurd (omega (arith, tag_is l s (CharV c1) n f, tag_is l s (VectorV k2) n g))
  one_value n (CharV c1) (ClosureV i2) f g = absurd (omega (arith, tag_is l s (CharV c1) n f, tag_is l s (ClosureV i2) n g))
  one_value n (CharV c1) (ObjectV i2) f g = absurd (omega (arith, tag_is l s (CharV c1) n f, tag_is l s (ObjectV i2) n g))
  one_value n (CharV c1) (OperationV o2) f g = absurd (omega (arith, tag_is l s (CharV c1) n f, tag_is l s (OperationV o2) n g))
  one_value n (CharV c1) (BuiltinV p2) f g = absurd (omega (arith, tag_is l s (CharV c1) n f, tag_is l s (BuiltinV p2) n g))
  one_value n (CharV c1) (EscapeV b2) f g = absurd (omega (arith, tag_is l s (CharV c1) n f, tag_is l s (EscapeV b2) n g))
  one_value n NilV (FixV x2) f g = absurd (omega (arith, tag_is l s NilV n f, tag_is l s (FixV x2) n g))
  one_value n NilV (CharV c2) f g = let p : 5 ≡ n = cc in let q : IsCharWord c2 n = char_is l s c2 n g in absurd (omega (arith, p, q.word))
  one_value n NilV NilV f g = refl
  one_value n NilV TrueV f g = let p : 5 ≡ n = cc in let q : 9 ≡ n = cc in absurd (omega (arith, p, q))
  one_value n NilV (SymbolV k2) f g = absurd (omega (arith, tag_is l s NilV n f, tag_is l s (SymbolV k2) n g))
  one_value n NilV (StringV t2) f g = absurd (omega (arith, tag_is l s NilV n f, tag_is l s (StringV t2) n g))
  one_value n NilV (PairV k2) f g = absurd (omega (arith, tag_is l s NilV n f, tag_is l s (PairV k2) n g))
  one_value n NilV (VectorV k2) f g = absurd (omega (arith, tag_is l s NilV n f, tag_is l s (VectorV k2) n g))
  one_value n NilV (ClosureV i2) f g = absurd (omega (arith, tag_is l s NilV n f, tag_is l s (ClosureV i2) n g))
  one_value n NilV (ObjectV i2) f g = absurd (omega (arith, tag_is l s NilV n f, tag_is l s (ObjectV i2) n g))
  one_value n NilV (OperationV o2) f g = absurd (omega (arith, tag_is l s NilV n f, tag_is l s (OperationV o2) n g))
  one_value n NilV (BuiltinV p2) f g = absurd (omega (arith, tag_is l s NilV n f, tag_is l s (BuiltinV p2) n g))
  one_value n NilV (EscapeV b2) f g = absurd (omega (arith, tag_is l s NilV n f, tag_is l s (EscapeV b2) n g))
  one_value n TrueV (FixV x2) f g = absurd (omega (arith, tag_is l s TrueV n f, tag_is l s (FixV x2) n g))
  one_value n TrueV (CharV c2) f g = let p : 9 ≡ n = cc in let q : IsCharWord c2 n = char_is l s c2 n g in absurd (omega (arith, p, q.word))
  one_value n TrueV NilV f g = let p : 9 ≡ n = cc in let q : 5 ≡ n = cc in absurd (omega (arith, p, q))
  one_value n TrueV TrueV f g = refl
  one_value n TrueV (SymbolV k2) f g = absurd (omega (arith, tag_is l s TrueV n f, tag_is l s (SymbolV k2) n g))
  one_value n TrueV (StringV t2) f g = absurd (omega (arith, tag_is l s TrueV n f, tag_is l s (StringV t2) n g))
  one_value n TrueV (PairV k2) f g = absurd (omega (arith, tag_is l s TrueV n f, tag_is l s (PairV k2) n g))
  one_value n TrueV (VectorV k2) f g = absurd (omega (arith, tag_is l s TrueV n f, tag_is l s (VectorV k2) n g))
  one_value n TrueV (ClosureV i2) f g = absurd (omega (arith, tag_is l s TrueV n f, tag_is l s (ClosureV i2) n g))
  one_value n TrueV (ObjectV i2) f g = absurd (omega (arith, tag_is l s TrueV n f, tag_is l s (ObjectV i2) n g))
  one_value n TrueV (OperationV o2) f g = absurd (omega (arith, tag_is l s TrueV n f, tag_is l s (OperationV o2) n g))
  one_value n TrueV (BuiltinV p2) f g = absurd (omega (arith, tag_is l s TrueV n f, tag_is l s (BuiltinV p2) n g))
  one_value n TrueV (EscapeV b2) f g = absurd (omega (arith, tag_is l s TrueV n f, tag_is l s (EscapeV b2) n g))
  one_value n (SymbolV k1) (FixV x2) f g = absurd (omega (arith, tag_is l s (SymbolV k1) n f, tag_is l s (FixV x2) n g))
  one_value n (SymbolV k1) (CharV c2) f g = absurd (omega (arith, tag_is l s (SymbolV k1) n f, tag_is l s (CharV c2) n g))
  one_value n (SymbolV k1) NilV f g = absurd (omega (arith, tag_is l s (SymbolV k1) n f, tag_is l s NilV n g))
  one_value n (SymbolV k1) TrueV f g = absurd (omega (arith, tag_is l s (SymbolV k1) n f, tag_is l s TrueV n g))
  one_value n (SymbolV k1) (SymbolV k2) f g = one_pointed 2 n (SymbolV k1) (SymbolV k2) (omega arith) (points l s n (SymbolV k1) (omega arith) f) (points l s n (SymbolV k2) (omega arith) g)
  one_value n (SymbolV k1) (StringV t2) f g = one_pointed 2 n (SymbolV k1) (StringV t2) (omega arith) (points l s n (SymbolV k1) (omega arith) f) (points l s n (StringV t2) (omega arith) g)
  one_value n (SymbolV k1) (PairV k2) f g = absurd (omega (arith, tag_is l s (SymbolV k1) n f, tag_is l s (PairV k2) n g))
  one_value n (SymbolV k1) (VectorV k2) f g = one_pointed 2 n (SymbolV k1) (VectorV k2) (omega arith) (points l s n (SymbolV k1) (omega arith) f) (points l s n (VectorV k2) (omega arith) g)
  one_value n (SymbolV k1) (ClosureV i2) f g = one_pointed 2 n (SymbolV k1) (ClosureV i2) (omega arith) (points l s n (SymbolV k1) (omega arith) f) (points l s n (ClosureV i2) (omega arith) g)
  one_value n (SymbolV k1) (ObjectV i2) f g = one_pointed 2 n (SymbolV k1) (ObjectV i2) (omega arith) (points l s n (SymbolV k1) (omega arith) f) (points l s n (ObjectV i2) (omega arith) g)
  one_value n (SymbolV k1) (OperationV o2) f g = one_pointed 2 n (SymbolV k1) (OperationV o2) (omega arith) (points l s n (SymbolV k1) (omega arith) f) (points l s n (OperationV o2) (omega arith) g)
  one_value n (SymbolV k1) (BuiltinV p2) f g = one_pointed 2 n (SymbolV k1) (BuiltinV p2) (omega arith) (points l s n (SymbolV k1) (omega arith) f) (points l s n (BuiltinV p2) (omega arith) g)
  one_value n (SymbolV k1) (EscapeV b2) f g = one_pointed 2 n (SymbolV k1) (EscapeV b2) (omega arith) (points l s n (SymbolV k1) (omega arith) f) (points l s n (EscapeV b2) (omega arith) g)
  one_value n (StringV t1) (FixV x2) f g = absurd (omega (arith, tag_is l s (StringV t1) n f, tag_is l s (FixV x2) n g))
  one_value n (StringV t1) (CharV c2) f g = absurd (omega (arith, tag_is l s (StringV t1) n f, tag_is l s (CharV c2) n g))
  one_value n (StringV t1) NilV f g = absurd (omega (arith, tag_is l s (StringV t1) n f, tag_is l s NilV n g))
  one_value n (StringV t1) TrueV f g = absurd (omega (arith, tag_is l s (StringV t1) n f, tag_is l s TrueV n g))
  one_value n (StringV t1) (SymbolV k2) f g = one_pointed 2 n (StringV t1) (SymbolV k2) (omega arith) (points l s n (StringV t1) (omega arith) f) (points l s n (SymbolV k2) (omega arith) g)
  one_value n (StringV t1) (StringV t2) f g = one_pointed 2 n (StringV t1) (StringV t2) (omega arith) (points l s n (StringV t1) (omega arith) f) (points l s n (StringV t2) (omega arith) g)
  one_value n (StringV t1) (PairV k2) f g = absurd (omega (arith, tag_is l s (StringV t1) n f, tag_is l s (PairV k2) n g))
  one_value n (StringV t1) (VectorV k2) f g = one_pointed 2 n (StringV t1) (VectorV k2) (omega arith) (points l s n (StringV t1) (omega arith) f) (points l s n (VectorV k2) (omega arith) g)
  one_value n (StringV t1) (ClosureV i2) f g = one_pointed 2 n (StringV t1) (ClosureV i2) (omega arith) (points l s n (StringV t1) (omega arith) f) (points l s n (ClosureV i2) (omega arith) g)
  one_value n (StringV t1) (ObjectV i2) f g = one_pointed 2 n (StringV t1) (ObjectV i2) (omega arith) (points l s n (StringV t1) (omega arith) f) (points l s n (ObjectV i2) (omega arith) g)
  one_value n (StringV t1) (OperationV o2) f g = one_pointed 2 n (StringV t1) (OperationV o2) (omega arith) (points l s n (StringV t1) (omega arith) f) (points l s n (OperationV o2) (omega arith) g)
  one_value n (StringV t1) (BuiltinV p2) f g = one_pointed 2 n (StringV t1) (BuiltinV p2) (omega arith) (points l s n (StringV t1) (omega arith) f) (points l s n (BuiltinV p2) (omega arith) g)
  one_value n (StringV t1) (EscapeV b2) f g = one_pointed 2 n (StringV t1) (EscapeV b2) (omega arith) (points l s n (StringV t1) (omega arith) f) (points l s n (EscapeV b2) (omega arith) g)
  one_value n (PairV k1) (FixV x2) f g = absurd (omega (arith, tag_is l s (PairV k1) n f, tag_is l s (FixV x2) n g))
  one_value n (PairV k1) (CharV c2) f g = absurd (omega (arith, tag_is l s (PairV k1) n f, tag_is l s (CharV c2) n g))
  one_value n (PairV k1) NilV f g = absurd (omega (arith, tag_is l s (PairV k1) n f, tag_is l s NilV n g))
  one_value n (PairV k1) TrueV f g = absurd (omega (arith, tag_is l s (PairV k1) n f, tag_is l s TrueV n g))
  one_value n (PairV k1) (SymbolV k2) f g = absurd (omega (arith, tag_is l s (PairV k1) n f, tag_is l s (SymbolV k2) n g))
  one_value n (PairV k1) (StringV t2) f g = absurd (omega (arith, tag_is l s (PairV k1) n f, tag_is l s (StringV t2) n g))
  one_value n (PairV k1) (PairV k2) f g = one_pointed 3 n (PairV k1) (PairV k2) (omega arith) (points l s n (PairV k1) (omega arith) f) (points l s n (PairV k2) (omega arith) g)
  one_value n (PairV k1) (VectorV k2) f g = absurd (omega (arith, tag_is l s (PairV k1) n f, tag_is l s (VectorV k2) n g))
  one_value n (PairV k1) (ClosureV i2) f g = absurd (omega (arith, tag_is l s (PairV k1) n f, tag_is l s (ClosureV i2) n g))
  one_value n (PairV k1) (ObjectV i2) f g = absurd (omega (arith, tag_is l s (PairV k1) n f, tag_is l s (ObjectV i2) n g))
  one_value n (PairV k1) (OperationV o2) f g = absurd (omega (arith, tag_is l s (PairV k1) n f, tag_is l s (OperationV o2) n g))
  one_value n (PairV k1) (BuiltinV p2) f g = absurd (omega (arith, tag_is l s (PairV k1) n f, tag_is l s (BuiltinV p2) n g))
  one_value n (PairV k1) (EscapeV b2) f g = absurd (omega (arith, tag_is l s (PairV k1) n f, tag_is l s (EscapeV b2) n g))
  one_value n (VectorV k1) (FixV x2) f g = absurd (omega (arith, tag_is l s (VectorV k1) n f, tag_is l s (FixV x2) n g))
  one_value n (VectorV k1) (CharV c2) f g = absurd (omega (arith, tag_is l s (VectorV k1) n f, tag_is l s (CharV c2) n g))
  one_value n (VectorV k1) NilV f g = absurd (omega (arith, tag_is l s (VectorV k1) n f, tag_is l s NilV n g))
  one_value n (VectorV k1) TrueV f g = absurd (omega (arith, tag_is l s (VectorV k1) n f, tag_is l s TrueV n g))
  one_value n (VectorV k1) (SymbolV k2) f g = one_pointed 2 n (VectorV k1) (SymbolV k2) (omega arith) (points l s n (VectorV k1) (omega arith) f) (points l s n (SymbolV k2) (omega arith) g)
  one_value n (VectorV k1) (StringV t2) f g = one_pointed 2 n (VectorV k1) (StringV t2) (omega arith) (points l s n (VectorV k1) (omega arith) f) (points l s n (StringV t2) (omega arith) g)
  one_value n (VectorV k1) (PairV k2) f g = absurd (omega (arith, tag_is l s (VectorV k1) n f, tag_is l s (PairV k2) n g))
  one_value n (VectorV k1) (VectorV k2) f g = one_pointed 2 n (VectorV k1) (VectorV k2) (omega arith) (points l s n (VectorV k1) (omega arith) f) (points l s n (VectorV k2) (omega arith) g)
  one_value n (VectorV k1) (ClosureV i2) f g = one_pointed 2 n (VectorV k1) (ClosureV i2) (omega arith) (points l s n (VectorV k1) (omega arith) f) (points l s n (ClosureV i2) (omega arith) g)
  one_value n (VectorV k1) (ObjectV i2) f g = one_pointed 2 n (VectorV k1) (ObjectV i2) (omega arith) (points l s n (VectorV k1) (omega arith) f) (points l s n (ObjectV i2) (omega arith) g)
  one_value n (VectorV k1) (OperationV o2) f g = one_pointed 2 n (VectorV k1) (OperationV o2) (omega arith) (points l s n (VectorV k1) (omega arith) f) (points l s n (OperationV o2) (omega arith) g)
  one_value n (VectorV k1) (BuiltinV p2) f g = one_pointed 2 n (VectorV k1) (BuiltinV p2) (omega arith) (points l s n (VectorV k1) (omega arith) f) (points l s n (BuiltinV p2) (omega arith) g)
  one_value n (VectorV k1) (EscapeV b2) f g = one_pointed 2 n (VectorV k1) (EscapeV b2) (omega arith) (points l s n (VectorV k1) (omega arith) f) (points l s n (EscapeV b2) (omega arith) g)
  one_value n (ClosureV i1) (FixV x2) f g = absurd (omega (arith, tag_is l s (ClosureV i1) n f, tag_is l s (FixV x2) n g))
  one_value n (ClosureV i1) (CharV c2) f g = absurd (omega (arith, tag_is l s (ClosureV i1) n f, tag_is l s (CharV c2) n g))
  one_value n (ClosureV i1) NilV f g = absurd (omega (arith, tag_is l s (ClosureV i1) n f, tag_is l s NilV n g))
  one_value n (ClosureV i1) TrueV f g = absurd (omega (arith, tag_is l s (ClosureV i1) n f, tag_is l s TrueV n g))
  one_value n (ClosureV i1) (SymbolV k2) f g = one_pointed 2 n (ClosureV i1) (SymbolV k2) (omega arith) (points l s n (ClosureV i1) (omega arith) f) (points l s n (SymbolV k2) (omega arith) g)
  one_value n (ClosureV i1) (StringV t2) f g = one_pointed 2 n (ClosureV i1) (StringV t2) (omega arith) (points l s n (ClosureV i1) (omega arith) f) (points l s n (StringV t2) (omega arith) g)
  one_value n (ClosureV i1) (PairV k2) f g = absurd (omega (arith, tag_is l s (ClosureV i1) n f, tag_is l s (PairV k2) n g))
  one_value n (ClosureV i1) (VectorV k2) f g = one_pointed 2 n (ClosureV i1) (VectorV k2) (omega arith) (points l s n (ClosureV i1) (omega arith) f) (points l s n (VectorV k2) (omega arith) g)
  one_value n (ClosureV i1) (ClosureV i2) f g = one_pointed 2 n (ClosureV i1) (ClosureV i2) (omega arith) (points l s n (ClosureV i1) (omega arith) f) (points l s n (ClosureV i2) (omega arith) g)
  one_value n (ClosureV i1) (ObjectV i2) f g = one_pointed 2 n (ClosureV i1) (ObjectV i2) (omega arith) (points l s n (ClosureV i1) (omega arith) f) (points l s n (ObjectV i2) (omega arith) g)
  one_value n (ClosureV i1) (OperationV o2) f g = one_pointed 2 n (ClosureV i1) (OperationV o2) (omega arith) (points l s n (ClosureV i1) (omega arith) f) (points l s n (OperationV o2) (omega arith) g)
  one_value n (ClosureV i1) (BuiltinV p2) f g = one_pointed 2 n (ClosureV i1) (BuiltinV p2) (omega arith) (points l s n (ClosureV i1) (omega arith) f) (points l s n (BuiltinV p2) (omega arith) g)
  one_value n (ClosureV i1) (EscapeV b2) f g = one_pointed 2 n (ClosureV i1) (EscapeV b2) (omega arith) (points l s n (ClosureV i1) (omega arith) f) (points l s n (EscapeV b2) (omega arith) g)
  one_value n (ObjectV i1) (FixV x2) f g = absurd (omega (arith, tag_is l s (ObjectV i1) n f, tag_is l s (FixV x2) n g))
  one_value n (ObjectV i1) (CharV c2) f g = absurd (omega (arith, tag_is l s (ObjectV i1) n f, tag_is l s (CharV c2) n g))
  one_value n (ObjectV i1) NilV f g = absurd (omega (arith, tag_is l s (ObjectV i1) n f, tag_is l s NilV n g))
  one_value n (ObjectV i1) TrueV f g = absurd (omega (arith, tag_is l s (ObjectV i1) n f, tag_is l s TrueV n g))
  one_value n (ObjectV i1) (SymbolV k2) f g = one_pointed 2 n (ObjectV i1) (SymbolV k2) (omega arith) (points l s n (ObjectV i1) (omega arith) f) (points l s n (SymbolV k2) (omega arith) g)
  one_value n (ObjectV i1) (StringV t2) f g = one_pointed 2 n (ObjectV i1) (StringV t2) (omega arith) (points l s n (ObjectV i1) (omega arith) f) (points l s n (StringV t2) (omega arith) g)
  one_value n (ObjectV i1) (PairV k2) f g = absurd (omega (arith, tag_is l s (ObjectV i1) n f, tag_is l s (PairV k2) n g))
  one_value n (ObjectV i1) (VectorV k2) f g = one_pointed 2 n (ObjectV i1) (VectorV k2) (omega arith) (points l s n (ObjectV i1) (omega arith) f) (points l s n (VectorV k2) (omega arith) g)
  one_value n (ObjectV i1) (ClosureV i2) f g = one_pointed 2 n (ObjectV i1) (ClosureV i2) (omega arith) (points l s n (ObjectV i1) (omega arith) f) (points l s n (ClosureV i2) (omega arith) g)
  one_value n (ObjectV i1) (ObjectV i2) f g = one_pointed 2 n (ObjectV i1) (ObjectV i2) (omega arith) (points l s n (ObjectV i1) (omega arith) f) (points l s n (ObjectV i2) (omega arith) g)
  one_value n (ObjectV i1) (OperationV o2) f g = one_pointed 2 n (ObjectV i1) (OperationV o2) (omega arith) (points l s n (ObjectV i1) (omega arith) f) (points l s n (OperationV o2) (omega arith) g)
  one_value n (ObjectV i1) (BuiltinV p2) f g = one_pointed 2 n (ObjectV i1) (BuiltinV p2) (omega arith) (points l s n (ObjectV i1) (omega arith) f) (points l s n (BuiltinV p2) (omega arith) g)
  one_value n (ObjectV i1) (EscapeV b2) f g = one_pointed 2 n (ObjectV i1) (EscapeV b2) (omega arith) (points l s n (ObjectV i1) (omega arith) f) (points l s n (EscapeV b2) (omega arith) g)
  one_value n (OperationV o1) (FixV x2) f g = absurd (omega (arith, tag_is l s (OperationV o1) n f, tag_is l s (FixV x2) n g))
  one_value n (OperationV o1) (CharV c2) f g = absurd (omega (arith, tag_is l s (OperationV o1) n f, tag_is l s (CharV c2) n g))
  one_value n (OperationV o1) NilV f g = absurd (omega (arith, tag_is l s (OperationV o1) n f, tag_is l s NilV n g))
  one_value n (OperationV o1) TrueV f g = absurd (omega (arith, tag_is l s (OperationV o1) n f, tag_is l s TrueV n g))
  one_value n (OperationV o1) (SymbolV k2) f g = one_pointed 2 n (OperationV o1) (SymbolV k2) (omega arith) (points l s n (OperationV o1) (omega arith) f) (points l s n (SymbolV k2) (omega arith) g)
  one_value n (OperationV o1) (StringV t2) f g = one_pointed 2 n (OperationV o1) (StringV t2) (omega arith) (points l s n (OperationV o1) (omega arith) f) (points l s n (StringV t2) (omega arith) g)
  one_value n (OperationV o1) (PairV k2) f g = absurd (omega (arith, tag_is l s (OperationV o1) n f, tag_is l s (PairV k2) n g))
  one_value n (OperationV o1) (VectorV k2) f g = one_pointed 2 n (OperationV o1) (VectorV k2) (omega arith) (points l s n (OperationV o1) (omega arith) f) (points l s n (VectorV k2) (omega arith) g)
  one_value n (OperationV o1) (ClosureV i2) f g = one_pointed 2 n (OperationV o1) (ClosureV i2) (omega arith) (points l s n (OperationV o1) (omega arith) f) (points l s n (ClosureV i2) (omega arith) g)
  one_value n (OperationV o1) (ObjectV i2) f g = one_pointed 2 n (OperationV o1) (ObjectV i2) (omega arith) (points l s n (OperationV o1) (omega arith) f) (points l s n (ObjectV i2) (omega arith) g)
  one_value n (OperationV o1) (OperationV o2) f g = one_pointed 2 n (OperationV o1) (OperationV o2) (omega arith) (points l s n (OperationV o1) (omega arith) f) (points l s n (OperationV o2) (omega arith) g)
  one_value n (OperationV o1) (BuiltinV p2) f g = one_pointed 2 n (OperationV o1) (BuiltinV p2) (omega arith) (points l s n (OperationV o1) (omega arith) f) (points l s n (BuiltinV p2) (omega arith) g)
  one_value n (OperationV o1) (EscapeV b2) f g = one_pointed 2 n (OperationV o1) (EscapeV b2) (omega arith) (points l s n (OperationV o1) (omega arith) f) (points l s n (EscapeV b2) (omega arith) g)
  one_value n (BuiltinV p1) (FixV x2) f g = absurd (omega (arith, tag_is l s (BuiltinV p1) n f, tag_is l s (FixV x2) n g))
  one_value n (BuiltinV p1) (CharV c2) f g = absurd (omega (arith, tag_is l s (BuiltinV p1) n f, tag_is l s (CharV c2) n g))
  one_value n (BuiltinV p1) NilV f g = absurd (omega (arith, tag_is l s (BuiltinV p1) n f, tag_is l s NilV n g))
  one_value n (BuiltinV p1) TrueV f g = absurd (omega (arith, tag_is l s (BuiltinV p1) n f, tag_is l s TrueV n g))
  one_value n (BuiltinV p1) (SymbolV k2) f g = one_pointed 2 n (BuiltinV p1) (SymbolV k2) (omega arith) (points l s n (BuiltinV p1) (omega arith) f) (points l s n (SymbolV k2) (omega arith) g)
  one_value n (BuiltinV p1) (StringV t2) f g = one_pointed 2 n (BuiltinV p1) (StringV t2) (omega arith) (points l s n (BuiltinV p1) (omega arith) f) (points l s n (StringV t2) (omega arith) g)
  one_value n (BuiltinV p1) (PairV k2) f g = absurd (omega (arith, tag_is l s (BuiltinV p1) n f, tag_is l s (PairV k2) n g))
  one_value n (BuiltinV p1) (VectorV k2) f g = one_pointed 2 n (BuiltinV p1) (VectorV k2) (omega arith) (points l s n (BuiltinV p1) (omega arith) f) (points l s n (VectorV k2) (omega arith) g)
  one_value n (BuiltinV p1) (ClosureV i2) f g = one_pointed 2 n (BuiltinV p1) (ClosureV i2) (omega arith) (points l s n (BuiltinV p1) (omega arith) f) (points l s n (ClosureV i2) (omega arith) g)
  one_value n (BuiltinV p1) (ObjectV i2) f g = one_pointed 2 n (BuiltinV p1) (ObjectV i2) (omega arith) (points l s n (BuiltinV p1) (omega arith) f) (points l s n (ObjectV i2) (omega arith) g)
  one_value n (BuiltinV p1) (OperationV o2) f g = one_pointed 2 n (BuiltinV p1) (OperationV o2) (omega arith) (points l s n (BuiltinV p1) (omega arith) f) (points l s n (OperationV o2) (omega arith) g)
  one_value n (BuiltinV p1) (BuiltinV p2) f g = one_pointed 2 n (BuiltinV p1) (BuiltinV p2) (omega arith) (points l s n (BuiltinV p1) (omega arith) f) (points l s n (BuiltinV p2) (omega arith) g)
  one_value n (BuiltinV p1) (EscapeV b2) f g = one_pointed 2 n (BuiltinV p1) (EscapeV b2) (omega arith) (points l s n (BuiltinV p1) (omega arith) f) (points l s n (EscapeV b2) (omega arith) g)
  one_value n (EscapeV b1) (FixV x2) f g = absurd (omega (arith, tag_is l s (EscapeV b1) n f, tag_is l s (FixV x2) n g))
  one_value n (EscapeV b1) (CharV c2) f g = absurd (omega (arith, tag_is l s (EscapeV b1) n f, tag_is l s (CharV c2) n g))
  one_value n (EscapeV b1) NilV f g = absurd (omega (arith, tag_is l s (EscapeV b1) n f, tag_is l s NilV n g))
  one_value n (EscapeV b1) TrueV f g = absurd (omega (arith, tag_is l s (EscapeV b1) n f, tag_is l s TrueV n g))
  one_value n (EscapeV b1) (SymbolV k2) f g = one_pointed 2 n (EscapeV b1) (SymbolV k2) (omega arith) (points l s n (EscapeV b1) (omega arith) f) (points l s n (SymbolV k2) (omega arith) g)
  one_value n (EscapeV b1) (StringV t2) f g = one_pointed 2 n (EscapeV b1) (StringV t2) (omega arith) (points l s n (EscapeV b1) (omega arith) f) (points l s n (StringV t2) (omega arith) g)
  one_value n (EscapeV b1) (PairV k2) f g = absurd (omega (arith, tag_is l s (EscapeV b1) n f, tag_is l s (PairV k2) n g))
  one_value n (EscapeV b1) (VectorV k2) f g = one_pointed 2 n (EscapeV b1) (VectorV k2) (omega arith) (points l s n (EscapeV b1) (omega arith) f) (points l s n (VectorV k2) (omega arith) g)
  one_value n (EscapeV b1) (ClosureV i2) f g = one_pointed 2 n (EscapeV b1) (ClosureV i2) (omega arith) (points l s n (EscapeV b1) (omega arith) f) (points l s n (ClosureV i2) (omega arith) g)
  one_value n (EscapeV b1) (ObjectV i2) f g = one_pointed 2 n (EscapeV b1) (ObjectV i2) (omega arith) (points l s n (EscapeV b1) (omega arith) f) (points l s n (ObjectV i2) (omega arith) g)
  one_value n (EscapeV b1) (OperationV o2) f g = one_pointed 2 n (EscapeV b1) (OperationV o2) (omega arith) (points l s n (EscapeV b1) (omega arith) f) (points l s n (OperationV o2) (omega arith) g)
  one_value n (EscapeV b1) (BuiltinV p2) f g = one_pointed 2 n (EscapeV b1) (BuiltinV p2) (omega arith) (points l s n (EscapeV b1) (omega arith) f) (points l s n (BuiltinV p2) (omega arith) g)
  one_value n (EscapeV b1) (EscapeV b2) f g = one_pointed 2 n (EscapeV b1) (EscapeV b2) (omega arith) (points l s n (EscapeV b1) (omega arith) f) (points l s n (EscapeV b2) (omega arith) g)

-- ---- what is one thing has one word

same_sound : (v w : Val) → is_same v w ≡ true → v ≡ w
same_sound (FixV x1) (FixV x2) f = ap FixV ((Decides-int_eq x1 x2).0 f)
same_sound (FixV x1) (CharV c2) f = absurd (cc)
same_sound (FixV x1) NilV f = absurd (cc)
same_sound (FixV x1) TrueV f = absurd (cc)
same_sound (FixV x1) (SymbolV k2) f = absurd (cc)
same_sound (FixV x1) (StringV t2) f = absurd (cc)
same_sound (FixV x1) (PairV k2) f = absurd (cc)
same_sound (FixV x1) (VectorV k2) f = absurd (cc)
same_sound (FixV x1) (ClosureV i2) f = absurd (cc)
same_sound (FixV x1) (ObjectV i2) f = absurd (cc)
same_sound (FixV x1) (OperationV o2) f = absurd (cc)
same_sound (FixV x1) (BuiltinV p2) f = absurd (cc)
same_sound (FixV x1) (EscapeV b2) f = absurd (cc)
same_sound (CharV c1) (FixV x2) f = absurd (cc)
same_sound (CharV c1) (CharV c2) f = ap CharV (eqb-true c1 c2 f)
same_sound (CharV c1) NilV f = absurd (cc)
same_sound (CharV c1) TrueV f = absurd (cc)
same_sound (CharV c1) (SymbolV k2) f = absurd (cc)
same_sound (CharV c1) (StringV t2) f = absurd (cc)
same_sound (CharV c1) (PairV k2) f = absurd (cc)
same_sound (CharV c1) (VectorV k2) f = absurd (cc)
same_sound (CharV c1) (ClosureV i2) f = absurd (cc)
same_sound (CharV c1) (ObjectV i2) f = absurd (cc)
same_sound (CharV c1) (OperationV o2) f = absurd (cc)
same_sound (CharV c1) (BuiltinV p2) f = absurd (cc)
same_sound (CharV c1) (EscapeV b2) f = absurd (cc)
same_sound NilV (FixV x2) f = absurd (cc)
same_sound NilV (CharV c2) f = absurd (cc)
same_sound NilV NilV f = refl
same_sound NilV TrueV f = absurd (cc)
same_sound NilV (SymbolV k2) f = absurd (cc)
same_sound NilV (StringV t2) f = absurd (cc)
same_sound NilV (PairV k2) f = absurd (cc)
same_sound NilV (VectorV k2) f = absurd (cc)
same_sound NilV (ClosureV i2) f = absurd (cc)
same_sound NilV (ObjectV i2) f = absurd (cc)
same_sound NilV (OperationV o2) f = absurd (cc)
same_sound NilV (BuiltinV p2) f = absurd (cc)
same_sound NilV (EscapeV b2) f = absurd (cc)
same_sound TrueV (FixV x2) f = absurd (cc)
same_sound TrueV (CharV c2) f = absurd (cc)
same_sound TrueV NilV f = absurd (cc)
same_sound TrueV TrueV f = refl
same_sound TrueV (SymbolV k2) f = absurd (cc)
same_sound TrueV (StringV t2) f = absurd (cc)
same_sound TrueV (PairV k2) f = absurd (cc)
same_sound TrueV (VectorV k2) f = absurd (cc)
same_sound TrueV (ClosureV i2) f = absurd (cc)
same_sound TrueV (ObjectV i2) f = absurd (cc)
same_sound TrueV (OperationV o2) f = absurd (cc)
same_sound TrueV (BuiltinV p2) f = absurd (cc)
same_sound TrueV (EscapeV b2) f = absurd (cc)
same_sound (SymbolV k1) (FixV x2) f = absurd (cc)
same_sound (SymbolV k1) (CharV c2) f = absurd (cc)
same_sound (SymbolV k1) NilV f = absurd (cc)
same_sound (SymbolV k1) TrueV f = absurd (cc)
same_sound (SymbolV k1) (SymbolV k2) f = ap SymbolV (eqb-true k1 k2 f)
same_sound (SymbolV k1) (StringV t2) f = absurd (cc)
same_sound (SymbolV k1) (PairV k2) f = absurd (cc)
same_sound (SymbolV k1) (VectorV k2) f = absurd (cc)
same_sound (SymbolV k1) (ClosureV i2) f = absurd (cc)
same_sound (SymbolV k1) (ObjectV i2) f = absurd (cc)
same_sound (SymbolV k1) (OperationV o2) f = absurd (cc)
same_sound (SymbolV k1) (BuiltinV p2) f = absurd (cc)
same_sound (SymbolV k1) (EscapeV b2) f = absurd (cc)
same_sound (StringV t1) (FixV x2) f = absurd (cc)
same_sound (StringV t1) (CharV c2) f = absurd (cc)
same_sound (StringV t1) NilV f = absurd (cc)
same_sound (StringV t1) TrueV f = absurd (cc)
same_sound (StringV t1) (SymbolV k2) f = absurd (cc)
same_sound (StringV t1) (StringV t2) f = ap StringV (same_text t1 t2 f)
same_sound (StringV t1) (PairV k2) f = absurd (cc)
same_sound (StringV t1) (VectorV k2) f = absurd (cc)
same_sound (StringV t1) (ClosureV i2) f = absurd (cc)
same_sound (StringV t1) (ObjectV i2) f = absurd (cc)
same_sound (StringV t1) (OperationV o2) f = absurd (cc)
same_sound (StringV t1) (BuiltinV p2) f = absurd (cc)
same_sound (StringV t1) (EscapeV b2) f = absurd (cc)
same_sound (PairV k1) (FixV x2) f = absurd (cc)
same_sound (PairV k1) (CharV c2) f = absurd (cc)
same_sound (PairV k1) NilV f = absurd (cc)
same_sound (PairV k1) TrueV f = absurd (cc)
same_sound (PairV k1) (SymbolV k2) f = absurd (cc)
same_sound (PairV k1) (StringV t2) f = absurd (cc)
same_sound (PairV k1) (PairV k2) f = ap PairV (eqb-true k1 k2 f)
same_sound (PairV k1) (VectorV k2) f = absurd (cc)
same_sound (PairV k1) (ClosureV i2) f = absurd (cc)
same_sound (PairV k1) (ObjectV i2) f = absurd (cc)
same_sound (PairV k1) (OperationV o2) f = absurd (cc)
same_sound (PairV k1) (BuiltinV p2) f = absurd (cc)
same_sound (PairV k1) (EscapeV b2) f = absurd (cc)
same_sound (VectorV k1) (FixV x2) f = absurd (cc)
same_sound (VectorV k1) (CharV c2) f = absurd (cc)
same_sound (VectorV k1) NilV f = absurd (cc)
same_sound (VectorV k1) TrueV f = absurd (cc)
same_sound (VectorV k1) (SymbolV k2) f = absurd (cc)
same_sound (VectorV k1) (StringV t2) f = absurd (cc)
same_sound (VectorV k1) (PairV k2) f = absurd (cc)
same_sound (VectorV k1) (VectorV k2) f = ap VectorV (eqb-true k1 k2 f)
same_sound (VectorV k1) (ClosureV i2) f = absurd (cc)
same_sound (VectorV k1) (ObjectV i2) f = absurd (cc)
same_sound (VectorV k1) (OperationV o2) f = absurd (cc)
same_sound (VectorV k1) (BuiltinV p2) f = absurd (cc)
same_sound (VectorV k1) (EscapeV b2) f = absurd (cc)
same_sound (ClosureV i1) (FixV x2) f = absurd (cc)
same_sound (ClosureV i1) (CharV c2) f = absurd (cc)
same_sound (ClosureV i1) NilV f = absurd (cc)
same_sound (ClosureV i1) TrueV f = absurd (cc)
same_sound (ClosureV i1) (SymbolV k2) f = absurd (cc)
same_sound (ClosureV i1) (StringV t2) f = absurd (cc)
same_sound (ClosureV i1) (PairV k2) f = absurd (cc)
same_sound (ClosureV i1) (VectorV k2) f = absurd (cc)
same_sound (ClosureV i1) (ClosureV i2) f = ap ClosureV (eqb-true i1 i2 f)
same_sound (ClosureV i1) (ObjectV i2) f = absurd (cc)
same_sound (ClosureV i1) (OperationV o2) f = absurd (cc)
same_sound (ClosureV i1) (BuiltinV p2) f = absurd (cc)
same_sound (ClosureV i1) (EscapeV b2) f = absurd (cc)
same_sound (ObjectV i1) (FixV x2) f = absurd (cc)
same_sound (ObjectV i1) (CharV c2) f = absurd (cc)
same_sound (ObjectV i1) NilV f = absurd (cc)
same_sound (ObjectV i1) TrueV f = absurd (cc)
same_sound (ObjectV i1) (SymbolV k2) f = absurd (cc)
same_sound (ObjectV i1) (StringV t2) f = absurd (cc)
same_sound (ObjectV i1) (PairV k2) f = absurd (cc)
same_sound (ObjectV i1) (VectorV k2) f = absurd (cc)
same_sound (ObjectV i1) (ClosureV i2) f = absurd (cc)
same_sound (ObjectV i1) (ObjectV i2) f = ap ObjectV (eqb-true i1 i2 f)
same_sound (ObjectV i1) (OperationV o2) f = absurd (cc)
same_sound (ObjectV i1) (BuiltinV p2) f = absurd (cc)
same_sound (ObjectV i1) (EscapeV b2) f = absurd (cc)
same_sound (OperationV o1) (FixV x2) f = absurd (cc)
same_sound (OperationV o1) (CharV c2) f = absurd (cc)
same_sound (OperationV o1) NilV f = absurd (cc)
same_sound (OperationV o1) TrueV f = absurd (cc)
same_sound (OperationV o1) (SymbolV k2) f = absurd (cc)
same_sound (OperationV o1) (StringV t2) f = absurd (cc)
same_sound (OperationV o1) (PairV k2) f = absurd (cc)
same_sound (OperationV o1) (VectorV k2) f = absurd (cc)
same_sound (OperationV o1) (ClosureV i2) f = absurd (cc)
same_sound (OperationV o1) (ObjectV i2) f = absurd (cc)
same_sound (OperationV o1) (OperationV o2) f = ap OperationV (eqb-true o1 o2 f)
same_sound (OperationV o1) (BuiltinV p2) f = absurd (cc)
same_sound (OperationV o1) (EscapeV b2) f = absurd (cc)
same_sound (BuiltinV p1) (FixV x2) f = absurd (cc)
same_sound (BuiltinV p1) (CharV c2) f = absurd (cc)
same_sound (BuiltinV p1) NilV f = absurd (cc)
same_sound (BuiltinV p1) TrueV f = absurd (cc)
same_sound (BuiltinV p1) (SymbolV k2) f = absurd (cc)
same_sound (BuiltinV p1) (StringV t2) f = absurd (cc)
same_sound (BuiltinV p1) (PairV k2) f = absurd (cc)
same_sound (BuiltinV p1) (VectorV k2) f = absurd (cc)
same_sound (BuiltinV p1) (ClosureV i2) f = absurd (cc)
same_sound (BuiltinV p1) (ObjectV i2) f = absurd (cc)
same_sound (BuiltinV p1) (OperationV o2) f = absurd (cc)
same_sound (BuiltinV p1) (BuiltinV p2) f = ap BuiltinV (same_builtin p1 p2 (eqb-true (number_of p1) (number_of p2) f))
same_sound (BuiltinV p1) (EscapeV b2) f = absurd (cc)
same_sound (EscapeV b1) (FixV x2) f = absurd (cc)
same_sound (EscapeV b1) (CharV c2) f = absurd (cc)
same_sound (EscapeV b1) NilV f = absurd (cc)
same_sound (EscapeV b1) TrueV f = absurd (cc)
same_sound (EscapeV b1) (SymbolV k2) f = absurd (cc)
same_sound (EscapeV b1) (StringV t2) f = absurd (cc)
same_sound (EscapeV b1) (PairV k2) f = absurd (cc)
same_sound (EscapeV b1) (VectorV k2) f = absurd (cc)
same_sound (EscapeV b1) (ClosureV i2) f = absurd (cc)
same_sound (EscapeV b1) (ObjectV i2) f = absurd (cc)
same_sound (EscapeV b1) (OperationV o2) f = absurd (cc)
same_sound (EscapeV b1) (BuiltinV p2) f = absurd (cc)
same_sound (EscapeV b1) (EscapeV b2) f = ap EscapeV (eqb-true b1 b2 f)

text_self : (t : Text) → is_same_text t t ≡ true
text_self (Literal a) = eq-eqb a a refl
text_self (PrintName a) = eq-eqb a a refl

same_self : (v : Val) → is_same v v ≡ true
same_self (FixV x) = (Decides-int_eq x x).1 refl
same_self (CharV c) = eq-eqb c c refl
same_self NilV = refl
same_self TrueV = refl
same_self (SymbolV k) = eq-eqb k k refl
same_self (StringV t) = text_self t
same_self (PairV k) = eq-eqb k k refl
same_self (VectorV k) = eq-eqb k k refl
same_self (ClosureV i) = eq-eqb i i refl
same_self (ObjectV i) = eq-eqb i i refl
same_self (OperationV o) = eq-eqb o o refl
same_self (BuiltinV p) = eq-eqb (number_of p) (number_of p) refl
same_self (EscapeV b) = eq-eqb b b refl

same_number : (n m : ℕ) → Some n ≡ Some m → n ≡ m
same_number n m e' = cc

pub words_tell : (sizes : Sizes) (l : Layout) (e : Escapes) (s : State) (storage : Regions Rattle.word_ir.specs.Word.Word) (next : ℕ) (output : List ℕ) → HoldsData sizes l e s storage next output → (v w : Val) (n m : ℕ) → word_for l s v ≡ Some n → word_for l s w ≡ Some m → (n == m) ≡ is_same v w
words_tell sizes l e s storage next output h v w n m f g = elim (cases_Bool (is_same v w)) [
  | inl same ↦ let vw : v ≡ w = same_sound v w same in let nm : n ≡ m = same_number n m (sym f ∙ (ap (word_for l s) vw ∙ g)) in eq-eqb n m nm ∙ sym same
  | inr differ ↦ ne_eqb n m (λ nm. let vw : v ≡ w = one_value sizes l e s storage next output h n v w f (rw nm g) in absurd (let t : is_same v w ≡ true = subst (λ x. is_same v x ≡ true) vw (same_self v) in cc)) ∙ sym differ
]
