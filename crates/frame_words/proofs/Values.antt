-- Words of values: their tags, where they point, and what is read there.
use Rattle.std.proofs.Common.{◌≡◌, ℕ, zero, suc, ◌+◌, ◌-◌, ◌*◌, ◌%◌, ◌^◌, ◌<◌, ◌≤◌, ◌⊎◌, inl, inr, nat_lt, Bool, true, false, if◌then◌else◌, List, [], ◌∷◌, ◌++◌, length, slice_get, Option, Some, None, option_map, is_some, ℤ, pos, negsuc, refl, sym, ap, ◌∙◌, subst, arith}
use Rattle.std.proofs.lemmas.Bool.{ltb-true, le-ltb}
use Rattle.std.proofs.lemmas.Option.{slice_get_within}
use Rattle.t_prim.specs.Values.{Val, Text, PrintName, FixV, CharV, NilV, TrueV, SymbolV, StringV, PairV, VectorV, ClosureV, ObjectV, OperationV, BuiltinV, EscapeV}
use Rattle.t_prim.specs.Operands.{in_range}
use Rattle.word_ir.specs.Word.{Word, Number, moved}
use Rattle.word_ir.specs.Storage.{Sizes, Regions, STATICS_START, HEAP_START}
use Rattle.frame_ir.specs.States.{State, Thing, APair, AVector, AClosure, AnObject, AnEscape, thing_words}
use Rattle.tagged_words.specs.Tags.{IsFixnum, fixnum_word, char_word}
use Rattle.tagged_words.proofs.Fixnums.{fixnum_tag}
use Rattle.frame_words.specs.Layouts.{Layout, Fixed, ClosureOf, BuiltinOf, OperationOf, TextOf, SymbolOf, PairOf, packed, front_words, fixed_place, fixed_address}
use Rattle.frame_words.specs.ValueWords.{heap_place, heap_address, or_other, tagged, word_for, val_word, or_zero, tag_of, header_of}
use Rattle.frame_words.specs.Contents.{Escapes, values, thing_contents, fixed_contents, pair_contents}
use Rattle.frame_words.specs.Holding.{AreKnown, parts_of, HoldsData}
use Rattle.frame_words.specs.Origins.{OnHeap, InStatics, IsRead, IsPairRead, IsVectorRead, IsTextRead, IsSymbolRead}
use Rattle.frame_words.proofs.Sizes.{thing_sized, fixed_sized}
use Rattle.frame_words.proofs.Reading.{made_is, fixed_is, heap_within, fixed_within, heap_reads, fixed_reads}

-- ---- origins

of_map : {A B : Type 0} (f : A → B) (o : Option A) (b : B) → option_map f o ≡ Some b → (a : A) × (o ≡ Some a) × (b ≡ f a)
of_map f (Some a) b e = (a, refl, cc)
of_map f None b e = absurd (cc)

pub on_heap : (s : State) (tag : ℕ) (x : Thing) (n : ℕ) → tagged tag (heap_address s x) ≡ Some n → OnHeap s tag x n
on_heap s tag x n e =
    let a = of_map (λ a. a + tag) (heap_address s x) n e in
    let p = of_map (λ p. HEAP_START + 4 * p) (heap_place s x) a.0 a.1 in
    record { place = p.0; found = p.1; word = a.2 ∙ ap (λ k. k + tag) p.2 }

pub in_statics : (l : Layout) (tag : ℕ) (x : Fixed) (n : ℕ) → tagged tag (fixed_address l x) ≡ Some n → InStatics l tag x n
in_statics l tag x n e =
    let a = of_map (λ a. a + tag) (fixed_address l x) n e in
    let p = of_map (λ p. STATICS_START + 4 * (front_words l + p)) (fixed_place l x) a.0 a.1 in
    record { place = p.0; found = p.1; word = a.2 ∙ ap (λ k. k + tag) p.2 }

either_by : (l : Layout) (s : State) (tag : ℕ) (x : Thing) (y : Fixed) (n : ℕ) (o : Option ℕ) → heap_address s x ≡ o → tagged tag (or_other o (fixed_address l y)) ≡ Some n → OnHeap s tag x n ⊎ InStatics l tag y n
either_by l s tag x y n (Some a) h e = inl (on_heap s tag x n (rw h e))
either_by l s tag x y n None h e = inr (in_statics l tag y n e)

pub either : (l : Layout) (s : State) (tag : ℕ) (x : Thing) (y : Fixed) (n : ℕ) → tagged tag (or_other (heap_address s x) (fixed_address l y)) ≡ Some n → OnHeap s tag x n ⊎ InStatics l tag y n
either l s tag x y n e = either_by l s tag x y n (heap_address s x) refl e

-- ---- numbers and characters

if_some : (b : Bool) (a n : ℕ) → (if b then Some a else None) ≡ Some n → (b ≡ true) × (n ≡ a)
if_some true a n e = (refl, cc)
if_some false a n e = absurd (cc)

pub record IsFixnumWord (x : ℤ) (n : ℕ) : Type 0 where
  pub fixnum : IsFixnum x
  pub word : n ≡ fixnum_word x

pub fixnum_is : (l : Layout) (s : State) (x : ℤ) (n : ℕ) → word_for l s (FixV x) ≡ Some n → IsFixnumWord x n
fixnum_is l s x n e = let h = if_some (in_range x) (fixnum_word x) n e in record { fixnum = record { ranged = h.0 }; word = h.1 }

pub record IsCharWord (c n : ℕ) : Type 0 where
  pub ascii : c < 128
  pub word : n ≡ char_word c

pub char_is : (l : Layout) (s : State) (c n : ℕ) → word_for l s (CharV c) ≡ Some n → IsCharWord c n
char_is l s c n e = let h = if_some (nat_lt c 128) (char_word c) n e in record { ascii = ltb-true c 128 h.0; word = h.1 }

pub fixnum_known : (l : Layout) (s : State) (x : ℤ) → IsFixnum x → word_for l s (FixV x) ≡ Some (fixnum_word x)
fixnum_known l s x h = rw h.ranged refl

-- ---- tags

heap_tag : (s : State) (tag : ℕ) (x : Thing) (n : ℕ) → tag < 4 → OnHeap s tag x n → n % 4 ≡ tag
heap_tag s tag x n lt h = omega (arith, lt, h.word)

fixed_tag : (l : Layout) (tag : ℕ) (x : Fixed) (n : ℕ) → tag < 4 → InStatics l tag x n → n % 4 ≡ tag
fixed_tag l tag x n lt h = omega (arith, lt, h.word)

either_tag : (l : Layout) (s : State) (tag : ℕ) (x : Thing) (y : Fixed) (n : ℕ) → tag < 4 → OnHeap s tag x n ⊎ InStatics l tag y n → n % 4 ≡ tag
either_tag l s tag x y n lt (inl h) = heap_tag s tag x n lt h
either_tag l s tag x y n lt (inr h) = fixed_tag l tag y n lt h

pub tag_is : (l : Layout) (s : State) (v : Val) (n : ℕ) → word_for l s v ≡ Some n → n % 4 ≡ tag_of v
tag_is l s (FixV x) n e = let h = fixnum_is l s x n e in ap (λ k. k % 4) h.word ∙ fixnum_tag x h.fixnum
tag_is l s (CharV c) n e = let h = char_is l s c n e in omega (arith, h.word)
tag_is l s NilV n e = let h : 5 ≡ n = cc in omega (arith, h)
tag_is l s TrueV n e = let h : 9 ≡ n = cc in omega (arith, h)
tag_is l s (SymbolV k) n e = fixed_tag l 2 (SymbolOf k) n (omega arith) (in_statics l 2 (SymbolOf k) n e)
tag_is l s (StringV t) n e = fixed_tag l 2 (TextOf t) n (omega arith) (in_statics l 2 (TextOf t) n e)
tag_is l s (PairV k) n e = either_tag l s 3 (APair k) (PairOf k) n (omega arith) (either l s 3 (APair k) (PairOf k) n e)
tag_is l s (VectorV k) n e = heap_tag s 2 (AVector k) n (omega arith) (on_heap s 2 (AVector k) n e)
tag_is l s (ClosureV i) n e = either_tag l s 2 (AClosure i) (ClosureOf i) n (omega arith) (either l s 2 (AClosure i) (ClosureOf i) n e)
tag_is l s (ObjectV i) n e = heap_tag s 2 (AnObject i) n (omega arith) (on_heap s 2 (AnObject i) n e)
tag_is l s (OperationV o) n e = fixed_tag l 2 (OperationOf o) n (omega arith) (in_statics l 2 (OperationOf o) n e)
tag_is l s (BuiltinV p) n e = fixed_tag l 2 (BuiltinOf p) n (omega arith) (in_statics l 2 (BuiltinOf p) n e)
tag_is l s (EscapeV b) n e = heap_tag s 2 (AnEscape b) n (omega arith) (on_heap s 2 (AnEscape b) n e)

-- ---- offsets

pub moved_back : (n b : ℕ) → b < n → moved n (negsuc b) ≡ n - suc b
moved_back n b lt = rw (le-ltb n (suc b) (omega (arith, lt))) refl

some_is : {A : Type 0} (o : Option A) → is_some o ≡ true → (a : A) × (o ≡ Some a)
some_is (Some a) e = (a, refl)
some_is None e = absurd (cc)

some_through : (o : Option ℕ) (f g : ℕ → ℕ) → is_some o ≡ true → is_some (option_map f (option_map g o)) ≡ true
some_through (Some a) f g e = refl
some_through None f g e = absurd (cc)

pub packed_room : (bytes : List ℕ) → length bytes ≤ 4 * length (packed bytes)
packed_room [] = omega arith
packed_room (a ∷ []) = omega arith
packed_room (a ∷ b ∷ []) = omega arith
packed_room (a ∷ b ∷ c ∷ []) = omega arith
packed_room (a ∷ b ∷ c ∷ d ∷ rest) = omega (arith, packed_room rest)

-- ---- what is read

module _ (sizes : Sizes) (l : Layout) (e : Escapes) (s : State) (storage : Regions Word) (next : ℕ) (output : List ℕ) (h : HoldsData sizes l e s storage next output) where
  -- the word with a number of a thing
  pub heap_word : (tag : ℕ) (x : Thing) (n i : ℕ) (w : Word) → OnHeap s tag x n → slice_get (thing_contents l e s x) i ≡ Some w → IsRead storage (n - tag + 4 * i) w
  heap_word tag x n i w o at =
      let inside : i < length (thing_contents l e s x) = slice_get_within (thing_contents l e s x) i w at in
      let m = thing_sized l e s x in
      let le = heap_within sizes l e s storage next output h x o.place o.found in
      let room : 4 * s.store.heap ≤ sizes.heap = h.room in
      let small : sizes.heap ≤ 2 ^ 28 = h.small in
      let address : n - tag + 4 * i ≡ HEAP_START + 4 * (o.place + i) = omega (arith, o.word) in
      record {
        reads = rw address (heap_reads sizes l e s storage next output h x o.place i w o.found at);
        outside = omega (arith, address, inside, m, le, room, small);
      }

  pub fixed_word : (tag : ℕ) (x : Fixed) (n i : ℕ) (w : Word) → InStatics l tag x n → slice_get (fixed_contents l s x) i ≡ Some w → IsRead storage (n - tag + 4 * i) w
  fixed_word tag x n i w o at =
      let inside : i < length (fixed_contents l s x) = slice_get_within (fixed_contents l s x) i w at in
      let m = fixed_sized l s x in
      let le = fixed_within sizes l e s storage next output h x o.place o.found in
      let address : n - tag + 4 * i ≡ STATICS_START + 4 * (front_words l + (o.place + i)) = omega (arith, o.word) in
      record {
        reads = rw address (fixed_reads sizes l e s storage next output h x o.place i w o.found at);
        outside = omega (arith, address, inside, m, le);
      }

  back : (n k : ℕ) (w : Word) → k < n → IsRead storage (n - suc k + 4 * 0) w → IsRead storage (moved n (negsuc k)) w
  back n k w lt r = let a : moved n (negsuc k) ≡ n - suc k + 4 * 0 = moved_back n k lt ∙ omega arith in subst (λ address. IsRead storage address w) (sym a) r

  heap_header : (x : Thing) (n hd : ℕ) → OnHeap s 2 x n → slice_get (thing_contents l e s x) 0 ≡ Some (Number hd) → IsRead storage (moved n (negsuc 1)) (Number hd)
  heap_header x n hd o at = back n 1 (Number hd) (omega (arith, o.word)) (heap_word 2 x n 0 (Number hd) o at)

  fixed_header : (x : Fixed) (n hd : ℕ) → InStatics l 2 x n → slice_get (fixed_contents l s x) 0 ≡ Some (Number hd) → IsRead storage (moved n (negsuc 1)) (Number hd)
  fixed_header x n hd o at = back n 1 (Number hd) (omega (arith, o.word)) (fixed_word 2 x n 0 (Number hd) o at)

  either_header : (x : Thing) (y : Fixed) (n hd : ℕ) → (OnHeap s 2 x n → slice_get (thing_contents l e s x) 0 ≡ Some (Number hd)) → slice_get (fixed_contents l s y) 0 ≡ Some (Number hd) → OnHeap s 2 x n ⊎ InStatics l 2 y n → IsRead storage (moved n (negsuc 1)) (Number hd)
  either_header x y n hd f g (inl o) = heap_header x n hd o (f o)
  either_header x y n hd f g (inr o) = fixed_header y n hd o g

  vector_head : (k n : ℕ) → OnHeap s 2 (AVector k) n → slice_get (thing_contents l e s (AVector k)) 0 ≡ Some (Number 0x11)
  vector_head k n o = let m = made_is sizes l e s storage next output h (AVector k) o.place o.found in rw m.1 refl

  closure_head : (i n : ℕ) → OnHeap s 2 (AClosure i) n → slice_get (thing_contents l e s (AClosure i)) 0 ≡ Some (Number 0x1D)
  closure_head i n o = let m = made_is sizes l e s storage next output h (AClosure i) o.place o.found in rw m.1 refl

  object_head : (i n : ℕ) → OnHeap s 2 (AnObject i) n → slice_get (thing_contents l e s (AnObject i)) 0 ≡ Some (Number 0x21)
  object_head i n o = let m = made_is sizes l e s storage next output h (AnObject i) o.place o.found in rw m.1 refl

  pub header_is : (v : Val) (n hd : ℕ) → word_for l s v ≡ Some n → header_of v ≡ Some hd → IsRead storage (moved n (negsuc 1)) (Number hd)
  header_is (FixV x) n hd w g = absurd (cc)
  header_is (CharV c) n hd w g = absurd (cc)
  header_is NilV n hd w g = absurd (cc)
  header_is TrueV n hd w g = absurd (cc)
  header_is (PairV k) n hd w g = absurd (cc)
  header_is (SymbolV k) n hd w g = let same : 0x19 ≡ hd = cc in subst (λ a. IsRead storage (moved n (negsuc 1)) (Number a)) same (fixed_header (SymbolOf k) n 0x19 (in_statics l 2 (SymbolOf k) n w) refl)
  header_is (StringV t) n hd w g = let same : 0x15 ≡ hd = cc in subst (λ a. IsRead storage (moved n (negsuc 1)) (Number a)) same (fixed_header (TextOf t) n 0x15 (in_statics l 2 (TextOf t) n w) refl)
  header_is (VectorV k) n hd w g = let same : 0x11 ≡ hd = cc in let o = on_heap s 2 (AVector k) n w in subst (λ a. IsRead storage (moved n (negsuc 1)) (Number a)) same (heap_header (AVector k) n 0x11 o (vector_head k n o))
  header_is (ClosureV i) n hd w g = let same : 0x1D ≡ hd = cc in subst (λ a. IsRead storage (moved n (negsuc 1)) (Number a)) same (either_header (AClosure i) (ClosureOf i) n 0x1D (closure_head i n) refl (either l s 2 (AClosure i) (ClosureOf i) n w))
  header_is (ObjectV i) n hd w g = let same : 0x21 ≡ hd = cc in let o = on_heap s 2 (AnObject i) n w in subst (λ a. IsRead storage (moved n (negsuc 1)) (Number a)) same (heap_header (AnObject i) n 0x21 o (object_head i n o))
  header_is (OperationV o) n hd w g = let same : 0x25 ≡ hd = cc in subst (λ a. IsRead storage (moved n (negsuc 1)) (Number a)) same (fixed_header (OperationOf o) n 0x25 (in_statics l 2 (OperationOf o) n w) refl)
  header_is (BuiltinV p) n hd w g = let same : 0x29 ≡ hd = cc in subst (λ a. IsRead storage (moved n (negsuc 1)) (Number a)) same (fixed_header (BuiltinOf p) n 0x29 (in_statics l 2 (BuiltinOf p) n w) refl)
  header_is (EscapeV b) n hd w g = let same : 0x2D ≡ hd = cc in subst (λ a. IsRead storage (moved n (negsuc 1)) (Number a)) same (heap_header (AnEscape b) n 0x2D (on_heap s 2 (AnEscape b) n w) refl)

  -- ---- pairs

  address_is : (a b : ℕ) (w : Word) → a ≡ b → IsRead storage a w → IsRead storage b w
  address_is a b w e r = subst (λ address. IsRead storage address w) e r

  known_word : (v : Val) → is_some (word_for l s v) ≡ true → (m : ℕ) × (word_for l s v ≡ Some m)
  known_word v k = some_is (word_for l s v) k

  val_is : (v : Val) (m : ℕ) → word_for l s v ≡ Some m → val_word l s v ≡ m
  val_is v m w = ap or_zero w

  pair_from : (k n : ℕ) (p : Val × Val) → slice_get s.store.pairs k ≡ Some p → AreKnown l s (parts_of p) → ((i : ℕ) (w : Word) → slice_get (pair_contents l s (slice_get s.store.pairs k)) i ≡ Some w → IsRead storage (n - 3 + 4 * i) w) → 3 ≤ n → IsPairRead l s storage k n
  pair_from k n p there known read le =
      let a = known_word p.0 known.0 in
      let b = known_word p.1 known.1.0 in
      let first : slice_get (pair_contents l s (slice_get s.store.pairs k)) 0 ≡ Some (Number a.0) = rw (there, val_is p.0 a.0 a.1) refl in
      let second : slice_get (pair_contents l s (slice_get s.store.pairs k)) 1 ≡ Some (Number b.0) = rw (there, val_is p.1 b.0 b.1) refl in
      let at_head : n - 3 + 4 * 0 ≡ moved n (negsuc 2) = let m : moved n (negsuc 2) ≡ n - 3 = moved_back n 2 (omega (arith, le)) in omega (arith, m) in
      let at_tail : n - 3 + 4 * 1 ≡ moved n (pos 1) = omega (arith, le) in
      record {
        parts = p;
        there = there;
        head = a.0;
        tail = b.0;
        head_is = a.1;
        tail_is = b.1;
        head_read = address_is _ _ (Number a.0) at_head (read 0 (Number a.0) first);
        tail_read = address_is _ _ (Number b.0) at_tail (read 1 (Number b.0) second);
      }

  either_pair : (k n : ℕ) → OnHeap s 3 (APair k) n ⊎ InStatics l 3 (PairOf k) n → IsPairRead l s storage k n
  either_pair k n (inl o) = let m = made_is sizes l e s storage next output h (APair k) o.place o.found in pair_from k n m.0 m.1 m.2 (λ i w at. heap_word 3 (APair k) n i w o at) (omega (arith, o.word))
  either_pair k n (inr o) = let m = fixed_is sizes l e s storage next output h (PairOf k) o.place o.found in pair_from k n m.0 m.1 m.2 (λ i w at. fixed_word 3 (PairOf k) n i w o at) (omega (arith, o.word))

  pub pair_is : (k n : ℕ) → word_for l s (PairV k) ≡ Some n → IsPairRead l s storage k n
  pair_is k n w = either_pair k n (either l s 3 (APair k) (PairOf k) n w)

  -- ---- vectors

  known_at : (items : List Val) (i : ℕ) (v : Val) → AreKnown l s items → slice_get items i ≡ Some v → is_some (word_for l s v) ≡ true
  known_at [] i v k at = absurd (cc)
  known_at (x ∷ items) zero v k at = let same : x ≡ v = cc in subst (λ y. is_some (word_for l s y) ≡ true) same k.0
  known_at (x ∷ items) (suc i) v k at = known_at items i v k.1 at

  value_at : (items : List Val) (rest : List Word) (i m : ℕ) (v : Val) → slice_get items i ≡ Some v → word_for l s v ≡ Some m → slice_get (values l s items ++ rest) i ≡ Some (Number m)
  value_at [] rest i m v at w = absurd (cc)
  value_at (x ∷ items) rest zero m v at w = let same : x ≡ v = cc in let n : val_word l s x ≡ m = ap (val_word l s) same ∙ val_is v m w in rw n refl
  value_at (x ∷ items) rest (suc i) m v at w = value_at items rest i m v at w

  pub vector_is : (k n : ℕ) → word_for l s (VectorV k) ≡ Some n → IsVectorRead l s storage k n
  vector_is k n w =
      let o = on_heap s 2 (AVector k) n w in
      let m = made_is sizes l e s storage next output h (AVector k) o.place o.found in
      let items : List Val = m.0 in
      let le = heap_within sizes l e s storage next output h (AVector k) o.place o.found in
      let size : thing_words s (AVector k) ≡ 2 + length items + length items % 2 = rw m.1 refl in
      let room : 4 * s.store.heap ≤ sizes.heap = h.room in
      let small : sizes.heap ≤ 2 ^ 28 = h.small in
      let second : slice_get (thing_contents l e s (AVector k)) 1 ≡ Some (Number (4 * length items)) = rw m.1 refl in
      let four : fixnum_word (pos (length items)) ≡ 4 * length items = omega arith in
      let at_length : n - 2 + 4 * 1 ≡ moved n (pos 2) = omega (arith, o.word) in
      record {
        items = items;
        there = m.1;
        short = omega (arith, le, size, room, small);
        length_read = rw four (address_is _ _ (Number (4 * length items)) at_length (heap_word 2 (AVector k) n 1 (Number (4 * length items)) o second));
        element_known = λ i v at. known_word v (known_at items i v m.2 at);
        element_read = λ i word v at is.
            let there : slice_get (thing_contents l e s (AVector k)) (suc (suc i)) ≡ Some (Number word) = rw m.1 (value_at items _ i word v at is) in
            let address : n - 2 + 4 * suc (suc i) ≡ n + 4 * i + 6 = omega (arith, o.word) in
            address_is _ _ (Number word) address (heap_word 2 (AVector k) n (suc (suc i)) (Number word) o there);
      }

  -- ---- strings and symbols

  text_known : (name p : ℕ) → fixed_place l (SymbolOf name) ≡ Some p → is_some (word_for l s (StringV (PrintName name))) ≡ true
  text_known name p found = some_through (fixed_place l (TextOf (PrintName name))) (λ a. a + 2) (λ p. STATICS_START + 4 * (front_words l + p)) (h.laid_out.names name (ap is_some found))

  pub symbol_is : (name n : ℕ) → word_for l s (SymbolV name) ≡ Some n → IsSymbolRead l s storage name n
  symbol_is name n w =
      let o = in_statics l 2 (SymbolOf name) n w in
      let t = known_word (StringV (PrintName name)) (text_known name o.place o.found) in
      let third : slice_get (fixed_contents l s (SymbolOf name)) 2 ≡ Some (Number t.0) = rw (val_is (StringV (PrintName name)) t.0 t.1) refl in
      let address : n - 2 + 4 * 2 ≡ moved n (pos 6) = omega (arith, o.word) in
      record { text = t.0; text_is = t.1; text_read = address_is _ _ (Number t.0) address (fixed_word 2 (SymbolOf name) n 2 (Number t.0) o third) }

  pub text_is : (t : Text) (n : ℕ) → word_for l s (StringV t) ≡ Some n → IsTextRead s storage t n
  text_is t n w =
      let o = in_statics l 2 (TextOf t) n w in
      let m = fixed_is sizes l e s storage next output h (TextOf t) o.place o.found in
      let le = fixed_within sizes l e s storage next output h (TextOf t) o.place o.found in
      let four : fixnum_word (pos (length (l.bytes t))) ≡ 4 * length (l.bytes t) = omega arith in
      let address : n - 2 + 4 * 1 ≡ moved n (pos 2) = omega (arith, o.word) in
      record {
        bytes = l.bytes t;
        there = m;
        short = omega (arith, le, packed_room (l.bytes t));
        length_read = rw four (address_is _ _ (Number (4 * length (l.bytes t))) address (fixed_word 2 (TextOf t) n 1 (Number (4 * length (l.bytes t))) o refl));
      }
