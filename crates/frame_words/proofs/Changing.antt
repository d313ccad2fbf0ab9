-- Where one part of a pair is changed, words stay, and storage holds the data with one word changed.
use Rattle.std.proofs.Common.{◌≡◌, ℕ, zero, suc, ◌+◌, ◌-◌, ◌*◌, ◌/◌, ◌%◌, ◌^◌, ◌<◌, ◌≤◌, ◌==◌, ◌⊎◌, Bool, false, List, [], ◌∷◌, ◌++◌, length, replicate, slice_get, slice_set, Option, Some, None, option_map, is_some, refl, sym, ap, ◌∙◌, subst, arith, inl, inr, append-nil, length-append}
use Rattle.std.specs.List.{flat_map, AllByRecursion}
use Rattle.std.specs.Option.{option_map_or}
use Rattle.std.proofs.lemmas.Bool.{lt-ltb, le-ltb, eqb-false, cases_eq}
use Rattle.std.proofs.lemmas.List.{length-set, set-append_left, set-append_right}
use Rattle.std.proofs.lemmas.Option.{slice_get_within}
use Rattle.t_prim.specs.Values.{Val, Text, Literal, PrintName, FixV, CharV, NilV, TrueV, SymbolV, StringV, PairV, VectorV, ClosureV, ObjectV, OperationV, BuiltinV, EscapeV, Store, vector_words, with_pair_at, with_vector_at, text_of}
use Rattle.word_ir.specs.Word.{Word, Number}
use Rattle.word_ir.specs.Storage.{Sizes, Regions, STATICS_START, HEAP_START, STACK_START, with_long}
use Rattle.frame_ir.specs.Values.{Value, Lasting, InFrame, CellAt}
use Rattle.frame_ir.specs.States.{State, Thing, APair, AVector, AClosure, AnObject, AnEscape, ACell, with_store, new_things, thing_words}
use Rattle.frame_words.specs.Segments.{place_of, total_of, AreDistinct}
use Rattle.frame_words.specs.Layouts.{Layout, Fixed, ClosureOf, BuiltinOf, OperationOf, TextOf, SymbolOf, PairOf, TemplateOf, same_fixed, fixed_words, front_words, fixed_place, fixed_address}
use Rattle.frame_words.specs.ValueWords.{same_thing, heap_place, heap_address, or_other, tagged, word_for, captured_for, val_word, or_zero}
use Rattle.frame_words.specs.Contents.{Escapes, values, captures, pair_contents, vector_contents, closure_contents, object_contents, cell_contents, thing_contents, fixed_contents}
use Rattle.frame_words.specs.Holding.{AreKnown, parts_of, IsMade, IsFixedThere, HoldsData, global_word}
use Rattle.frame_words.specs.Growing.{WordsStay}
use Rattle.frame_words.specs.Origins.{OnHeap, InStatics}
use Rattle.frame_words.proofs.Segments.{missed, place_alike, changed, place_within}
use Rattle.frame_words.proofs.Sizes.{thing_sized, fixed_sized, thing_sound, fixed_sound}
use Rattle.frame_words.proofs.Growing.{all_map, joined_alike, all_known_stay, all_captured_stay, known_stays}

-- ---- lists

get_set : {X : Type 0} (xs : List X) (i : ℕ) (x : X) → i < length xs → slice_get (slice_set xs i x) i ≡ Some x
get_set [] i x lt = absurd (omega (arith, lt))
get_set (y ∷ xs) zero x lt = refl
get_set (y ∷ xs) (suc i) x lt = get_set xs i x (omega (arith, lt))

get_set_other : {X : Type 0} (xs : List X) (i j : ℕ) (x : X) → (i ≡ j → ⊥) → slice_get (slice_set xs i x) j ≡ slice_get xs j
get_set_other [] i j x d = refl
get_set_other (y ∷ xs) zero zero x d = absurd (d refl)
get_set_other (y ∷ xs) zero (suc j) x d = refl
get_set_other (y ∷ xs) (suc i) zero x d = refl
get_set_other (y ∷ xs) (suc i) (suc j) x d = get_set_other xs i j x (λ e. d (ap suc e))

-- the same test of all that is in a list
differ_all : {X : Type 0} (same : X → X → Bool) (size : X → ℕ) (xs : List X) (x : X) → place_of same size xs x ≡ None → AllByRecursion (λ y. same y x ≡ false) xs
differ_all same size [] x h = tt
differ_all same size (y ∷ xs) x h = let m = missed same size y x xs h in (m.0, differ_all same size xs x m.1)

all_of : {X : Type 0} (P : X → Type 0) (xs : List X) → ((x : X) → P x) → AllByRecursion P xs
all_of P [] f = tt
all_of P (x ∷ xs) f = (f x, all_of P xs f)

pub joined_length : {X : Type 0} (content : X → List Word) (size : X → ℕ) (xs : List X) → ((x : X) → length (content x) ≡ size x) → length (flat_map content xs) ≡ total_of size xs
joined_length content size [] sized = refl
joined_length content size (x ∷ xs) sized = omega (arith, length-append (content x) (flat_map content xs), sized x, joined_length content size xs sized)

some_same : {X : Type 0} {a b : X} → Some a ≡ Some b → a ≡ b
some_same e = cc

-- ---- words of storage by their places

pub with_heap : {X : Type 0} (m : Regions X) (k : ℕ) (x : X) → k < 2 ^ 26 → with_long m (HEAP_START + 4 * k) x ≡ record m { heap = slice_set m.heap k x }
with_heap m k x lt =
    let place : (HEAP_START + 4 * k - HEAP_START) / 4 ≡ k = omega arith in
    rw (le-ltb (HEAP_START + 4 * k) HEAP_START (omega arith), lt-ltb (HEAP_START + 4 * k) STACK_START (omega (arith, lt)), place) refl

pub with_statics : {X : Type 0} (m : Regions X) (k : ℕ) (x : X) → k < 2 ^ 26 → with_long m (STATICS_START + 4 * k) x ≡ record m { statics = slice_set m.statics k x }
with_statics m k x lt =
    let place : (STATICS_START + 4 * k - STATICS_START) / 4 ≡ k = omega arith in
    rw (lt-ltb (STATICS_START + 4 * k) HEAP_START (omega (arith, lt)), place) refl

-- ---- words stay where all that is made keeps its size

module _ (l : Layout) (s u : State) (made : u.made ≡ s.made) (same_size : (y : Thing) → thing_words u y ≡ thing_words s y) where
  pub place_same : (x : Thing) → heap_place u x ≡ heap_place s x
  place_same x = ap (λ m. place_of same_thing (thing_words u) m x) made ∙ place_alike same_thing (thing_words u) (thing_words s) s.made x (all_of (λ y. thing_words u y ≡ thing_words s y) s.made same_size)

  either_same : (tag : ℕ) (x : Thing) (y : Fixed) → tagged tag (or_other (heap_address u x) (fixed_address l y)) ≡ tagged tag (or_other (heap_address s x) (fixed_address l y))
  either_same tag x y = ap (λ o. tagged tag (or_other (option_map (λ p. HEAP_START + 4 * p) o) (fixed_address l y))) (place_same x)

  heap_same : (tag : ℕ) (x : Thing) → tagged tag (heap_address u x) ≡ tagged tag (heap_address s x)
  heap_same tag x = ap (λ o. tagged tag (option_map (λ p. HEAP_START + 4 * p) o)) (place_same x)

  pub word_same : (v : Val) → word_for l u v ≡ word_for l s v
  word_same (FixV x) = refl
  word_same (CharV c) = refl
  word_same NilV = refl
  word_same TrueV = refl
  word_same (SymbolV k) = refl
  word_same (StringV t) = refl
  word_same (PairV k) = either_same 3 (APair k) (PairOf k)
  word_same (VectorV k) = heap_same 2 (AVector k)
  word_same (ClosureV i) = either_same 2 (AClosure i) (ClosureOf i)
  word_same (ObjectV i) = heap_same 2 (AnObject i)
  word_same (OperationV o) = refl
  word_same (BuiltinV p) = refl
  word_same (EscapeV b) = heap_same 2 (AnEscape b)

  captured_same : (v : Value) → captured_for l u v ≡ captured_for l s v
  captured_same (Lasting v) = word_same v
  captured_same (CellAt k) = heap_same 2 (ACell k)
  captured_same (InFrame birth slot) = refl

  pub words_stay_same : WordsStay l s u
  words_stay_same = record { values = λ v n h. word_same v ∙ h; captures = λ v n h. captured_same v ∙ h }

  val_same : (v : Val) → val_word l u v ≡ val_word l s v
  val_same v = ap or_zero (word_same v)

  values_same : (vs : List Val) → values l u vs ≡ values l s vs
  values_same [] = refl
  values_same (v ∷ vs) = rw (val_same v, values_same vs) refl

  captures_same : (vs : List Value) → captures l u vs ≡ captures l s vs
  captures_same [] = refl
  captures_same (v ∷ vs) = rw (ap or_zero (captured_same v), captures_same vs) refl

  pub pair_same : (o : Option (Val × Val)) → pair_contents l u o ≡ pair_contents l s o
  pair_same None = refl
  pair_same (Some p) = rw (val_same p.0, val_same p.1) refl

  pub vector_same : (o : Option (List Val)) → option_map_or (vector_contents l u) o [] ≡ option_map_or (vector_contents l s) o []
  vector_same None = refl
  vector_same (Some items) = rw (values_same items) refl

  pub closure_same : (o : Option Rattle.frame_ir.specs.Values.Closure) → option_map_or (closure_contents l u) o [] ≡ option_map_or (closure_contents l s) o []
  closure_same None = refl
  closure_same (Some c) = rw (captures_same c.captured) refl

  pub object_same : (o : Option Rattle.frame_ir.specs.Values.Object) → option_map_or (object_contents l u) o [] ≡ option_map_or (object_contents l s) o []
  object_same None = refl
  object_same (Some object) = rw (val_same object.procedure, captures_same object.captured) refl

  pub cell_same : (o : Option Val) → cell_contents l u o ≡ cell_contents l s o
  cell_same None = refl
  cell_same (Some v) = rw (val_same v) refl

  pub global_same : (held : Option Val) → global_word l u held ≡ global_word l s held
  global_same None = refl
  global_same (Some v) = val_same v

-- ---- a pair's part

nothing_new : (s : Store) (k : ℕ) (q : Val × Val) → new_things s (with_pair_at s k q) ≡ []
nothing_new s k q = rw (le-ltb (length s.pairs) (length (slice_set s.pairs k q)) (omega (arith, length-set s.pairs k q)), le-ltb (length s.vectors) (length s.vectors) (omega arith)) refl

same_text : (s : Store) (k : ℕ) (q : Val × Val) (t : Text) (b : List ℕ) → text_of s t ≡ Some b → text_of (with_pair_at s k q) t ≡ Some b
same_text s k q (Literal n) b h = h
same_text s k q (PrintName n) b h = h

module _ (l : Layout) (e : Escapes) (s : State) (k : ℕ) (p q : Val × Val) (there : slice_get s.store.pairs k ≡ Some p) where
  abbrev pub repaired : State
  repaired = with_store s (with_pair_at s.store k q)

  pub repaired_made : repaired.made ≡ s.made
  repaired_made = ap (λ more. s.made ++ more) (nothing_new s.store k q) ∙ append-nil s.made

  pub repaired_sizes : (y : Thing) → thing_words repaired y ≡ thing_words s y
  repaired_sizes (APair j) = refl
  repaired_sizes (AVector j) = refl
  repaired_sizes (AClosure i) = refl
  repaired_sizes (AnObject i) = refl
  repaired_sizes (AnEscape b) = refl
  repaired_sizes (ACell j) = refl

  pub repaired_words : WordsStay l s repaired
  repaired_words = words_stay_same l s repaired repaired_made repaired_sizes

  pub repaired_word : (v : Val) → word_for l repaired v ≡ word_for l s v
  repaired_word v = word_same l s repaired repaired_made repaired_sizes v

  other_pair : (j : ℕ) → (j == k) ≡ false → slice_get repaired.store.pairs j ≡ slice_get s.store.pairs j
  other_pair j d = get_set_other s.store.pairs k j q (λ eq. eqb-false j k d (sym eq))

  this_pair : slice_get repaired.store.pairs k ≡ Some q
  this_pair = get_set s.store.pairs k q (slice_get_within s.store.pairs k p there)

  -- contents of all other things
  others : (y : Thing) → same_thing y (APair k) ≡ false → thing_contents l e repaired y ≡ thing_contents l e s y
  others (APair j) d = ap (pair_contents l repaired) (other_pair j d) ∙ pair_same l s repaired repaired_made repaired_sizes (slice_get s.store.pairs j)
  others (AVector j) d = vector_same l s repaired repaired_made repaired_sizes (slice_get s.store.vectors j)
  others (AClosure i) d = closure_same l s repaired repaired_made repaired_sizes (slice_get s.closures i)
  others (AnObject i) d = object_same l s repaired repaired_made repaired_sizes (slice_get s.objects i)
  others (AnEscape b) d = refl
  others (ACell j) d = cell_same l s repaired repaired_made repaired_sizes (slice_get s.cells j)

  other_fixed : (y : Fixed) → same_fixed y (PairOf k) ≡ false → fixed_contents l repaired y ≡ fixed_contents l s y
  other_fixed (PairOf j) d = ap (pair_contents l repaired) (other_pair j d) ∙ pair_same l s repaired repaired_made repaired_sizes (slice_get s.store.pairs j)
  other_fixed (ClosureOf b) d = refl
  other_fixed (BuiltinOf b) d = refl
  other_fixed (OperationOf o) d = refl
  other_fixed (TextOf t) d = refl
  other_fixed (SymbolOf n) d = refl
  other_fixed (TemplateOf t) d = refl

  -- of the pair, where one word is another one
  module _ (i m : ℕ) (part : pair_contents l s (Some q) ≡ slice_set (pair_contents l s (Some p)) i (Number m)) where
    this_thing : pair_contents l repaired (slice_get repaired.store.pairs k) ≡ slice_set (pair_contents l s (slice_get s.store.pairs k)) i (Number m)
    this_thing = ap (pair_contents l repaired) this_pair ∙ (pair_same l s repaired repaired_made repaired_sizes (Some q) ∙ (part ∙ ap (λ o. slice_set (pair_contents l s o) i (Number m)) (sym there)))

    module _ (sizes : Sizes) (storage : Regions Word) (next : ℕ) (output : List ℕ) (h : HoldsData sizes l e s storage next output) (n : ℕ) (known : AreKnown l s (parts_of q)) (inside : i < 2) where
      known_now : (vs : List Val) → AreKnown l s vs → AreKnown l repaired vs
      known_now vs a = all_known_stay l s repaired repaired_words vs a

      made_at : (b : (j : ℕ) → (j ≡ k) ⊎ (j ≡ k → ⊥)) (y : Thing) → IsMade l s y → IsMade l repaired y
      made_at b (APair j) g = elim (b j) [
        | inl eq ↦ (q, subst (λ x. slice_get repaired.store.pairs x ≡ Some q) (sym eq) this_pair, known_now (parts_of q) known)
        | inr d ↦ (g.0, get_set_other s.store.pairs k j q (λ eq. d (sym eq)) ∙ g.1, known_now (parts_of g.0) g.2)
      ]
      made_at b (AVector j) g = (g.0, g.1, known_now g.0 g.2)
      made_at b (AClosure j) g = (g.0, g.1, all_captured_stay l s repaired repaired_words g.0.captured g.2)
      made_at b (AnObject j) g = (g.0, g.1, known_now (g.0.procedure ∷ []) g.2, all_captured_stay l s repaired repaired_words g.0.captured g.3, g.4)
      made_at b (AnEscape j) g = g
      made_at b (ACell j) g = (g.0, g.1, known_now (g.0 ∷ []) g.2)

      fixed_at : (b : (j : ℕ) → (j ≡ k) ⊎ (j ≡ k → ⊥)) (y : Fixed) → IsFixedThere l s y → IsFixedThere l repaired y
      fixed_at b (PairOf j) g = elim (b j) [
        | inl eq ↦ (q, subst (λ x. slice_get repaired.store.pairs x ≡ Some q) (sym eq) this_pair, known_now (parts_of q) known)
        | inr d ↦ (g.0, get_set_other s.store.pairs k j q (λ eq. d (sym eq)) ∙ g.1, known_now (parts_of g.0) g.2)
      ]
      fixed_at b (ClosureOf j) g = g
      fixed_at b (BuiltinOf j) g = tt
      fixed_at b (OperationOf j) g = tt
      fixed_at b (TextOf t) g = same_text s.store k q t (l.bytes t) g
      fixed_at b (SymbolOf j) g = tt
      fixed_at b (TemplateOf j) g = tt

      abbrev heap_now : List Word
      heap_now = flat_map (thing_contents l e repaired) repaired.made

      -- the whole, by what is held of heap and static words
      holds_by : (new : Regions Word) → new.heap ≡ flat_map (thing_contents l e repaired) s.made ++ replicate (sizes.heap / 4 - s.store.heap) (Number 0) → new.statics ≡ h.front ++ flat_map (fixed_contents l repaired) l.fixed → HoldsData sizes l e repaired new next output
      holds_by new heap statics = record {
        heap = heap ∙ ap (λ made. flat_map (thing_contents l e repaired) made ++ replicate (sizes.heap / 4 - s.store.heap) (Number 0)) (sym repaired_made);
        taken = h.taken ∙ (sym (totals s.made) ∙ ap (total_of (thing_words repaired)) (sym repaired_made));
        next_is = h.next_is;
        room = h.room;
        small = h.small;
        distinct = subst (AreDistinct same_thing (thing_words repaired)) (sym repaired_made) (distinct_alike s.made h.distinct);
        made = subst (AllByRecursion (IsMade l repaired)) (sym repaired_made) (all_map (IsMade l s) (IsMade l repaired) s.made (made_at (λ j. cases_eq j k)) h.made);
        pairs_apart = λ j x found. place_same l s repaired repaired_made repaired_sizes (APair j) ∙ h.pairs_apart j x found;
        laid_out = h.laid_out;
        front = h.front;
        front_length = h.front_length;
        statics = statics;
        fixed = all_map (IsFixedThere l s) (IsFixedThere l repaired) l.fixed (fixed_at (λ j. cases_eq j k)) h.fixed;
        globals = λ g held at. h.globals g held at ∙ ap (λ x. Some (Number x)) (sym (global_same l s repaired repaired_made repaired_sizes held));
        globals_known = λ g v at. known_stays l s repaired repaired_words v (h.globals_known g v at);
        output_is = h.output_is;
      }
        where
          totals : (xs : List Thing) → total_of (thing_words repaired) xs ≡ total_of (thing_words s) xs
          totals [] = refl
          totals (y ∷ xs) = rw (repaired_sizes y, totals xs) refl

          distinct_alike : (xs : List Thing) → AreDistinct same_thing (thing_words s) xs → AreDistinct same_thing (thing_words repaired) xs
          distinct_alike [] d = tt
          distinct_alike (y ∷ xs) d = (place_alike same_thing (thing_words repaired) (thing_words s) xs y (all_of (λ z. thing_words repaired z ≡ thing_words s z) xs repaired_sizes) ∙ d.0, distinct_alike xs d.1)

      -- a pair on the heap
      pub heap_pair_changes : OnHeap s 3 (APair k) n → HoldsData sizes l e repaired (with_long storage (n - 3 + 4 * i) (Number m)) next output
      heap_pair_changes o =
          let within = place_within same_thing (thing_words s) s.made (APair k) o.place thing_sound o.found in
          let room : 4 * s.store.heap ≤ sizes.heap = h.room in
          let small : sizes.heap ≤ 2 ^ 28 = h.small in
          let at : ℕ = o.place + i in
          let address : n - 3 + 4 * i ≡ HEAP_START + 4 * at = omega (arith, o.word) in
          let below : at < 2 ^ 26 = omega (arith, within, inside, h.taken, room, small) in
          let old : List Word = flat_map (thing_contents l e s) s.made in
          let size : at < length old = omega (arith, within, inside, joined_length (thing_contents l e s) (thing_words s) s.made (thing_sized l e s)) in
          let new : flat_map (thing_contents l e repaired) s.made ≡ slice_set old at (Number m) = changed same_thing (thing_words s) (thing_contents l e s) (thing_sized l e s) thing_sound (thing_contents l e repaired) (APair k) i (Number m) others this_thing inside s.made o.place h.distinct o.found in
          let heap : slice_set storage.heap at (Number m) ≡ flat_map (thing_contents l e repaired) s.made ++ replicate (sizes.heap / 4 - s.store.heap) (Number 0) =
          ap (λ ws. slice_set ws at (Number m)) h.heap ∙ (set-append_left old (replicate (sizes.heap / 4 - s.store.heap) (Number 0)) at (Number m) size ∙ ap (λ ws. ws ++ replicate (sizes.heap / 4 - s.store.heap) (Number 0)) (sym new)) in
          let apart : fixed_place l (PairOf k) ≡ None = none_fixed (fixed_place l (PairOf k)) refl o in
          let fixed : flat_map (fixed_contents l repaired) l.fixed ≡ flat_map (fixed_contents l s) l.fixed = joined_alike (fixed_contents l repaired) (fixed_contents l s) (λ y. same_fixed y (PairOf k) ≡ false) l.fixed other_fixed (differ_all same_fixed (fixed_words l) l.fixed (PairOf k) apart) in
          subst (λ r. HoldsData sizes l e repaired r next output) (sym (ap (λ a. with_long storage a (Number m)) address ∙ with_heap storage at (Number m) below))
          (holds_by (record storage { heap = slice_set storage.heap at (Number m) }) heap (h.statics ∙ ap (λ ws. h.front ++ ws) (sym fixed)))
        where
          none_fixed : (x : Option ℕ) → fixed_place l (PairOf k) ≡ x → OnHeap s 3 (APair k) n → fixed_place l (PairOf k) ≡ None
          none_fixed None f o = f
          none_fixed (Some x) f o = absurd (let a : heap_place s (APair k) ≡ None = h.pairs_apart k x f in let b : heap_place s (APair k) ≡ Some o.place = o.found in cc)

      -- a quoted pair
      pub fixed_pair_changes : InStatics l 3 (PairOf k) n → HoldsData sizes l e repaired (with_long storage (n - 3 + 4 * i) (Number m)) next output
      fixed_pair_changes o =
          let within = place_within same_fixed (fixed_words l) l.fixed (PairOf k) o.place fixed_sound o.found in
          let few : front_words l + total_of (fixed_words l) l.fixed ≤ 2 ^ 25 = h.laid_out.few in
          let at : ℕ = o.place + i in
          let address : n - 3 + 4 * i ≡ STATICS_START + 4 * (front_words l + at) = omega (arith, o.word) in
          let below : front_words l + at < 2 ^ 26 = omega (arith, within, inside, few) in
          let old : List Word = flat_map (fixed_contents l s) l.fixed in
          let new : flat_map (fixed_contents l repaired) l.fixed ≡ slice_set old at (Number m) = changed same_fixed (fixed_words l) (fixed_contents l s) (fixed_sized l s) fixed_sound (fixed_contents l repaired) (PairOf k) i (Number m) other_fixed this_thing inside l.fixed o.place h.laid_out.distinct o.found in
          let less : front_words l + at - front_words l ≡ at = omega arith in
          let statics : slice_set storage.statics (front_words l + at) (Number m) ≡ h.front ++ flat_map (fixed_contents l repaired) l.fixed =
          ap (λ ws. slice_set ws (front_words l + at) (Number m)) h.statics ∙ (set-append_right h.front old (front_words l) (front_words l + at) (Number m) h.front_length (omega arith) ∙ (ap (λ j. h.front ++ slice_set old j (Number m)) less ∙ ap (λ ws. h.front ++ ws) (sym new))) in
          let apart : heap_place s (APair k) ≡ None = h.pairs_apart k o.place o.found in
          let things : flat_map (thing_contents l e repaired) s.made ≡ flat_map (thing_contents l e s) s.made = joined_alike (thing_contents l e repaired) (thing_contents l e s) (λ y. same_thing y (APair k) ≡ false) s.made others (differ_all same_thing (thing_words s) s.made (APair k) apart) in
          subst (λ r. HoldsData sizes l e repaired r next output) (sym (ap (λ a. with_long storage a (Number m)) address ∙ with_statics storage (front_words l + at) (Number m) below))
          (holds_by (record storage { statics = slice_set storage.statics (front_words l + at) (Number m) }) (h.heap ∙ ap (λ ws. ws ++ replicate (sizes.heap / 4 - s.store.heap) (Number 0)) (sym things)) statics)

-- ---- an element of a vector

nothing_new_vector : (s : Store) (k : ℕ) (items : List Val) → new_things s (with_vector_at s k items) ≡ []
nothing_new_vector s k items = rw (le-ltb (length s.pairs) (length s.pairs) (omega arith), le-ltb (length s.vectors) (length (slice_set s.vectors k items)) (omega (arith, length-set s.vectors k items))) refl

same_text_vector : (s : Store) (k : ℕ) (items : List Val) (t : Text) (b : List ℕ) → text_of s t ≡ Some b → text_of (with_vector_at s k items) t ≡ Some b
same_text_vector s k items (Literal n) b h = h
same_text_vector s k items (PrintName n) b h = h

module _ (l : Layout) (e : Escapes) (s : State) (k i : ℕ) (v : Val) (items : List Val) (there : slice_get s.store.vectors k ≡ Some items) where
  abbrev pub refilled : State
  refilled = with_store s (with_vector_at s.store k (slice_set items i v))

  pub refilled_made : refilled.made ≡ s.made
  refilled_made = ap (λ more. s.made ++ more) (nothing_new_vector s.store k (slice_set items i v)) ∙ append-nil s.made

  this_vector : slice_get refilled.store.vectors k ≡ Some (slice_set items i v)
  this_vector = get_set s.store.vectors k (slice_set items i v) (slice_get_within s.store.vectors k items there)

  other_vector : (j : ℕ) → (j ≡ k → ⊥) → slice_get refilled.store.vectors j ≡ slice_get s.store.vectors j
  other_vector j d = get_set_other s.store.vectors k j (slice_set items i v) (λ eq. d (sym eq))

  abbrev words_by : Option (List Val) → ℕ
  words_by o = option_map_or (λ xs. vector_words (length xs)) o 0

  vector_size : (j : ℕ) → (j ≡ k) ⊎ (j ≡ k → ⊥) → words_by (slice_get refilled.store.vectors j) ≡ words_by (slice_get s.store.vectors j)
  vector_size j (inl eq) =
      let a : words_by (slice_get refilled.store.vectors k) ≡ vector_words (length (slice_set items i v)) = ap words_by this_vector in
      let b : words_by (slice_get s.store.vectors k) ≡ vector_words (length items) = ap words_by there in
      subst (λ x. words_by (slice_get refilled.store.vectors x) ≡ words_by (slice_get s.store.vectors x)) (sym eq) (a ∙ (ap vector_words (length-set items i v) ∙ sym b))
  vector_size j (inr d) = ap words_by (other_vector j d)

  pub refilled_sizes : (y : Thing) → thing_words refilled y ≡ thing_words s y
  refilled_sizes (APair j) = refl
  refilled_sizes (AVector j) = vector_size j (cases_eq j k)
  refilled_sizes (AClosure j) = refl
  refilled_sizes (AnObject j) = refl
  refilled_sizes (AnEscape b) = refl
  refilled_sizes (ACell j) = refl

  pub refilled_words : WordsStay l s refilled
  refilled_words = words_stay_same l s refilled refilled_made refilled_sizes

  pub refilled_word : (x : Val) → word_for l refilled x ≡ word_for l s x
  refilled_word x = word_same l s refilled refilled_made refilled_sizes x

  others_than_vector : (y : Thing) → same_thing y (AVector k) ≡ false → thing_contents l e refilled y ≡ thing_contents l e s y
  others_than_vector (AVector j) d = ap (λ o. option_map_or (vector_contents l refilled) o []) (other_vector j (eqb-false j k d)) ∙ vector_same l s refilled refilled_made refilled_sizes (slice_get s.store.vectors j)
  others_than_vector (APair j) d = pair_same l s refilled refilled_made refilled_sizes (slice_get s.store.pairs j)
  others_than_vector (AClosure j) d = closure_same l s refilled refilled_made refilled_sizes (slice_get s.closures j)
  others_than_vector (AnObject j) d = object_same l s refilled refilled_made refilled_sizes (slice_get s.objects j)
  others_than_vector (AnEscape b) d = refl
  others_than_vector (ACell j) d = cell_same l s refilled refilled_made refilled_sizes (slice_get s.cells j)

  each_fixed : (y : Fixed) → fixed_contents l refilled y ≡ fixed_contents l s y
  each_fixed (PairOf j) = pair_same l s refilled refilled_made refilled_sizes (slice_get s.store.pairs j)
  each_fixed (ClosureOf b) = refl
  each_fixed (BuiltinOf b) = refl
  each_fixed (OperationOf o) = refl
  each_fixed (TextOf t) = refl
  each_fixed (SymbolOf n) = refl
  each_fixed (TemplateOf t) = refl

  values_set : (m : ℕ) (xs : List Val) (j : ℕ) → val_word l s v ≡ m → values l s (slice_set xs j v) ≡ slice_set (values l s xs) j (Number m)
  values_set m [] j w = refl
  values_set m (x ∷ xs) zero w = rw w refl
  values_set m (x ∷ xs) (suc j) w = ap (λ ws. Number (val_word l s x) ∷ ws) (values_set m xs j w)

  values_length : (xs : List Val) → length (values l s xs) ≡ length xs
  values_length [] = refl
  values_length (x ∷ xs) = ap suc (values_length xs)

  contents_set : (m : ℕ) → val_word l s v ≡ m → i < length items → vector_contents l s (slice_set items i v) ≡ slice_set (vector_contents l s items) (suc (suc i)) (Number m)
  contents_set m w lt =
      let n : length (slice_set items i v) ≡ length items = length-set items i v in
      let vs : values l s (slice_set items i v) ≡ slice_set (values l s items) i (Number m) = values_set m items i w in
      let pad : length (slice_set (values l s items) i (Number m)) ≡ length (values l s items) = length-set (values l s items) i (Number m) in
      rw (n, vs, pad) (ap (λ ws. Number 0x11 ∷ Number (4 * length items) ∷ ws) (sym (set-append_left (values l s items) (replicate (suc (suc (length (values l s items))) % 2) (Number 0)) i (Number m) (omega (arith, lt, values_length items)))))

  module _ (m : ℕ) (is : word_for l s v ≡ Some m) (inside : i < length items) (sizes : Sizes) (storage : Regions Word) (next : ℕ) (output : List ℕ) (h : HoldsData sizes l e s storage next output) (n : ℕ) where
    this_content : thing_contents l e refilled (AVector k) ≡ slice_set (thing_contents l e s (AVector k)) (suc (suc i)) (Number m)
    this_content =
        ap (λ o. option_map_or (vector_contents l refilled) o []) this_vector
        ∙ (vector_same l s refilled refilled_made refilled_sizes (Some (slice_set items i v))
        ∙ (contents_set m (ap or_zero is) inside ∙ ap (λ o. slice_set (option_map_or (vector_contents l s) o []) (suc (suc i)) (Number m)) (sym there)))

    known_set : (xs : List Val) (j : ℕ) → AreKnown l s xs → AreKnown l s (slice_set xs j v)
    known_set [] j a = tt
    known_set (x ∷ xs) zero a = (ap is_some is, a.1)
    known_set (x ∷ xs) (suc j) a = (a.0, known_set xs j a.1)

    known_after : (vs : List Val) → AreKnown l s vs → AreKnown l refilled vs
    known_after vs a = all_known_stay l s refilled refilled_words vs a

    made_after : (b : (j : ℕ) → (j ≡ k) ⊎ (j ≡ k → ⊥)) (y : Thing) → IsMade l s y → IsMade l refilled y
    made_after b (AVector j) g = elim (b j) [
      | inl eq ↦
          let same : Some g.0 ≡ Some items = sym g.1 ∙ (ap (slice_get s.store.vectors) eq ∙ there) in
          let known : AreKnown l s items = subst (AreKnown l s) (some_same same) g.2 in
          (slice_set items i v, ap (slice_get refilled.store.vectors) eq ∙ this_vector, known_after (slice_set items i v) (known_set items i known))
      | inr d ↦ (g.0, other_vector j d ∙ g.1, known_after g.0 g.2)
    ]
    made_after b (APair j) g = (g.0, g.1, known_after (parts_of g.0) g.2)
    made_after b (AClosure j) g = (g.0, g.1, all_captured_stay l s refilled refilled_words g.0.captured g.2)
    made_after b (AnObject j) g = (g.0, g.1, known_after (g.0.procedure ∷ []) g.2, all_captured_stay l s refilled refilled_words g.0.captured g.3, g.4)
    made_after b (AnEscape j) g = g
    made_after b (ACell j) g = (g.0, g.1, known_after (g.0 ∷ []) g.2)

    fixed_after : (y : Fixed) → IsFixedThere l s y → IsFixedThere l refilled y
    fixed_after (PairOf j) g = (g.0, g.1, known_after (parts_of g.0) g.2)
    fixed_after (ClosureOf j) g = g
    fixed_after (BuiltinOf j) g = tt
    fixed_after (OperationOf j) g = tt
    fixed_after (TextOf t) g = same_text_vector s.store k (slice_set items i v) t (l.bytes t) g
    fixed_after (SymbolOf j) g = tt
    fixed_after (TemplateOf j) g = tt

    totals_after : (xs : List Thing) → total_of (thing_words refilled) xs ≡ total_of (thing_words s) xs
    totals_after [] = refl
    totals_after (y ∷ xs) = rw (refilled_sizes y, totals_after xs) refl

    distinct_after : (xs : List Thing) → AreDistinct same_thing (thing_words s) xs → AreDistinct same_thing (thing_words refilled) xs
    distinct_after [] d = tt
    distinct_after (y ∷ xs) d = (place_alike same_thing (thing_words refilled) (thing_words s) xs y (all_of (λ z. thing_words refilled z ≡ thing_words s z) xs refilled_sizes) ∙ d.0, distinct_after xs d.1)

    pub vector_changes : OnHeap s 2 (AVector k) n → HoldsData sizes l e refilled (with_long storage (n + 4 * i + 6) (Number m)) next output
    vector_changes o =
        let within = place_within same_thing (thing_words s) s.made (AVector k) o.place thing_sound o.found in
        let room : 4 * s.store.heap ≤ sizes.heap = h.room in
        let small : sizes.heap ≤ 2 ^ 28 = h.small in
        let at : ℕ = o.place + suc (suc i) in
        let size : thing_words s (AVector k) ≡ 2 + length items + length items % 2 = ap words_by there in
        let address : n + 4 * i + 6 ≡ HEAP_START + 4 * at = omega (arith, o.word) in
        let below : at < 2 ^ 26 = omega (arith, within, inside, size, h.taken, room, small) in
        let old : List Word = flat_map (thing_contents l e s) s.made in
        let enough : suc (suc i) < thing_words s (AVector k) = omega (arith, inside, size) in
        let short : at < length old = omega (arith, within, enough, joined_length (thing_contents l e s) (thing_words s) s.made (thing_sized l e s)) in
        let new : flat_map (thing_contents l e refilled) s.made ≡ slice_set old at (Number m) = changed same_thing (thing_words s) (thing_contents l e s) (thing_sized l e s) thing_sound (thing_contents l e refilled) (AVector k) (suc (suc i)) (Number m) others_than_vector this_content enough s.made o.place h.distinct o.found in
        let zeros : List Word = replicate (sizes.heap / 4 - s.store.heap) (Number 0) in
        let heap : slice_set storage.heap at (Number m) ≡ flat_map (thing_contents l e refilled) s.made ++ zeros = ap (λ ws. slice_set ws at (Number m)) h.heap ∙ (set-append_left old zeros at (Number m) short ∙ ap (λ ws. ws ++ zeros) (sym new)) in
        let fixed : flat_map (fixed_contents l refilled) l.fixed ≡ flat_map (fixed_contents l s) l.fixed = joined_alike (fixed_contents l refilled) (fixed_contents l s) (λ y. Unit {0}) l.fixed (λ y g. each_fixed y) (all_of (λ y. Unit {0}) l.fixed (λ y. tt)) in
        subst (λ r. HoldsData sizes l e refilled r next output) (sym (ap (λ a. with_long storage a (Number m)) address ∙ with_heap storage at (Number m) below))
        (record {
          heap = heap ∙ ap (λ made. flat_map (thing_contents l e refilled) made ++ zeros) (sym refilled_made);
          taken = h.taken ∙ (sym (totals_after s.made) ∙ ap (total_of (thing_words refilled)) (sym refilled_made));
          next_is = h.next_is;
          room = h.room;
          small = h.small;
          distinct = subst (AreDistinct same_thing (thing_words refilled)) (sym refilled_made) (distinct_after s.made h.distinct);
          made = subst (AllByRecursion (IsMade l refilled)) (sym refilled_made) (all_map (IsMade l s) (IsMade l refilled) s.made (made_after (λ j. cases_eq j k)) h.made);
          pairs_apart = λ j x found. place_same l s refilled refilled_made refilled_sizes (APair j) ∙ h.pairs_apart j x found;
          laid_out = h.laid_out;
          front = h.front;
          front_length = h.front_length;
          statics = h.statics ∙ ap (λ ws. h.front ++ ws) (sym fixed);
          fixed = all_map (IsFixedThere l s) (IsFixedThere l refilled) l.fixed fixed_after h.fixed;
          globals = λ g held at. h.globals g held at ∙ ap (λ x. Some (Number x)) (sym (global_same l s refilled refilled_made refilled_sizes held));
          globals_known = λ g v at. known_stays l s refilled refilled_words v (h.globals_known g v at);
          output_is = h.output_is;
        })
