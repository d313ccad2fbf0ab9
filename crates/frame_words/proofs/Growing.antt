-- Where a state has more than another one, words and contents stay.
use Rattle.std.proofs.Common.{◌≡◌, ℕ, ◌+◌, ◌-◌, ◌*◌, ◌/◌, ◌≤◌, Bool, true, List, [], ◌∷◌, ◌++◌, length, replicate, slice_get, Option, Some, None, option_map, is_some, refl, sym, ap, ◌∙◌, subst, arith, append_assoc, le_trans}
use Rattle.std.specs.List.{flat_map, AllByRecursion}
use Rattle.std.specs.Option.{option_map_or}
use Rattle.t_prim.specs.Values.{Val, FixV, CharV, NilV, TrueV, SymbolV, StringV, PairV, VectorV, ClosureV, ObjectV, OperationV, BuiltinV, EscapeV, vector_words}
use Rattle.word_ir.specs.Word.{Word, Number}
use Rattle.word_ir.specs.Storage.{Sizes, Regions, HEAP_START}
use Rattle.frame_ir.specs.Values.{Value, Lasting, InFrame, CellAt, record_words}
use Rattle.frame_ir.specs.States.{State, Thing, APair, AVector, AClosure, AnObject, AnEscape, ACell, thing_words}
use Rattle.frame_words.specs.Segments.{place_of, total_of, AreDistinct}
use Rattle.frame_words.specs.Layouts.{Layout, Fixed, ClosureOf, BuiltinOf, OperationOf, TextOf, SymbolOf, PairOf, TemplateOf, fixed_place, fixed_address}
use Rattle.frame_words.specs.ValueWords.{same_thing, heap_place, heap_address, or_other, tagged, word_for, captured_for, val_word, captured_word, or_zero}
use Rattle.frame_words.specs.Contents.{Escapes, values, captures, pair_contents, thing_contents, fixed_contents}
use Rattle.frame_words.specs.Holding.{AreKnown, AreCaptured, parts_of, IsMade, IsFixedThere, HoldsData, global_word}
use Rattle.frame_words.specs.Growing.{WordsStay, Adds}
use Rattle.frame_words.proofs.Segments.{missed, place_alike, place_append, later_place}

-- ---- places

none_append : {X : Type 0} (same : X → X → Bool) (size : X → ℕ) (xs ys : List X) (x : X) → place_of same size xs x ≡ None → place_of same size ys x ≡ None → place_of same size (xs ++ ys) x ≡ None
none_append same size [] ys x h k = k
none_append same size (y ∷ xs) ys x h k = let m = missed same size y x xs h in later_place same size y x (xs ++ ys) None m.0 (none_append same size xs ys x m.1 k)

pub none_alike : {X : Type 0} (same : X → X → Bool) (size other : X → ℕ) (xs : List X) (x : X) → place_of same size xs x ≡ None → place_of same other xs x ≡ None
none_alike same size other [] x h = refl
none_alike same size other (y ∷ xs) x h = let m = missed same size y x xs h in later_place same other y x xs None m.0 (none_alike same size other xs x m.1)

-- ---- one item more

pub distinct_more : {X : Type 0} (same : X → X → Bool) (size other : X → ℕ) (xs : List X) (x : X) → ((y z : X) → same y z ≡ same z y) → AreDistinct same size xs → place_of same size xs x ≡ None → AreDistinct same other (xs ++ x ∷ [])
distinct_more same size other [] x symmetric d h = (refl, tt)
distinct_more same size other (y ∷ xs) x symmetric d h =
    let m = missed same size y x xs h in
    let alone : place_of same other (x ∷ []) y ≡ None = later_place same other x y [] None (symmetric x y ∙ m.0) refl in
    (none_append same other xs (x ∷ []) y (none_alike same size other xs y d.0) alone, distinct_more same size other xs x symmetric d.1 m.1)

pub all_append : {X : Type 0} (P : X → Type 0) (xs ys : List X) → AllByRecursion P xs → AllByRecursion P ys → AllByRecursion P (xs ++ ys)
all_append P [] ys h k = k
all_append P (x ∷ xs) ys h k = (h.0, all_append P xs ys h.1 k)

pub all_map : {X : Type 0} (P R : X → Type 0) (xs : List X) → ((x : X) → P x → R x) → AllByRecursion P xs → AllByRecursion R xs
all_map P R [] f h = tt
all_map P R (x ∷ xs) f h = (f x h.0, all_map P R xs f h.1)

pub total_append : {X : Type 0} (size : X → ℕ) (xs ys : List X) → total_of size (xs ++ ys) ≡ total_of size xs + total_of size ys
total_append size [] ys = omega arith
total_append size (x ∷ xs) ys = omega (arith, total_append size xs ys)

pub total_alike : {X : Type 0} (size other : X → ℕ) (xs : List X) → AllByRecursion (λ y. size y ≡ other y) xs → total_of size xs ≡ total_of other xs
total_alike size other [] h = refl
total_alike size other (x ∷ xs) h = omega (arith, h.0, total_alike size other xs h.1)

pub joined_append : {X W : Type 0} (f : X → List W) (xs ys : List X) → flat_map f (xs ++ ys) ≡ flat_map f xs ++ flat_map f ys
joined_append f [] ys = refl
joined_append f (x ∷ xs) ys = rw (joined_append f xs ys) (sym (append_assoc (f x) (flat_map f xs) (flat_map f ys)))

pub joined_alike : {X W : Type 0} (f g : X → List W) (P : X → Type 0) (xs : List X) → ((x : X) → P x → f x ≡ g x) → AllByRecursion P xs → flat_map f xs ≡ flat_map g xs
joined_alike f g P [] same h = refl
joined_alike f g P (x ∷ xs) same h = rw (same x h.0, joined_alike f g P xs same h.1) refl

map_some : {A B : Type 0} (f : A → B) (o p : Option A) (b : B) → ((a : A) → o ≡ Some a → p ≡ Some a) → option_map f o ≡ Some b → option_map f p ≡ Some b
map_some f (Some a) p b same h = rw (same a refl) h
map_some f None p b same h = absurd (cc)

-- ---- words stay

module _ (l : Layout) (s u : State) (g : Adds l s u) (all : AllByRecursion (IsMade l s) s.made) where
  pub size_stays : (y : Thing) → IsMade l s y → thing_words s y ≡ thing_words u y
  size_stays (APair k) m = refl
  size_stays (AVector k) m = ap (λ o. option_map_or (λ items. vector_words (length items)) o 0) (m.1 ∙ sym (g.vectors k m.0 m.1))
  size_stays (AClosure i) m = ap (λ o. option_map_or (λ c. record_words (length c.captured)) o 0) (m.1 ∙ sym (g.closures i m.0 m.1))
  size_stays (AnObject i) m = ap (λ o. option_map_or (λ object. record_words (length object.captured)) o 0) (m.1 ∙ sym (g.objects i m.0 m.1))
  size_stays (AnEscape b) m = refl
  size_stays (ACell k) m = refl

  pub sizes_stay : AllByRecursion (λ y. thing_words s y ≡ thing_words u y) s.made
  sizes_stay = all_map (IsMade l s) (λ y. thing_words s y ≡ thing_words u y) s.made size_stays all

  alike : (x : Thing) → heap_place s x ≡ place_of same_thing (thing_words u) s.made x
  alike x = place_alike same_thing (thing_words s) (thing_words u) s.made x sizes_stay

  place_stays : (x : Thing) (p : ℕ) → heap_place s x ≡ Some p → heap_place u x ≡ Some p
  place_stays x p h = subst (λ m. place_of same_thing (thing_words u) m x ≡ Some p) (sym g.made) (place_append same_thing (thing_words u) s.made g.more x p (sym (alike x) ∙ h))

  pub no_place : (x : Thing) → heap_place s x ≡ None → place_of same_thing (thing_words u) g.more x ≡ None → heap_place u x ≡ None
  no_place x h k = subst (λ m. place_of same_thing (thing_words u) m x ≡ None) (sym g.made) (none_append same_thing (thing_words u) s.made g.more x (sym (alike x) ∙ h) k)

  address_stays : (x : Thing) (a : ℕ) → heap_address s x ≡ Some a → heap_address u x ≡ Some a
  address_stays x a h = map_some (λ p. HEAP_START + 4 * p) (heap_place s x) (heap_place u x) a (place_stays x) h

  heap_stays : (tag : ℕ) (x : Thing) (n : ℕ) → tagged tag (heap_address s x) ≡ Some n → tagged tag (heap_address u x) ≡ Some n
  heap_stays tag x n h = map_some (λ a. a + tag) (heap_address s x) (heap_address u x) n (address_stays x) h

  either_by : (tag : ℕ) (x : Thing) (y : Fixed) (n : ℕ) (o : Option ℕ) → heap_place s x ≡ o → ((p : ℕ) → fixed_place l y ≡ Some p → place_of same_thing (thing_words u) g.more x ≡ None) → tagged tag (or_other (heap_address s x) (fixed_address l y)) ≡ Some n → tagged tag (or_other (heap_address u x) (fixed_address l y)) ≡ Some n
  either_by tag x y n (Some p) h apart w = let k : heap_place u x ≡ Some p = place_stays x p h in rw k (rw h at w)
  either_by tag x y n None h apart w =
      let w' : tagged tag (fixed_address l y) ≡ Some n = rw h at w in
      let f = some_fixed (fixed_place l y) tag n w' in
      let k : heap_place u x ≡ None = no_place x h (apart f.0 f.1) in
      rw k w'
    where
      some_fixed : (o : Option ℕ) (tag n : ℕ) → tagged tag (option_map (λ p. Rattle.word_ir.specs.Storage.STATICS_START + 4 * (Rattle.frame_words.specs.Layouts.front_words l + p)) o) ≡ Some n → (p : ℕ) × (o ≡ Some p)
      some_fixed (Some p) tag n w = (p, refl)
      some_fixed None tag n w = absurd (cc)

  value_stays : (v : Val) (n : ℕ) → word_for l s v ≡ Some n → word_for l u v ≡ Some n
  value_stays (FixV x) n h = h
  value_stays (CharV c) n h = h
  value_stays NilV n h = h
  value_stays TrueV n h = h
  value_stays (SymbolV k) n h = h
  value_stays (StringV t) n h = h
  value_stays (PairV k) n h = either_by 3 (APair k) (PairOf k) n (heap_place s (APair k)) refl (g.pairs_apart k) h
  value_stays (VectorV k) n h = heap_stays 2 (AVector k) n h
  value_stays (ClosureV i) n h = either_by 2 (AClosure i) (ClosureOf i) n (heap_place s (AClosure i)) refl (g.closures_apart i) h
  value_stays (ObjectV i) n h = heap_stays 2 (AnObject i) n h
  value_stays (OperationV o) n h = h
  value_stays (BuiltinV p) n h = h
  value_stays (EscapeV b) n h = heap_stays 2 (AnEscape b) n h

  capture_stays : (v : Value) (n : ℕ) → captured_for l s v ≡ Some n → captured_for l u v ≡ Some n
  capture_stays (Lasting v) n h = value_stays v n h
  capture_stays (CellAt k) n h = heap_stays 2 (ACell k) n h
  capture_stays (InFrame birth slot) n h = absurd (cc)

  pub words_stay : WordsStay l s u
  words_stay = record { values = value_stays; captures = capture_stays }

-- ---- what is known stays known, and contents stay

some_word : (o : Option ℕ) → is_some o ≡ true → (n : ℕ) × (o ≡ Some n)
some_word (Some n) h = (n, refl)
some_word None h = absurd (cc)

module _ (l : Layout) (s u : State) (w : WordsStay l s u) where
  pub known_stays : (v : Val) → is_some (word_for l s v) ≡ true → is_some (word_for l u v) ≡ true
  known_stays v k = let n = some_word (word_for l s v) k in ap is_some (w.values v n.0 n.1)

  pub val_stays : (v : Val) → is_some (word_for l s v) ≡ true → val_word l u v ≡ val_word l s v
  val_stays v k = let n = some_word (word_for l s v) k in ap or_zero (w.values v n.0 n.1) ∙ sym (ap or_zero n.1)

  captured_stays : (v : Value) → is_some (captured_for l s v) ≡ true → captured_word l u v ≡ captured_word l s v
  captured_stays v k = let n = some_word (captured_for l s v) k in ap or_zero (w.captures v n.0 n.1) ∙ sym (ap or_zero n.1)

  pub all_known_stay : (vs : List Val) → AreKnown l s vs → AreKnown l u vs
  all_known_stay vs k = all_map (λ v. is_some (word_for l s v) ≡ true) (λ v. is_some (word_for l u v) ≡ true) vs known_stays k

  pub all_captured_stay : (vs : List Value) → AreCaptured l s vs → AreCaptured l u vs
  all_captured_stay vs k = all_map (λ v. is_some (captured_for l s v) ≡ true) (λ v. is_some (captured_for l u v) ≡ true) vs (λ v h. let n = some_word (captured_for l s v) h in ap is_some (w.captures v n.0 n.1)) k

  pub values_stay : (vs : List Val) → AreKnown l s vs → values l u vs ≡ values l s vs
  values_stay [] k = refl
  values_stay (v ∷ vs) k = rw (val_stays v k.0, values_stay vs k.1) refl

  pub captures_stay : (vs : List Value) → AreCaptured l s vs → captures l u vs ≡ captures l s vs
  captures_stay [] k = refl
  captures_stay (v ∷ vs) k = rw (captured_stays v k.0, captures_stay vs k.1) refl

  pub pair_contents_stay : (p : Val × Val) → AreKnown l s (parts_of p) → pair_contents l u (Some p) ≡ pair_contents l s (Some p)
  pair_contents_stay p k = rw (val_stays p.0 k.0, val_stays p.1 k.1.0) refl

module _ (l : Layout) (s u : State) (g : Adds l s u) (w : WordsStay l s u) (e : Escapes) where
  pub contents_stay : (y : Thing) → IsMade l s y → thing_contents l e u y ≡ thing_contents l e s y
  contents_stay (APair k) m = rw (m.1, g.pairs k m.0 m.1) (pair_contents_stay l s u w m.0 m.2)
  contents_stay (AVector k) m = rw (m.1, g.vectors k m.0 m.1, values_stay l s u w m.0 m.2) refl
  contents_stay (AClosure i) m = rw (m.1, g.closures i m.0 m.1, captures_stay l s u w m.0.captured m.2) refl
  contents_stay (AnObject i) m = rw (m.1, g.objects i m.0 m.1, captures_stay l s u w m.0.captured m.3, val_stays l s u w m.0.procedure m.2.0) refl
  contents_stay (AnEscape b) m = refl
  contents_stay (ACell k) m = rw (m.1, g.cells k m.0 m.1, val_stays l s u w m.0 m.2.0) refl

  pub made_stays : (y : Thing) → IsMade l s y → IsMade l u y
  made_stays (APair k) m = (m.0, g.pairs k m.0 m.1, all_known_stay l s u w (parts_of m.0) m.2)
  made_stays (AVector k) m = (m.0, g.vectors k m.0 m.1, all_known_stay l s u w m.0 m.2)
  made_stays (AClosure i) m = (m.0, g.closures i m.0 m.1, all_captured_stay l s u w m.0.captured m.2)
  made_stays (AnObject i) m = (m.0, g.objects i m.0 m.1, all_known_stay l s u w (m.0.procedure ∷ []) m.2, all_captured_stay l s u w m.0.captured m.3, m.4)
  made_stays (AnEscape b) m = le_trans m g.frames
  made_stays (ACell k) m = (m.0, g.cells k m.0 m.1, all_known_stay l s u w (m.0 ∷ []) m.2)

  pub fixed_contents_stay : (y : Fixed) → IsFixedThere l s y → fixed_contents l u y ≡ fixed_contents l s y
  fixed_contents_stay (PairOf k) m = rw (m.1, g.pairs k m.0 m.1) (pair_contents_stay l s u w m.0 m.2)
  fixed_contents_stay (ClosureOf b) m = refl
  fixed_contents_stay (BuiltinOf p) m = refl
  fixed_contents_stay (OperationOf o) m = refl
  fixed_contents_stay (TextOf t) m = refl
  fixed_contents_stay (SymbolOf n) m = refl
  fixed_contents_stay (TemplateOf t) m = refl

  pub fixed_stays : (y : Fixed) → IsFixedThere l s y → IsFixedThere l u y
  fixed_stays (PairOf k) m = (m.0, g.pairs k m.0 m.1, all_known_stay l s u w (parts_of m.0) m.2)
  fixed_stays (ClosureOf b) m = g.closures b (record { code = b; captured = [] }) m
  fixed_stays (BuiltinOf p) m = tt
  fixed_stays (OperationOf o) m = tt
  fixed_stays (TextOf t) m = g.texts t (l.bytes t) m
  fixed_stays (SymbolOf n) m = tt
  fixed_stays (TemplateOf t) m = tt

-- ---- data with more behind them

global_stays : (l : Layout) (s u : State) (w : WordsStay l s u) (held : Option Val) → ((v : Val) → held ≡ Some v → is_some (word_for l s v) ≡ true) → global_word l u held ≡ global_word l s held
global_stays l s u w None k = refl
global_stays l s u w (Some v) k = val_stays l s u w v (k v refl)

module _ (sizes : Sizes) (l : Layout) (e : Escapes) (s u : State) (old new : Regions Word) (next next' : ℕ) (output output' : List ℕ) (h : HoldsData sizes l e s old next output) (g : Adds l s u) where
  pub data_grow : new.statics ≡ old.statics → new.heap ≡ (flat_map (thing_contents l e s) s.made ++ flat_map (thing_contents l e u) g.more) ++ replicate (sizes.heap / 4 - u.store.heap) (Number 0) → u.store.heap ≡ s.store.heap + total_of (thing_words u) g.more → next' ≡ HEAP_START + 4 * u.store.heap → 4 * u.store.heap ≤ sizes.heap → AreDistinct same_thing (thing_words u) u.made → AllByRecursion (IsMade l u) g.more → u.globals ≡ s.globals → output' ≡ u.store.output → HoldsData sizes l e u new next' output'
  data_grow statics heap taken next_is room distinct made globals output_is =
      let w : WordsStay l s u = words_stay l s u g h.made in
      let contents : flat_map (thing_contents l e u) u.made ≡ flat_map (thing_contents l e s) s.made ++ flat_map (thing_contents l e u) g.more =
      ap (flat_map (thing_contents l e u)) g.made ∙ (joined_append (thing_contents l e u) s.made g.more ∙ ap (λ ws. ws ++ flat_map (thing_contents l e u) g.more) (joined_alike (thing_contents l e u) (thing_contents l e s) (IsMade l s) s.made (contents_stay l s u g w e) h.made)) in
      let fixed : flat_map (fixed_contents l u) l.fixed ≡ flat_map (fixed_contents l s) l.fixed = joined_alike (fixed_contents l u) (fixed_contents l s) (IsFixedThere l s) l.fixed (fixed_contents_stay l s u g w e) h.fixed in
      let total : total_of (thing_words u) u.made ≡ total_of (thing_words s) s.made + total_of (thing_words u) g.more =
      ap (total_of (thing_words u)) g.made ∙ (total_append (thing_words u) s.made g.more ∙ ap (λ n. n + total_of (thing_words u) g.more) (sym (total_alike (thing_words s) (thing_words u) s.made (sizes_stay l s u g h.made)))) in
      record {
        heap = heap ∙ ap (λ ws. ws ++ replicate (sizes.heap / 4 - u.store.heap) (Number 0)) (sym contents);
        taken = omega (arith, taken, total, h.taken);
        next_is = next_is;
        room = room;
        small = h.small;
        distinct = distinct;
        made = subst (AllByRecursion (IsMade l u)) (sym g.made) (all_append (IsMade l u) s.made g.more (all_map (IsMade l s) (IsMade l u) s.made (made_stays l s u g w e) h.made) made);
        pairs_apart = λ k p found. no_place l s u g h.made (APair k) (h.pairs_apart k p found) (g.pairs_apart k p found);
        laid_out = h.laid_out;
        front = h.front;
        front_length = h.front_length;
        statics = statics ∙ (h.statics ∙ ap (λ ws. h.front ++ ws) (sym fixed));
        fixed = all_map (IsFixedThere l s) (IsFixedThere l u) l.fixed (fixed_stays l s u g w e) h.fixed;
        globals = λ i held at.
            let there : slice_get s.globals i ≡ Some held = ap (λ gs. slice_get gs i) (sym globals) ∙ at in
            h.globals i held there ∙ ap (λ n. Some (Number n)) (sym (global_stays l s u w held (λ v is. h.globals_known i v (there ∙ ap Some is))));
        globals_known = λ i v at. known_stays l s u w v (h.globals_known i v (ap (λ gs. slice_get gs i) (sym globals) ∙ at));
        output_is = output_is;
      }
