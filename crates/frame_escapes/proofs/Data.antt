-- The data, where an escape ends.
use Rattle.std.proofs.Common.{◌≡◌, ℕ, ◌+◌, ◌-◌, ◌/◌, ◌<◌, ◌≤◌, ◌==◌, Bool, true, false, if◌then◌else◌, List, [], ◌∷◌, ◌++◌, length, replicate, slice_set, Option, Some, None, is_some, option_map, refl, sym, ap, ◌∙◌, arith}
use Rattle.std.specs.List.{AllByRecursion, flat_map}
use Rattle.std.proofs.lemmas.Bool.{eq-eqb}
use Rattle.std.proofs.lemmas.List.{set-append_left}
use Rattle.word_ir.specs.Word.{Word, Number}
use Rattle.word_ir.specs.Storage.{Regions, Sizes}
use Rattle.frame_ir.specs.States.{State, Thing, APair, AVector, AClosure, AnObject, AnEscape, ACell, thing_words}
use Rattle.frame_words.specs.Segments.{place_of}
use Rattle.frame_words.specs.Layouts.{Layout}
use Rattle.frame_words.specs.ValueWords.{same_thing, heap_place}
use Rattle.frame_words.specs.Contents.{Escapes, thing_contents}
use Rattle.frame_words.specs.Holding.{HoldsData}
use Rattle.frame_words.proofs.Segments.{first_place, changed}
use Rattle.frame_words.proofs.Sizes.{thing_sized, thing_sound, thing_same}
use Rattle.frame_words.proofs.Growing.{all_map, joined_alike}
use Rattle.frame_words.proofs.Reading.{heap_within}
use Rattle.frame_words.proofs.Changing.{joined_length}

-- ---- all that was made has a place

later_by : (b : Bool) (o : Option ℕ) (n : ℕ) → is_some o ≡ true → is_some (if b then Some 0 else option_map (λ k. n + k) o) ≡ true
later_by true o n h = refl
later_by false (Some k) n h = refl
later_by false None n h = absurd (cc)

later_found : (size : Thing → ℕ) (x y : Thing) (xs : List Thing) → is_some (place_of same_thing size xs y) ≡ true → is_some (place_of same_thing size (x ∷ xs) y) ≡ true
later_found size x y xs h = later_by (same_thing x y) (place_of same_thing size xs y) (size x) h

all_found : (size : Thing → ℕ) (xs : List Thing) → AllByRecursion (λ y. is_some (place_of same_thing size xs y) ≡ true) xs
all_found size [] = tt
all_found size (x ∷ xs) = (
  ap is_some (first_place same_thing size x x xs (thing_same x)),
  all_map (λ y. is_some (place_of same_thing size xs y) ≡ true) (λ y. is_some (place_of same_thing size (x ∷ xs) y) ≡ true) xs (λ y h. later_found size x y xs h) (all_found size xs),
)

found_by : (o : Option ℕ) → is_some o ≡ true → (p : ℕ) × (o ≡ Some p)
found_by (Some p) h = (p, refl)
found_by None h = absurd (cc)

-- ---- what isn't told by the state

-- two accounts of escapes agree on those that were made
pub record AgreeOnMade (s : State) (e e' : Escapes) : Type 0 where
  pub frames : (b p : ℕ) → heap_place s (AnEscape b) ≡ Some p → e'.frame b ≡ e.frame b
  pub outers : (b p : ℕ) → heap_place s (AnEscape b) ≡ Some p → e'.outer b ≡ e.outer b

pub data_alike : (sizes : Sizes) (l : Layout) (e e' : Escapes) (s : State) (storage : Regions Word) (next : ℕ) (output : List ℕ) → AgreeOnMade s e e' → HoldsData sizes l e s storage next output → HoldsData sizes l e' s storage next output
data_alike sizes l e e' s storage next output a h = record {
  heap = h.heap ∙ ap (λ ws. ws ++ replicate (sizes.heap / 4 - s.store.heap) (Number 0)) (joined_alike (thing_contents l e s) (thing_contents l e' s) (λ y. is_some (heap_place s y) ≡ true) s.made contents (all_found (thing_words s) s.made));
  taken = h.taken;
  next_is = h.next_is;
  room = h.room;
  small = h.small;
  distinct = h.distinct;
  made = h.made;
  pairs_apart = h.pairs_apart;
  laid_out = h.laid_out;
  front = h.front;
  front_length = h.front_length;
  statics = h.statics;
  fixed = h.fixed;
  globals = h.globals;
  globals_known = h.globals_known;
  output_is = h.output_is;
}
  where
    contents : (y : Thing) → is_some (heap_place s y) ≡ true → thing_contents l e s y ≡ thing_contents l e' s y
    contents (APair k) there = refl
    contents (AVector k) there = refl
    contents (AClosure k) there = refl
    contents (AnObject k) there = refl
    contents (ACell k) there = refl
    contents (AnEscape b) there =
        let p = found_by (heap_place s (AnEscape b)) there in
        ap (λ n. Number 0x2D ∷ Number n ∷ Number (e.outer b) ∷ Number 0 ∷ []) (sym (a.frames b p.0 p.1))
        ∙ ap (λ n. Number 0x2D ∷ Number (e'.frame b) ∷ Number n ∷ Number 0 ∷ []) (sym (a.outers b p.0 p.1))

-- ---- one escape ends

abbrev pub without : Escapes → ℕ → Escapes
without e birth = record { frame = λ b. if b == birth then 0 else e.frame b; outer = e.outer }

module _ (sizes : Sizes) (l : Layout) (e : Escapes) (s : State) (storage : Regions Word) (next : ℕ) (output : List ℕ) (h : HoldsData sizes l e s storage next output) (birth place : ℕ) (found : heap_place s (AnEscape birth) ≡ Some place) where
  pub inside : place + 4 ≤ s.store.heap
  inside = heap_within sizes l e s storage next output h (AnEscape birth) place found

  others : (y : Thing) → same_thing y (AnEscape birth) ≡ false → thing_contents l (without e birth) s y ≡ thing_contents l e s y
  others (APair k) d = refl
  others (AVector k) d = refl
  others (AClosure k) d = refl
  others (AnObject k) d = refl
  others (ACell k) d = refl
  others (AnEscape b) d = rw d refl

  this : thing_contents l (without e birth) s (AnEscape birth) ≡ slice_set (thing_contents l e s (AnEscape birth)) 1 (Number 0)
  this = rw (eq-eqb birth birth refl) refl

  pub escape_ended : HoldsData sizes l (without e birth) s (record storage { heap = slice_set storage.heap (place + 1) (Number 0) }) next output
  escape_ended =
      let short : place + 1 < length (flat_map (thing_contents l e s) s.made) = omega (arith, inside, h.taken, joined_length (thing_contents l e s) (thing_words s) s.made (thing_sized l e s)) in
      let enough : 1 < thing_words s (AnEscape birth) = omega arith in
      let new : flat_map (thing_contents l (without e birth) s) s.made ≡ slice_set (flat_map (thing_contents l e s) s.made) (place + 1) (Number 0) =
      changed same_thing (thing_words s) (thing_contents l e s) (thing_sized l e s) thing_sound (thing_contents l (without e birth) s) (AnEscape birth) 1 (Number 0) others this enough s.made place h.distinct found in
      record {
        heap = ap (λ ws. slice_set ws (place + 1) (Number 0)) h.heap ∙ (set-append_left (flat_map (thing_contents l e s) s.made) (replicate (sizes.heap / 4 - s.store.heap) (Number 0)) (place + 1) (Number 0) short ∙ ap (λ ws. ws ++ replicate (sizes.heap / 4 - s.store.heap) (Number 0)) (sym new));
        taken = h.taken;
        next_is = h.next_is;
        room = h.room;
        small = h.small;
        distinct = h.distinct;
        made = h.made;
        pairs_apart = h.pairs_apart;
        laid_out = h.laid_out;
        front = h.front;
        front_length = h.front_length;
        statics = h.statics;
        fixed = h.fixed;
        globals = h.globals;
        globals_known = h.globals_known;
        output_is = h.output_is;
      }
