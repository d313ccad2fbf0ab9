-- What stands at the addresses of things.
use Rattle.std.proofs.Common.{◌≡◌, ℕ, ◌+◌, ◌-◌, ◌*◌, ◌/◌, ◌%◌, ◌^◌, ◌<◌, ◌≤◌, Bool, true, false, List, [], ◌∷◌, ◌++◌, length, slice_get, Some, refl, ◌∙◌, subst, arith}
use Rattle.std.specs.List.{flat_map, AllByRecursion}
use Rattle.std.proofs.lemmas.Bool.{eq-eqb, lt-ltb, le-ltb}
use Rattle.std.proofs.lemmas.Option.{slice_get_within}
use Rattle.word_ir.specs.Word.{Word}
use Rattle.word_ir.specs.Storage.{Sizes, Regions, STATICS_START, HEAP_START, STACK_START, long_at, is_in_stack}
use Rattle.frame_ir.specs.States.{State, Thing, thing_words}
use Rattle.frame_words.specs.Segments.{place_of}
use Rattle.frame_words.specs.Layouts.{Layout, Fixed, same_fixed, fixed_words, front_words, fixed_place}
use Rattle.frame_words.specs.ValueWords.{same_thing, heap_place}
use Rattle.frame_words.specs.Contents.{Escapes, thing_contents, fixed_contents}
use Rattle.frame_words.specs.Holding.{IsMade, IsFixedThere, HoldsData}
use Rattle.frame_words.proofs.Segments.{get_left, get_right, read, place_within, found, First, Later}
use Rattle.frame_words.proofs.Sizes.{thing_sized, fixed_sized, thing_sound, fixed_sound}

-- ---- addresses

pub heap_long : (storage : Regions Word) (k : ℕ) → k < 2 ^ 26 → long_at storage (HEAP_START + 4 * k) ≡ slice_get storage.heap k
heap_long storage k lt =
    let place : (HEAP_START + 4 * k - HEAP_START) / 4 ≡ k = omega arith in
    rw (eq-eqb ((HEAP_START + 4 * k) % 4) 0 (omega arith), le-ltb (HEAP_START + 4 * k) STATICS_START (omega arith), le-ltb (HEAP_START + 4 * k) HEAP_START (omega arith), lt-ltb (HEAP_START + 4 * k) STACK_START (omega (arith, lt)), place) refl

pub static_long : (storage : Regions Word) (k : ℕ) → k < 2 ^ 26 → long_at storage (STATICS_START + 4 * k) ≡ slice_get storage.statics k
static_long storage k lt =
    let place : (STATICS_START + 4 * k - STATICS_START) / 4 ≡ k = omega arith in
    rw (eq-eqb ((STATICS_START + 4 * k) % 4) 0 (omega arith), le-ltb (STATICS_START + 4 * k) STATICS_START (omega arith), lt-ltb (STATICS_START + 4 * k) HEAP_START (omega (arith, lt)), place) refl

pub outside_stack : (storage : Regions Word) (address : ℕ) → address < STACK_START → is_in_stack storage address ≡ false
outside_stack storage address lt = rw (lt-ltb address STACK_START lt) refl

-- ---- items that are found have what all have

pub holds_of : {X : Type 0} (same : X → X → Bool) (size : X → ℕ) (P : X → Type 0) (xs : List X) (x : X) (p : ℕ) → ((y z : X) → same y z ≡ true → y ≡ z) → AllByRecursion P xs → place_of same size xs x ≡ Some p → P x
holds_of same size P [] x p sound h e = absurd (cc)
holds_of same size P (y ∷ ys) x p sound h e = elim (found same size y x ys p e) [
  | First f z ↦ subst P (sound y x f) h.0
  | Later q f g z ↦ holds_of same size P ys x q sound h.1 g
]

module _ (sizes : Sizes) (l : Layout) (e : Escapes) (s : State) (storage : Regions Word) (next : ℕ) (output : List ℕ) (h : HoldsData sizes l e s storage next output) where
  pub made_is : (x : Thing) (p : ℕ) → heap_place s x ≡ Some p → IsMade l s x
  made_is x p found = holds_of same_thing (thing_words s) (IsMade l s) s.made x p thing_sound h.made found

  pub fixed_is : (x : Fixed) (p : ℕ) → fixed_place l x ≡ Some p → IsFixedThere l s x
  fixed_is x p found = holds_of same_fixed (fixed_words l) (IsFixedThere l s) l.fixed x p fixed_sound h.fixed found

  -- a thing lies whole in the heap that is in use
  pub heap_within : (x : Thing) (p : ℕ) → heap_place s x ≡ Some p → p + thing_words s x ≤ s.store.heap
  heap_within x p found = let le = place_within same_thing (thing_words s) s.made x p thing_sound found in omega (arith, le, h.taken)

  pub fixed_within : (x : Fixed) (p : ℕ) → fixed_place l x ≡ Some p → front_words l + p + fixed_words l x ≤ 2 ^ 25
  fixed_within x p found = let le = place_within same_fixed (fixed_words l) l.fixed x p fixed_sound found in omega (arith, le, h.laid_out.few)

  -- its words
  pub heap_reads : (x : Thing) (p i : ℕ) (w : Word) → heap_place s x ≡ Some p → slice_get (thing_contents l e s x) i ≡ Some w → long_at storage (HEAP_START + 4 * (p + i)) ≡ Some w
  heap_reads x p i w found at =
      let inside : i < length (thing_contents l e s x) = slice_get_within (thing_contents l e s x) i w at in
      let n = thing_sized l e s x in
      let le = heap_within x p found in
      let room : 4 * s.store.heap ≤ sizes.heap = h.room in
      let small : sizes.heap ≤ 2 ^ 28 = h.small in
      let there : slice_get (flat_map (thing_contents l e s) s.made) (p + i) ≡ Some w = read same_thing (thing_words s) (thing_contents l e s) (thing_sized l e s) thing_sound s.made x p i w found at in
      let held : slice_get storage.heap (p + i) ≡ Some w = rw h.heap (get_left _ _ (p + i) w there) in
      heap_long storage (p + i) (omega (arith, inside, n, le, room, small)) ∙ held

  pub fixed_reads : (x : Fixed) (p i : ℕ) (w : Word) → fixed_place l x ≡ Some p → slice_get (fixed_contents l s x) i ≡ Some w → long_at storage (STATICS_START + 4 * (front_words l + (p + i))) ≡ Some w
  fixed_reads x p i w found at =
      let inside : i < length (fixed_contents l s x) = slice_get_within (fixed_contents l s x) i w at in
      let n = fixed_sized l s x in
      let le = fixed_within x p found in
      let there : slice_get (flat_map (fixed_contents l s) l.fixed) (p + i) ≡ Some w = read same_fixed (fixed_words l) (fixed_contents l s) (fixed_sized l s) fixed_sound l.fixed x p i w found at in
      let behind : slice_get (h.front ++ flat_map (fixed_contents l s) l.fixed) (length h.front + (p + i)) ≡ Some w = get_right h.front _ (p + i) ∙ there in
      let same : length h.front ≡ front_words l = h.front_length in
      let held : slice_get storage.statics (front_words l + (p + i)) ≡ Some w = rw (h.statics, ← same) behind in
      static_long storage (front_words l + (p + i)) (omega (arith, inside, n, le)) ∙ held
