-- What words of values tell, and what is read by way of them.
use Rattle.std.specs.Prelude.{◌≡◌, ℕ, ◌+◌, ◌-◌, ◌*◌, ◌/◌, ◌%◌, ◌≤◌, ◌==◌, List, ◌++◌, replicate, slice_get, Some, negsuc}
use Rattle.std.specs.List.{AllByRecursion, flat_map}
use Rattle.t_prim.specs.Values.{Val, Text, SymbolV, StringV, PairV, VectorV, text_of}
use Rattle.t_prim.specs.Identity.{is_same}
use Rattle.word_ir.specs.Word.{Word, Number, moved}
use Rattle.word_ir.specs.Storage.{Sizes, Regions, STATICS_START, HEAP_START, long_at}
use Rattle.frame_ir.specs.States.{State, Thing, thing_words}
use Rattle.frame_words.specs.Segments.{AreDistinct, total_of}
use Rattle.frame_words.specs.Layouts.{Layout, Fixed, front_words, fixed_place}
use Rattle.frame_words.specs.ValueWords.{same_thing, heap_place, word_for, tag_of, header_of}
use Rattle.frame_words.specs.Contents.{Escapes, thing_contents, fixed_contents}
use Rattle.frame_words.specs.Holding.{IsMade, HoldsData}
use Rattle.frame_words.specs.Growing.{WordsStay, Adds}
use Rattle.frame_words.specs.Origins.{IsRead, IsPairRead, IsVectorRead, IsTextRead, IsTextHeld, IsSymbolRead}

-- The two low bits of a value's word tell its kind.
abbrev pub TagsTellKinds : Type 0
TagsTellKinds = (l : Layout) (s : State) (v : Val) (n : ℕ) → word_for l s v ≡ Some n → n % 4 ≡ tag_of v

-- The words of a thing on the heap, and of one in static words, are those of its contents.
abbrev pub ThingsAreRead : Type 0
ThingsAreRead =
    (sizes : Sizes) (l : Layout) (e : Escapes) (s : State) (storage : Regions Word) (next : ℕ) (output : List ℕ) → HoldsData sizes l e s storage next output
    → (x : Thing) (p i : ℕ) (w : Word) → heap_place s x ≡ Some p → slice_get (thing_contents l e s x) i ≡ Some w → long_at storage (HEAP_START + 4 * (p + i)) ≡ Some w

abbrev pub FixedAreRead : Type 0
FixedAreRead =
    (sizes : Sizes) (l : Layout) (e : Escapes) (s : State) (storage : Regions Word) (next : ℕ) (output : List ℕ) → HoldsData sizes l e s storage next output
    → (x : Fixed) (p i : ℕ) (w : Word) → fixed_place l x ≡ Some p → slice_get (fixed_contents l s x) i ≡ Some w → long_at storage (STATICS_START + 4 * (front_words l + (p + i))) ≡ Some w

-- The header is read two bytes below a word with the tag of objects.
abbrev pub HeadersAreRead : Type 0
HeadersAreRead =
    (sizes : Sizes) (l : Layout) (e : Escapes) (s : State) (storage : Regions Word) (next : ℕ) (output : List ℕ) → HoldsData sizes l e s storage next output
    → (v : Val) (n header : ℕ) → word_for l s v ≡ Some n → header_of v ≡ Some header → IsRead storage (moved n (negsuc 1)) (Number header)

abbrev pub PairsAreRead : Type 0
PairsAreRead =
    (sizes : Sizes) (l : Layout) (e : Escapes) (s : State) (storage : Regions Word) (next : ℕ) (output : List ℕ) → HoldsData sizes l e s storage next output
    → (k n : ℕ) → word_for l s (PairV k) ≡ Some n → IsPairRead l s storage k n

abbrev pub VectorsAreRead : Type 0
VectorsAreRead =
    (sizes : Sizes) (l : Layout) (e : Escapes) (s : State) (storage : Regions Word) (next : ℕ) (output : List ℕ) → HoldsData sizes l e s storage next output
    → (k n : ℕ) → word_for l s (VectorV k) ≡ Some n → IsVectorRead l s storage k n

abbrev pub TextsAreRead : Type 0
TextsAreRead =
    (sizes : Sizes) (l : Layout) (e : Escapes) (s : State) (storage : Regions Word) (next : ℕ) (output : List ℕ) → HoldsData sizes l e s storage next output
    → (t : Text) (n : ℕ) → word_for l s (StringV t) ≡ Some n → IsTextRead s storage t n

abbrev pub TextsAreHeld : Type 0
TextsAreHeld =
    (sizes : Sizes) (l : Layout) (e : Escapes) (s : State) (storage : Regions Word) (next : ℕ) (output : List ℕ) → HoldsData sizes l e s storage next output
    → (t : Text) (n : ℕ) (bytes : List ℕ) → word_for l s (StringV t) ≡ Some n → text_of s.store t ≡ Some bytes → IsTextHeld storage bytes n

abbrev pub SymbolsAreRead : Type 0
SymbolsAreRead =
    (sizes : Sizes) (l : Layout) (e : Escapes) (s : State) (storage : Regions Word) (next : ℕ) (output : List ℕ) → HoldsData sizes l e s storage next output
    → (name n : ℕ) → word_for l s (SymbolV name) ≡ Some n → IsSymbolRead l s storage name n

-- Words of values stay where a state has more than another one, and so do the data, with the contents of what is made behind those of what was.
abbrev pub AddingKeepsWords : Type 0
AddingKeepsWords = (l : Layout) (s u : State) → Adds l s u → AllByRecursion (IsMade l s) s.made → WordsStay l s u

abbrev pub AddingKeepsData : Type 0
AddingKeepsData =
    (sizes : Sizes) (l : Layout) (e : Escapes) (s u : State) (old new : Regions Word) (next next' : ℕ) (output output' : List ℕ) → HoldsData sizes l e s old next output
    → (g : Adds l s u) → new.statics ≡ old.statics
    → new.heap ≡ (flat_map (thing_contents l e s) s.made ++ flat_map (thing_contents l e u) g.more) ++ replicate (sizes.heap / 4 - u.store.heap) (Number 0)
    → u.store.heap ≡ s.store.heap + total_of (thing_words u) g.more → next' ≡ HEAP_START + 4 * u.store.heap → 4 * u.store.heap ≤ sizes.heap
    → AreDistinct same_thing (thing_words u) u.made → AllByRecursion (IsMade l u) g.more → u.globals ≡ s.globals → output' ≡ u.store.output → HoldsData sizes l e u new next' output'

-- Words are equal where values are one thing.
abbrev pub WordsTellValues : Type 0
WordsTellValues =
    (sizes : Sizes) (l : Layout) (e : Escapes) (s : State) (storage : Regions Word) (next : ℕ) (output : List ℕ) → HoldsData sizes l e s storage next output
    → (v w : Val) (n m : ℕ) → word_for l s v ≡ Some n → word_for l s w ≡ Some m → (n == m) ≡ is_same v w
