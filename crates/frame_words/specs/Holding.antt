-- How heap and static words hold the data of a run of code with frames.
use Rattle.std.specs.Prelude.{◌≡◌, ℕ, ◌+◌, ◌-◌, ◌*◌, ◌/◌, ◌^◌, ◌<◌, ◌≤◌, List, [], ◌∷◌, ◌++◌, length, replicate, slice_get, Option, Some, None, true, is_some}
use Rattle.std.specs.List.{AllByRecursion, flat_map}
use Rattle.std.specs.Option.{option_map_or}
use Rattle.t_prim.specs.Values.{Val, Text, PrintName, text_of}
use Rattle.word_ir.specs.Word.{Word, Number}
use Rattle.word_ir.specs.Storage.{Regions, Sizes, HEAP_START}
use Rattle.frame_ir.specs.Values.{Value, Closure, Object}
use Rattle.frame_ir.specs.States.{State, Thing, APair, AVector, AClosure, AnObject, AnEscape, ACell, thing_words}
use Rattle.frame_words.specs.Segments.{AreDistinct, total_of}
use Rattle.frame_words.specs.Layouts.{Layout, Fixed, ClosureOf, TextOf, SymbolOf, PairOf, TemplateOf, same_fixed, fixed_words, front_words, GLOBALS, fixed_place}
use Rattle.frame_words.specs.ValueWords.{same_thing, heap_place, word_for, captured_for, UNBOUND, or_zero}
use Rattle.frame_words.specs.Contents.{Escapes, thing_contents, fixed_contents}

-- ---- what the layout has

-- The words are few, nothing stands there twice, a symbol's print name stands there too, and the bytes of strings are characters.
pub record IsLaidOut (l : Layout) : Type 0 where
  pub few : front_words l + total_of (fixed_words l) l.fixed ≤ 2 ^ 25
  pub distinct : AreDistinct same_fixed (fixed_words l) l.fixed
  pub names : (n : ℕ) → is_some (fixed_place l (SymbolOf n)) ≡ true → is_some (fixed_place l (TextOf (PrintName n))) ≡ true
  pub characters : (t : Text) → is_some (fixed_place l (TextOf t)) ≡ true → AllByRecursion (λ byte. byte < 128) (l.bytes t)

-- ---- known values have words

abbrev pub AreKnown : Layout → State → List Val → Type 0
AreKnown l s vs = AllByRecursion (λ v. is_some (word_for l s v) ≡ true) vs

abbrev pub AreCaptured : Layout → State → List Value → Type 0
AreCaptured l s vs = AllByRecursion (λ v. is_some (captured_for l s v) ≡ true) vs

abbrev pub parts_of : Val × Val → List Val
parts_of p = p.0 ∷ p.1 ∷ []

-- a thing is there, and what it holds is known
abbrev pub IsMade : Layout → State → Thing → Type 0
IsMade l s (APair k) = (p : Val × Val) × (slice_get s.store.pairs k ≡ Some p) × AreKnown l s (parts_of p)
IsMade l s (AVector k) = (items : List Val) × (slice_get s.store.vectors k ≡ Some items) × AreKnown l s items
IsMade l s (AClosure i) = (c : Closure) × (slice_get s.closures i ≡ Some c) × AreCaptured l s c.captured
IsMade l s (AnObject i) =
    (object : Object) × (slice_get s.objects i ≡ Some object) × AreKnown l s (object.procedure ∷ []) × AreCaptured l s object.captured × (is_some (fixed_place l (TemplateOf object.template)) ≡ true)
IsMade l s (AnEscape b) = b < length s.frames
IsMade l s (ACell k) = (v : Val) × (slice_get s.cells k ≡ Some v) × AreKnown l s (v ∷ [])

-- of what stands in static words a pair, a string and the closure of a block are in the state
abbrev pub IsFixedThere : Layout → State → Fixed → Type 0
IsFixedThere l s (PairOf k) = (p : Val × Val) × (slice_get s.store.pairs k ≡ Some p) × AreKnown l s (parts_of p)
IsFixedThere l s (TextOf t) = text_of s.store t ≡ Some (l.bytes t)
IsFixedThere l s (ClosureOf block) = slice_get s.closures block ≡ Some (record { code = block; captured = [] })
IsFixedThere l s _ = Unit {0}

-- ---- the whole

-- a global's word; none is Unbound
abbrev pub global_word : Layout → State → Option Val → ℕ
global_word l s held = option_map_or (λ v. or_zero (word_for l s v)) held UNBOUND

-- The heap has the contents of all that was made, one behind the other, and then zeros. Static words are those that runs change, and
-- then the contents of what stands there.
pub record HoldsData (sizes : Sizes) (l : Layout) (e : Escapes) (s : State) (storage : Regions Word) (next : ℕ) (output : List ℕ) : Type 0 where
  pub heap : storage.heap ≡ flat_map (thing_contents l e s) s.made ++ replicate (sizes.heap / 4 - s.store.heap) (Number 0)
  pub taken : s.store.heap ≡ total_of (thing_words s) s.made
  pub next_is : next ≡ HEAP_START + 4 * s.store.heap
  pub room : 4 * s.store.heap ≤ sizes.heap
  pub small : sizes.heap ≤ 2 ^ 28
  pub distinct : AreDistinct same_thing (thing_words s) s.made
  pub made : AllByRecursion (IsMade l s) s.made
  -- no pair stands in both
  pub pairs_apart : (k p : ℕ) → fixed_place l (PairOf k) ≡ Some p → heap_place s (APair k) ≡ None
  pub laid_out : IsLaidOut l
  pub front : List Word
  pub front_length : length front ≡ front_words l
  pub statics : storage.statics ≡ front ++ flat_map (fixed_contents l s) l.fixed
  pub fixed : AllByRecursion (IsFixedThere l s) l.fixed
  pub globals : (g : ℕ) (held : Option Val) → slice_get s.globals g ≡ Some held → slice_get front (GLOBALS + g) ≡ Some (Number (global_word l s held))
  pub globals_known : (g : ℕ) (v : Val) → slice_get s.globals g ≡ Some (Some v) → is_some (word_for l s v) ≡ true
  pub output_is : output ≡ s.store.output
