-- States that have more than others.
use Rattle.std.specs.Prelude.{◌≡◌, ℕ, ◌≤◌, List, ◌++◌, length, slice_get, Some, None}
use Rattle.t_prim.specs.Values.{Val, Text, text_of}
use Rattle.frame_ir.specs.Values.{Value, Closure, Object}
use Rattle.frame_ir.specs.States.{State, Thing, APair, AClosure, thing_words}
use Rattle.frame_words.specs.Segments.{place_of}
use Rattle.frame_words.specs.Layouts.{Layout, ClosureOf, PairOf, fixed_place}
use Rattle.frame_words.specs.ValueWords.{same_thing, word_for, captured_for}

-- Words of values stay what they are.
pub record WordsStay (l : Layout) (s u : State) : Type 0 where
  pub values : (v : Val) (n : ℕ) → word_for l s v ≡ Some n → word_for l u v ≡ Some n
  pub captures : (v : Value) (n : ℕ) → captured_for l s v ≡ Some n → captured_for l u v ≡ Some n

-- The second state has all that the first one has, and behind what was made there, more. What stands in static words isn't made again.
pub record Adds (l : Layout) (s u : State) : Type 0 where
  pub more : List Thing
  pub made : u.made ≡ s.made ++ more
  pub pairs : (k : ℕ) (p : Val × Val) → slice_get s.store.pairs k ≡ Some p → slice_get u.store.pairs k ≡ Some p
  pub vectors : (k : ℕ) (items : List Val) → slice_get s.store.vectors k ≡ Some items → slice_get u.store.vectors k ≡ Some items
  pub closures : (i : ℕ) (c : Closure) → slice_get s.closures i ≡ Some c → slice_get u.closures i ≡ Some c
  pub objects : (i : ℕ) (object : Object) → slice_get s.objects i ≡ Some object → slice_get u.objects i ≡ Some object
  pub cells : (k : ℕ) (v : Val) → slice_get s.cells k ≡ Some v → slice_get u.cells k ≡ Some v
  pub frames : length s.frames ≤ length u.frames
  pub texts : (t : Text) (bytes : List ℕ) → text_of s.store t ≡ Some bytes → text_of u.store t ≡ Some bytes
  pub pairs_apart : (k p : ℕ) → fixed_place l (PairOf k) ≡ Some p → place_of same_thing (thing_words u) more (APair k) ≡ None
  pub closures_apart : (i p : ℕ) → fixed_place l (ClosureOf i) ≡ Some p → place_of same_thing (thing_words u) more (AClosure i) ≡ None
