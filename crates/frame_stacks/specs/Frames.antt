-- How stack, static words and variables hold the live frames of a state and the values of its variables.
use Rattle.std.specs.Prelude.{◌≡◌, ℕ, ◌+◌, ◌-◌, ◌*◌, ◌/◌, ◌%◌, ◌^◌, ◌<◌, ◌≤◌, Bool, true, false, if◌then◌else◌, List, [], ◌∷◌, length, slice_get, Option, Some, None, is_some}
use Rattle.std.specs.List.{AllByRecursion}
use Rattle.std.specs.Option.{option_map_or}
use Rattle.t_prim.specs.Values.{EscapeV}
use Rattle.word_ir.specs.Word.{Word, Number, Code}
use Rattle.word_ir.specs.Storage.{Sizes, Regions, static_at, long_at}
use Rattle.word_ir.specs.State.{Own, kept}
use Rattle.word_ir.specs.Stamps.{Stamp}
use Rattle.frame_ir.specs.Values.{Value, Closure, Frame, Env, even, frame_words, captured_from, closure_in, value_in, value_at}
use Rattle.frame_ir.specs.States.{State, AnEscape, AClosure, is_live, older_than}
use Rattle.word_trees.specs.Cores.{Core, some_stamp}
use Rattle.frame_words.specs.Layouts.{Layout, ClosureOf, INNER, fixed_place}
use Rattle.frame_words.specs.ValueWords.{NIL, heap_place, val_word}
use Rattle.frame_words.specs.Contents.{Escapes}
use Rattle.frame_words.specs.Holding.{HoldsData}
use Rattle.frame_stacks.specs.Stacks.{Stack, Ways, stack_of, words_of_frames, frames_place, stack_address, frame_at, born_first, StandsFor, IsStored}

-- ---- one frame, whose first word has a place

-- a slot with the word of a value
pub record HoldsSlot (sizes : Sizes) (l : Layout) (g : Ways) (s : State) (k : Stack) (birth place : ℕ) (f : Frame) (slot : ℕ) (v : Value) : Type 0 where
  pub within : slot < f.size
  pub word : Word
  pub stamp : Stamp
  pub stored : IsStored k (g.born birth) (place + (2 + slot)) word stamp
  pub stands : StandsFor sizes l g s v word stamp

-- The way back, the address of the next frame, the slots, and in them the records of closures, up to an even count. A CATCH's frame has
-- no slots.
pub record HoldsFrame (sizes : Sizes) (l : Layout) (g : Ways) (s : State) (k : Stack) (birth : ℕ) (older : List ℕ) (place : ℕ) (f : Frame) : Type 0 where
  pub back : IsStored k (g.born birth) place (Code (g.begins f.back)) None
  pub next : IsStored k (g.born birth) (place + 1) (Number (stack_address (frames_place sizes s.frames older))) (Some (born_first g older))
  pub slots : (slot : ℕ) (v : Value) → value_in f slot ≡ Some v → HoldsSlot sizes l g s k birth place f slot v
  pub headers : (slot : ℕ) (c : Closure) → closure_in f.inner slot ≡ Some c → IsStored k (g.born birth) (place + (2 + even slot)) (Number 0x1D) None
  pub codes : (slot : ℕ) (c : Closure) → closure_in f.inner slot ≡ Some c → IsStored k (g.born birth) (place + (3 + even slot)) (Code (l.closure_entry c.code)) None
  pub captured : (slot i : ℕ) (c : Closure) (v : Value) → closure_in f.inner slot ≡ Some c → slice_get c.captured i ≡ Some v → HoldsSlot sizes l g s k birth place f (captured_from slot + i) v
  pub marks : (i : ℕ) → i < frame_words f → (written : Bool) × (slice_get k.live ((stack_address (place + i) - k.top) / 4) ≡ Some (record { birth = g.born birth; written = written }))
  pub catches : f.catch ≡ true → f.size ≡ 0

-- ---- all live frames

-- a frame is younger than those behind it
abbrev pub HoldsAll : Sizes → Layout → Ways → State → Stack → List ℕ → Type 0
HoldsAll sizes l g s k [] = Unit {0}
HoldsAll sizes l g s k (birth ∷ older) =
    (f : Frame) × (slice_get s.frames birth ≡ Some f) × AllByRecursion (λ b. b < birth) older × HoldsFrame sizes l g s k birth older (frames_place sizes s.frames (birth ∷ older)) f
    × HoldsAll sizes l g s k older

-- From its newest word on the stack has the live frames, the youngest first, and nothing else.
pub record HoldsFrames (sizes : Sizes) (l : Layout) (g : Ways) (s : State) (k : Stack) : Type 0 where
  pub whole : sizes.stack % 4 ≡ 0
  pub small : sizes.stack ≤ 2 ^ 28
  pub room : words_of_frames s.frames s.live ≤ sizes.stack / 4
  pub top : k.top ≡ stack_address (frames_place sizes s.frames s.live)
  pub words : length k.words ≡ sizes.stack / 4
  pub stamps : length k.stamps ≡ sizes.stack / 4
  pub marks : length k.live ≡ words_of_frames s.frames s.live
  pub frames : HoldsAll sizes l g s k s.live

-- ---- escapes

abbrev pub is_catch : State → ℕ → Bool
is_catch s birth = option_map_or (λ f. f.catch) (slice_get s.frames birth) false

-- the word of the escape of the youngest CATCH among some frames, or Nil
abbrev pub inner_word : Layout → State → List ℕ → ℕ
inner_word l s [] = NIL
inner_word l s (birth ∷ older) = if is_catch s birth then val_word l s (EscapeV birth) else inner_word l s older

-- A static word has the innermost live escape. A live escape has the address of its frame, with the step that pushed it as its stamp, and the
-- escape around it; one that is dead has 0. What stands in static words isn't made on the heap.
pub record HoldsEscapes (sizes : Sizes) (l : Layout) (e : Escapes) (g : Ways) (s : State) (c : Core) : Type 0 where
  pub inner : long_at c.storage (static_at INNER) ≡ Some (Number (inner_word l s s.live))
  pub made : (birth : ℕ) → is_live s birth ≡ true → is_catch s birth ≡ true → is_some (heap_place s (AnEscape birth)) ≡ true
  pub frames : (birth p : ℕ) → heap_place s (AnEscape birth) ≡ Some p → e.frame birth ≡ (if is_live s birth then frame_at sizes s birth else 0)
  pub caught : (birth p : ℕ) → heap_place s (AnEscape birth) ≡ Some p → is_catch s birth ≡ true
  pub outer : (birth : ℕ) → is_live s birth ≡ true → is_catch s birth ≡ true → e.outer birth ≡ inner_word l s (older_than birth s.live)
  pub stamps : (birth p : ℕ) → heap_place s (AnEscape birth) ≡ Some p → is_live s birth ≡ true → slice_get c.longs.heap (p + 1) ≡ Some (Some (g.born birth))
  pub closures_apart : (i p : ℕ) → fixed_place l (ClosureOf i) ≡ Some p → heap_place s (AClosure i) ≡ None

-- ---- variables

-- a variable with a number below t is bound to a word of its value
pub record HoldsVariable (sizes : Sizes) (l : Layout) (g : Ways) (t : ℕ) (s : State) (c : Core) (x : ℕ) (v : Value) : Type 0 where
  pub older : x < t
  pub word : Word
  pub stamp : Stamp
  pub held : kept c.env (Own x) ≡ Some word
  pub stamped : some_stamp (kept c.stamps (Own x)) ≡ stamp
  pub stands : StandsFor sizes l g s v word stamp

pub record HoldsVariables (sizes : Sizes) (l : Layout) (g : Ways) (t : ℕ) (s : State) (env : Env) (c : Core) : Type 0 where
  pub each : (x : ℕ) (v : Value) → value_at env x ≡ Some v → HoldsVariable sizes l g t s c x v

-- ---- the whole

pub record Holds (sizes : Sizes) (l : Layout) (e : Escapes) (g : Ways) (t : ℕ) (s : State) (env : Env) (c : Core) : Type 0 where
  pub data_held : HoldsData sizes l e s c.storage c.next c.output
  pub frames : HoldsFrames sizes l g s (stack_of c)
  pub escapes : HoldsEscapes sizes l e g s c
  pub variables : HoldsVariables sizes l g t s env c
