-- Where live frames stand in the stack, and what a word of it is.
use Rattle.std.specs.Prelude.{◌≡◌, ℕ, ◌+◌, ◌-◌, ◌*◌, ◌/◌, ◌%◌, ◌<◌, ◌≤◌, ◌==◌, true, if◌then◌else◌, List, [], ◌∷◌, length, slice_get, Option, Some, None}
use Rattle.std.specs.Option.{option_map_or}
use Rattle.word_ir.specs.Word.{Word, Number}
use Rattle.word_ir.specs.Storage.{Sizes, STACK_START}
use Rattle.word_ir.specs.Stamps.{Stamp, Live}
use Rattle.frame_ir.specs.Values.{Value, Lasting, InFrame, CellAt, Frame, even, frame_words}
use Rattle.frame_ir.specs.States.{State, is_live}
use Rattle.word_trees.specs.Cores.{Core}
use Rattle.frame_words.specs.Layouts.{Layout}
use Rattle.frame_words.specs.ValueWords.{OBJECT, captured_for}

-- the address of the newest word, the words of the stack from its start on with their stamps, and the marks of those that are pushed
pub record Stack : Type 0 where
  pub top : ℕ
  pub words : List Word
  pub stamps : List Stamp
  pub live : List Live

abbrev pub stack_of : Core → Stack
stack_of c = record { top = c.top; words = c.storage.stack; stamps = c.longs.stack; live = c.live }

-- What is told by no state of frames: the block of words that begins a block, and by the birth of a frame the step that pushed its words.
pub record Ways : Type 0 where
  pub begins : ℕ → ℕ
  pub born : ℕ → ℕ

-- ---- places in words from the start of the stack on

-- the words of some frames together
abbrev pub words_of_frames : List Frame → List ℕ → ℕ
words_of_frames frames [] = 0
words_of_frames frames (birth ∷ older) = option_map_or frame_words (slice_get frames birth) 0 + words_of_frames frames older

-- where the first of some frames begins, the others stand behind it up to the stack's end
abbrev pub frames_place : Sizes → List Frame → List ℕ → ℕ
frames_place sizes frames births = sizes.stack / 4 - words_of_frames frames births

abbrev pub stack_address : ℕ → ℕ
stack_address place = STACK_START + 4 * place

-- a live frame and all that are older
abbrev pub live_from : ℕ → List ℕ → List ℕ
live_from birth [] = []
live_from birth (b ∷ older) = if b == birth then b ∷ older else live_from birth older

abbrev pub frame_place : Sizes → State → ℕ → ℕ
frame_place sizes s birth = frames_place sizes s.frames (live_from birth s.live)

abbrev pub frame_at : Sizes → State → ℕ → ℕ
frame_at sizes s birth = stack_address (frame_place sizes s birth)

-- the step that pushed the first of some frames; the stack's end is born with the run
abbrev pub born_first : Ways → List ℕ → ℕ
born_first g [] = 0
born_first g (birth ∷ older) = g.born birth

-- ---- words

-- a closure's header stands in the first even slot from its own one on
abbrev pub closure_at : Sizes → State → ℕ → ℕ → ℕ
closure_at sizes s birth slot = frame_at sizes s birth + 8 + 4 * even slot + OBJECT

-- The word of a closure in a frame: where the frame is live, its address, with the step that pushed the frame as its stamp; else
-- any word with the tag of objects.
pub record IsInFrame (sizes : Sizes) (g : Ways) (s : State) (birth slot : ℕ) (x : Word) (stamp : Stamp) : Type 0 where
  pub number : ℕ
  pub is : x ≡ Number number
  pub tag : number % 4 ≡ OBJECT
  pub pushed : birth < length s.frames
  pub address : is_live s birth ≡ true → number ≡ closure_at sizes s birth slot
  pub stamped : is_live s birth ≡ true → stamp ≡ Some (g.born birth)

-- the word of a value that needs no frame, whatever its stamp
pub record IsLasting (l : Layout) (s : State) (v : Value) (x : Word) : Type 0 where
  pub number : ℕ
  pub known : captured_for l s v ≡ Some number
  pub is : x ≡ Number number

-- a word with its stamp stands for a value
abbrev pub StandsFor : Sizes → Layout → Ways → State → Value → Word → Stamp → Type 0
StandsFor sizes l g s (Lasting v) x stamp = IsLasting l s (Lasting v) x
StandsFor sizes l g s (CellAt k) x stamp = IsLasting l s (CellAt k) x
StandsFor sizes l g s (InFrame birth slot) x stamp = IsInFrame sizes g s birth slot x stamp

-- a word of the stack that was pushed by a step and has been written since
pub record IsStored (k : Stack) (step place : ℕ) (x : Word) (stamp : Stamp) : Type 0 where
  pub reads : slice_get k.words place ≡ Some x
  pub stamped : slice_get k.stamps place ≡ Some stamp
  pub pushed : k.top ≤ stack_address place
  pub marked : slice_get k.live ((stack_address place - k.top) / 4) ≡ Some (record { birth = step; written = true })

-- ---- a frame more

-- a frame that is pushed by a step
abbrev pub pushed_at : Ways → ℕ → ℕ → Ways
pushed_at g birth step = record g { born = λ b. if b == birth then step else g.born b }

-- From its newest word on the first stack is as the second one is behind so many words.
pub record IsRaised (k raised : Stack) (count : ℕ) : Type 0 where
  pub top : raised.top + 4 * count ≡ k.top
  pub reads : (place : ℕ) → k.top ≤ stack_address place → slice_get raised.words place ≡ slice_get k.words place
  pub stamps : (place : ℕ) → k.top ≤ stack_address place → slice_get raised.stamps place ≡ slice_get k.stamps place
  pub marks : (i : ℕ) → slice_get raised.live (count + i) ≡ slice_get k.live i
