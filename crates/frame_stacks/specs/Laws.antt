-- What operations on frames come to.
use Rattle.std.specs.Prelude.{◌≡◌, ℕ, ◌+◌, ◌*◌, ◌/◌, ◌%◌, ◌^◌, ◌<◌, ◌≤◌, List, [], ◌∷◌, length, replicate, slice_get, Some, None, true, false}
use Rattle.program_runs.specs.Runs.{Full}
use Rattle.t_base.specs.declared.basics.Var.{Var}
use Rattle.std.specs.List.{AllByRecursion}
use Rattle.word_ir.specs.declared.operands.Operand.{Operand}
use Rattle.word_ir.specs.declared.words.WordBlock.{WordBlock}
use Rattle.word_ir.specs.declared.words.Words.{Words}
use Rattle.word_ir.specs.Word.{Word, Number}
use Rattle.word_ir.specs.Storage.{Sizes, Regions, STACK_START}
use Rattle.word_ir.specs.Step.{words_in}
use Rattle.word_ir.specs.Stamps.{Stamp, Stamped}
use Rattle.frame_ir.specs.Values.{Value, Frame, Env, value_in, frame_words}
use Rattle.frame_ir.specs.States.{State, with_live, with_frame}
use Rattle.frame_ir.specs.Arguments.{bound}
use Rattle.word_trees.specs.Trees.{Tree, Spells}
use Rattle.word_trees.specs.Cores.{Core, at, ended, stack_left, word_in, stamp_in}
use Rattle.word_trees.specs.Leads.{Performs}
use Rattle.frame_words.specs.Layouts.{Layout}
use Rattle.frame_words.specs.Contents.{Escapes}
use Rattle.frame_words.specs.Holding.{HoldsData}
use Rattle.select_rows.specs.Kept.{IsOlder}
use Rattle.frame_stacks.specs.Stacks.{Stack, Ways, words_of_frames, StandsFor, pushed_at, IsRaised}
use Rattle.frame_stacks.specs.Frames.{HoldsAll, HoldsFrames, Holds}
use Rattle.frame_stacks.specs.Codes.{frame_get, pop_frame, push_frame, jump, give_back}

-- ---- at first

abbrev pub first_stack : Sizes → Stack
first_stack sizes = record { top = STACK_START + sizes.stack; words = replicate (sizes.stack / 4) (Number 0); stamps = replicate (sizes.stack / 4) None; live = [] }

abbrev pub NoFramesAreHeld : Type 0
NoFramesAreHeld = (sizes : Sizes) (l : Layout) (g : Ways) (s : State) → sizes.stack % 4 ≡ 0 → sizes.stack ≤ 2 ^ 28 → s.live ≡ [] → HoldsFrames sizes l g s (first_stack sizes)

-- ---- operations

-- to the rest, where a state and the values of variables are held
pub record GoesOn (words : Words) (sizes : Sizes) (l : Layout) (e : Escapes) (g : Ways) (t : ℕ) (s : State) (env : Env) (rest : Tree) (x : Stamped) : Type 0 where
  pub core : Core
  pub holds : Holds sizes l e g t s env core
  pub block : ℕ
  pub place : ℕ
  pub moves : ℕ
  pub steps : ℕ
  pub there : x ≡ at core block place moves steps
  pub spelled : Spells words block place rest

abbrev pub FrameGetsArePerformed : Type 0
FrameGetsArePerformed =
    (words : Words) (sizes : Sizes) (l : Layout) (e : Escapes) (g : Ways) (t : ℕ) (s : State) (env : Env) (c : Core) (to : Var) (slot birth : ℕ) (older : List ℕ) (f : Frame) (v : Value) (rest : Tree)
    → Holds sizes l e g t s env c → s.live ≡ birth ∷ older → slice_get s.frames birth ≡ Some f → value_in f slot ≡ Some v → to.0 < t
    → Performs words sizes (GoesOn words sizes l e g t s ((to.0, v) ∷ env) rest) 1 2 (frame_get to slot rest) c

-- the youngest frame, a Push's, is gone
abbrev pub PopsArePerformed : Type 0
PopsArePerformed =
    (words : Words) (sizes : Sizes) (l : Layout) (e : Escapes) (g : Ways) (t : ℕ) (s : State) (env : Env) (c : Core) (birth : ℕ) (older : List ℕ) (f : Frame) (rest : Tree)
    → Holds sizes l e g t s env c → s.live ≡ birth ∷ older → slice_get s.frames birth ≡ Some f → f.catch ≡ false
    → Performs words sizes (GoesOn words sizes l e g t (with_live s older) env rest) 1 4 (pop_frame t rest) c

-- The run has ended for want of stack: what was asked for, the bytes of the frame, is more than the live frames leave. Nothing has changed.
pub record IsOutOfStack (sizes : Sizes) (s : State) (c : Core) (f : Frame) (x : Stamped) : Type 0 where
  pub left : ℕ
  pub room : left + 4 * words_of_frames s.frames s.live ≡ sizes.stack
  pub lacking : left < 4 * frame_words f
  pub block : ℕ
  pub place : ℕ
  pub moves : ℕ
  pub steps : ℕ
  pub there : x ≡ ended c block place moves steps (Some (Full true (4 * frame_words f) left))

abbrev pub PushesEnd : Type 0
PushesEnd =
    (words : Words) (sizes : Sizes) (l : Layout) (e : Escapes) (g : Ways) (t : ℕ) (s : State) (env : Env) (c : Core) (f : Frame) (kept : List Operand) (rest : Tree)
    → Holds sizes l e g t s env c → stack_left c < 4 * frame_words f → Performs words sizes (IsOutOfStack sizes s c f) 1 4 (push_frame (g.begins f.back) (frame_words f) kept rest) c

-- The data say nothing of frames.
abbrev pub FramesKeepData : Type 0
FramesKeepData =
    (sizes : Sizes) (l : Layout) (e : Escapes) (s : State) (f : Frame) (storage : Regions Word) (next : ℕ) (output : List ℕ) → HoldsData sizes l e s storage next output → HoldsData sizes l e (with_frame s f) storage next output

-- where a frame more is pushed by a step, the frames that were live are held by the raised stack
abbrev pub RaisingKeepsFrames : Type 0
RaisingKeepsFrames =
    (sizes : Sizes) (l : Layout) (g : Ways) (s : State) (f : Frame) (k raised : Stack) (step : ℕ) → HoldsFrames sizes l g s k → IsRaised k raised (frame_words f)
    → HoldsAll sizes l (pushed_at g (length s.frames) step) (with_frame s f) raised s.live

-- ---- going to a block

-- an operand with the word of a value, which isn't changed by what is bound from t on
pub record HasValue (words : Words) (sizes : Sizes) (l : Layout) (g : Ways) (t : ℕ) (s : State) (c : Core) (x : Operand) (v : Value) : Type 0 where
  pub word : Word
  pub stamp : Stamp
  pub held : word_in c x ≡ Some word
  pub stamped : stamp_in (words_in words sizes) c x ≡ stamp
  pub stands : StandsFor sizes l g s v word stamp
  pub older : IsOlder t x

-- as many operands as values, each with its own
abbrev pub HaveValues : Words → Sizes → Layout → Ways → ℕ → State → Core → List Operand → List Value → Type 0
HaveValues words sizes l g t s c [] [] = Unit {0}
HaveValues words sizes l g t s c [] (v ∷ vs) = ⊥
HaveValues words sizes l g t s c (x ∷ xs) [] = ⊥
HaveValues words sizes l g t s c (x ∷ xs) (v ∷ vs) = HasValue words sizes l g t s c x v × HaveValues words sizes l g t s c xs vs

-- parameters have numbers below t, and none is there twice
abbrev pub AreParameters : ℕ → List Var → Type 0
AreParameters t [] = Unit {0}
AreParameters t (x ∷ xs) = (x.0 < t) × AllByRecursion (λ y. x.0 ≡ y.0 → ⊥) xs × AreParameters t xs

-- to the start of a block
pub record Begins (sizes : Sizes) (l : Layout) (e : Escapes) (g : Ways) (t : ℕ) (s : State) (env : Env) (block : ℕ) (x : Stamped) : Type 0 where
  pub core : Core
  pub holds : Holds sizes l e g t s env core
  pub moves : ℕ
  pub steps : ℕ
  pub there : x ≡ at core (g.begins block) 0 moves steps

abbrev pub JumpsArePerformed : Type 0
JumpsArePerformed =
    (words : Words) (sizes : Sizes) (l : Layout) (e : Escapes) (g : Ways) (t : ℕ) (s : State) (env : Env) (c : Core) (block : ℕ) (target : WordBlock) (args : List Operand) (vs : List Value)
    → Holds sizes l e g t s env c → HaveValues words sizes l g t s c args vs → slice_get words.blocks.items (g.begins block) ≡ Some target → length target.params ≡ length vs → AreParameters t target.params
    → Performs words sizes (Begins sizes l e g t s (bound target.params vs) block) 1 (1 + length args) (jump (g.begins block) args) c

-- the frame stays until the block to which it goes back pops it
abbrev pub ReturnsArePerformed : Type 0
ReturnsArePerformed =
    (words : Words) (sizes : Sizes) (l : Layout) (e : Escapes) (g : Ways) (t : ℕ) (s : State) (env : Env) (c : Core) (birth : ℕ) (older : List ℕ) (f : Frame) (target : WordBlock) (x : Operand) (v : Value)
    → Holds sizes l e g t s env c → HasValue words sizes l g t s c x v → s.live ≡ birth ∷ older → slice_get s.frames birth ≡ Some f
    → slice_get words.blocks.items (g.begins f.back) ≡ Some target → length target.params ≡ 1 → AreParameters t target.params
    → Performs words sizes (Begins sizes l e g t s (bound target.params (v ∷ [])) f.back) 1 5 (give_back t x) c
