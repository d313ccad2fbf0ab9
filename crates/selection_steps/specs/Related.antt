-- Where a program of words stands while a program with frames is in some state.
use Rattle.std.specs.Prelude.{◌≡◌, ℕ, ◌-◌, ◌≤◌, ◌⊎◌, List, [], ◌∷◌, length, map, slice_get, Some, Contains}
use Rattle.std.specs.List.{AllByRecursion}
use Rattle.program_runs.specs.Runs.{End}
use Rattle.program_runs.specs.Follows.{after}
use Rattle.t_base.specs.declared.builtins.Builtin.{Builtin}
use Rattle.t_prim.specs.Values.{Val, ClosureV, BuiltinV}
use Rattle.word_ir.specs.Marked.{MarksFit}
use Rattle.word_ir.specs.Ranges.{IsInPlace}
use Rattle.word_ir.specs.Step.{words_in}
use Rattle.word_ir.specs.Stamps.{Stamped}
use Rattle.frame_ir.specs.declared.forms.Block.{Block}
use Rattle.frame_ir.specs.declared.forms.FrameOp.{FrameOp}
use Rattle.frame_ir.specs.declared.forms.FrameEnd.{FrameEnd}
use Rattle.frame_ir.specs.Values.{Value, Lasting, Closure, Frame, Env}
use Rattle.frame_ir.specs.States.{Doing, Running, Calling, Looking, Entering, Ended, Stale, Wrong, State, Thing, AClosure}
use Rattle.frame_ir.specs.Parts.{method_codes}
use Rattle.frame_ir.specs.Running.{step, start}
use Rattle.word_trees.specs.Trees.{Tree, Spells}
use Rattle.word_trees.specs.Cores.{Core, at}
use Rattle.frame_words.specs.Contents.{Escapes}
use Rattle.frame_stacks.specs.Stacks.{Ways}
use Rattle.frame_stacks.specs.Frames.{Holds}
use Rattle.frame_calls.specs.Codes.{call_params, entry_code}
use Rattle.frame_calls.specs.Calls.{Calls}
use Rattle.frame_methods.specs.Laws.{method_code}
use Rattle.frame_operations.specs.Calls.{Looks}
use Rattle.frame_ends.specs.Laws.{EndsWith}
use Rattle.frame_dispatch.specs.Codes.{builtin_code}
use Rattle.word_selection.specs.Codes.{IsCode}
use Rattle.word_selection.specs.Selections.{IsEntry, IsClosureCode}
use Rattle.selection_steps.specs.Settings.{Setting, choice_of, layout_of, AreFit, IsFitEnd}

abbrev pub ways_of : Setting → (ℕ → ℕ) → Ways
ways_of m born = record { begins = (choice_of m).begins; born = born }

-- ---- in a block

pub record Runs (m : Setting) (s : State) (ops : List FrameOp) (last : FrameEnd) (env : Env) (x : Stamped) : Type 0 where
  pub escapes : Escapes
  pub born : ℕ → ℕ
  pub core : Core
  pub holds : Holds m.sizes (layout_of m) escapes (ways_of m born) (choice_of m).free s env core
  pub tree : Tree
  pub code : IsCode (choice_of m) m.p.shared ops last tree
  pub fits : AreFit m ops
  pub fits_end : IsFitEnd m last
  pub block : ℕ
  pub place : ℕ
  pub moves : ℕ
  pub steps : ℕ
  pub spelled : Spells m.words block place tree
  pub there : x ≡ at core block place moves steps

-- ---- at a call

-- at the start of a block whose parameters are those of calls from some number on
pub record CallsAt (m : Setting) (s : State) (f : Value) (args : List Val) (t target : ℕ) (x : Stamped) : Type 0 where
  pub escapes : Escapes
  pub born : ℕ → ℕ
  pub calls : Calls m.sizes (layout_of m) escapes (ways_of m born) t s f args target x

-- at the entry of the closure that is called
pub record CallsClosure (m : Setting) (s : State) (f : Value) (args : List Val) (x : Stamped) : Type 0 where
  pub i : ℕ
  pub closure : Closure
  pub block : Block
  pub is : f ≡ Lasting (ClosureV i)
  pub there : slice_get s.closures i ≡ Some closure
  pub found : slice_get m.p.blocks.items closure.code ≡ Some block
  pub entry : IsEntry (choice_of m) m.words ((layout_of m).closure_entry closure.code) call_params (λ t. entry_code t (length block.params - 1) ((choice_of m).begins closure.code))
  pub calls : CallsAt m s f args entry.t ((layout_of m).closure_entry closure.code) x

-- at that of a builtin
pub record CallsBuiltin (m : Setting) (s : State) (f : Value) (args : List Val) (x : Stamped) : Type 0 where
  pub b : Builtin
  pub is : f ≡ Lasting (BuiltinV b)
  pub entry : IsEntry (choice_of m) m.words ((layout_of m).builtin_entry b) call_params (λ t. builtin_code t b)
  pub calls : CallsAt m s f args entry.t ((layout_of m).builtin_entry b) x

-- at one of these, or at the block for what isn't known
abbrev pub IsCalling : Setting → State → Value → List Val → Stamped → Type 0
IsCalling m s f args x = CallsAt m s f args m.selected.blocks.apply.t (choice_of m).apply x ⊎ (CallsClosure m s f args x ⊎ CallsBuiltin m s f args x)

-- ---- at an operation

-- at the loop, with methods that are left and an operand at least
pub record LooksAt (m : Setting) (s : State) (o : ℕ) (methods : List (ℕ × ℕ)) (args : List Val) (x : Stamped) : Type 0 where
  pub escapes : Escapes
  pub born : ℕ → ℕ
  pub first : Val
  pub others : List Val
  pub are : args ≡ first ∷ others
  pub codes : AllByRecursion (λ k. Contains (method_codes m.p) k.1) methods
  pub looks : Looks m.sizes (layout_of m) escapes (ways_of m born) m.selected.blocks.look.t s o methods args (choice_of m).look x

-- at the entry of a method, and of a default
pub record EntersMethod (m : Setting) (s : State) (code : ℕ) (vs : List Value) (x : Stamped) : Type 0 where
  pub f : Value
  pub args : List Val
  pub are : vs ≡ map Lasting args
  pub block : Block
  pub found : slice_get m.p.blocks.items code ≡ Some block
  pub entry : IsEntry (choice_of m) m.words ((layout_of m).method_entry code) call_params (λ t. method_code t (length block.params) ((choice_of m).begins code))
  pub calls : CallsAt m s f args entry.t ((layout_of m).method_entry code) x

pub record EntersDefault (m : Setting) (s : State) (code : ℕ) (vs : List Value) (x : Stamped) : Type 0 where
  pub f : Value
  pub args : List Val
  pub are : vs ≡ f ∷ map Lasting args
  pub block : Block
  pub found : slice_get m.p.blocks.items code ≡ Some block
  pub is_code : IsClosureCode m.p code
  pub entry : IsEntry (choice_of m) m.words ((layout_of m).closure_entry code) call_params (λ t. entry_code t (length block.params - 1) ((choice_of m).begins code))
  pub calls : CallsAt m s f args entry.t ((layout_of m).closure_entry code) x

-- ---- the whole

pub record HasEnded (m : Setting) (s : State) (end : End) (x : Stamped) : Type 0 where
  pub escapes : Escapes
  pub ends : EndsWith m.sizes (layout_of m) escapes s end x

-- by what is done next
abbrev pub IsDoing : Setting → State → Doing → Stamped → Type 0
IsDoing m s (Running ops last env) x = Runs m s ops last env x
IsDoing m s (Calling f args) x = IsCalling m s f args x
IsDoing m s (Looking o methods args) x = LooksAt m s o methods args x
IsDoing m s (Entering code vs) x = EntersMethod m s code vs x ⊎ EntersDefault m s code vs x
IsDoing m s (Ended end) x = HasEnded m s end x
IsDoing m s Stale x = ⊥
IsDoing m s Wrong x = ⊥

-- what was made is a closure behind those of the blocks, or none
abbrev pub IsNew : Setting → Thing → Type 0
IsNew m (AClosure i) = length m.p.blocks.items ≤ i
IsNew m _ = Unit {0}

-- What all states of a run have: the names of the program; closures of codes, in front of which stand those of the blocks; and no closure in a frame.
pub record IsKept (m : Setting) (names : List (List ℕ)) (closures : List Closure) (made : List Thing) (frames : List Frame) : Type 0 where
  pub names_are : names ≡ m.p.shared.names
  pub all : length m.p.blocks.items ≤ length closures
  pub codes : (i : ℕ) (c : Closure) → slice_get closures i ≡ Some c → length m.p.blocks.items ≤ i → IsClosureCode m.p c.code
  pub news : AllByRecursion (IsNew m) made
  pub bare : AllByRecursion (λ f. f.inner ≡ []) frames

abbrev pub Keeps : Setting → State → Type 0
Keeps m s = IsKept m s.store.names s.closures s.made s.frames

abbrev pub Stands : Setting → State → Stamped → Type 0
Stands m s x = Keeps m s × IsDoing m s s.doing x

-- a state of the run
pub record Related (m : Setting) (s : State) (x : Stamped) : Type 0 where
  pub count : ℕ
  pub reached : s ≡ after (step m.p) count (start m.p)
  pub stands : Stands m s x
  -- what holds of all runs of words
  pub in_place : IsInPlace (words_in m.words m.sizes) x.state
  pub marks : MarksFit (words_in m.words m.sizes) x.state x.marks
