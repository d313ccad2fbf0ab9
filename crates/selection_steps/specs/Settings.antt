-- What is given where a program of words goes with a program with frames, and what is known of the rest of a block.
use Rattle.std.specs.Prelude.{◌≡◌, ℕ, ◌^◌, ◌<◌, ◌≤◌, Bool, true, false, List, [], ◌∷◌, length, Option, Some, None}
use Rattle.std.specs.List.{AllByRecursion, list_all}
use Rattle.program_runs.specs.Follows.{after}
use Rattle.program_runs.specs.Keeps.{Room}
use Rattle.t_prim.specs.Table.{arity_of}
use Rattle.cps_ir.specs.declared.args.Arg.{Arg}
use Rattle.cps_ir.specs.declared.args.Arg.TheVariants as Argument
use Rattle.word_ir.specs.declared.words.Words.{Words}
use Rattle.word_ir.specs.Ranges.{HasWords}
use Rattle.word_ir.specs.Storage.{Sizes}
use Rattle.frame_ir.specs.declared.forms.Place.TheVariants as At
use Rattle.frame_ir.specs.declared.forms.FrameOp.{FrameOp}
use Rattle.frame_ir.specs.declared.forms.FrameOp.TheVariants as Op
use Rattle.frame_ir.specs.declared.forms.FrameEnd.{FrameEnd}
use Rattle.frame_ir.specs.declared.forms.FrameEnd.TheVariants as Last
use Rattle.frame_ir.specs.declared.forms.Frames.{Frames}
use Rattle.frame_ir.specs.Arguments.{code_of_global}
use Rattle.frame_ir.specs.Parts.{op_args, end_args, op_binds}
use Rattle.frame_ir.specs.Sizes.{HasSmallFrames, IsSmallOp, most_frame_words}
use Rattle.frame_ir.specs.States.{Doing, Stale, Wrong, State}
use Rattle.frame_ir.specs.Running.{step, start}
use Rattle.frame_ir.specs.Whole.{IsWhole, most_operands}
use Rattle.frame_words.specs.Layouts.{Layout}
use Rattle.prim_holds.specs.Operands.{IsNamed}
use Rattle.word_selection.specs.Codes.{Choice}
use Rattle.word_selection.specs.Selections.{IsOpNamed, IsClosureCode, IsSelected}

-- ---- plain programs: no closure stands in a frame

abbrev pub is_plain : FrameOp → Bool
is_plain (Op.Closure to code kept (At.Frame slot)) = false
is_plain _ = true

abbrev pub is_plain_program : Frames → Bool
is_plain_program p = list_all (λ b. list_all is_plain b.ops.items) p.blocks.items

-- ---- runs that don't break

abbrev pub is_broken : Doing → Bool
is_broken Stale = true
is_broken Wrong = true
is_broken _ = false

-- a state is neither stale nor wrong
abbrev pub IsSound : State → Type 0
IsSound s = is_broken s.doing ≡ false

-- ---- what is given

pub record Setting : Type 0 where
  pub p : Frames
  pub words : Words
  pub sizes : Sizes
  pub selected : IsSelected p words
  pub whole : IsWhole p
  pub small : HasSmallFrames p
  pub heap : sizes.heap ≤ 2 ^ 28
  pub stack : sizes.stack ≤ 2 ^ 28
  pub whole_sizes : HasWords sizes
  pub sound : (n : ℕ) → IsSound (after (step p) n (start p))
  pub plain : is_plain_program p ≡ true

abbrev pub choice_of : Setting → Choice
choice_of m = m.selected.choice

abbrev pub layout_of : Setting → Layout
layout_of m = m.selected.choice.layout

abbrev pub room_of : Setting → Room
room_of m = record { heap = m.sizes.heap; stack = m.sizes.stack; frame = most_frame_words m.p.shared.size }

-- ---- the rest of a block

-- what is known of each kind of operation
abbrev pub IsShaped : Setting → FrameOp → Type 0
IsShaped m (Op.Prim to b args) = length args ≡ arity_of b
IsShaped m (Op.Closure to code kept at) = IsClosureCode m.p code
IsShaped m (Op.GlobalGet to global) = global < length m.p.shared.globals.items
IsShaped m (Op.GlobalPut global value first) = global < length m.p.shared.globals.items
IsShaped m _ = Unit {0}

pub record IsFit (m : Setting) (ops : List FrameOp) (op : FrameOp) : Type 0 where
  pub args : AllByRecursion (IsNamed (layout_of m) m.p.shared) (op_args op)
  pub named : IsOpNamed (layout_of m) op
  pub binds : AllByRecursion (λ x. x.0 < (choice_of m).free) (op_binds op)
  pub small : IsSmallOp m.p.shared.size ops op
  pub shaped : IsShaped m op
  pub plain : is_plain op ≡ true

abbrev pub AreFit : Setting → List FrameOp → Type 0
AreFit m [] = Unit {0}
AreFit m (op ∷ ops) = IsFit m ops op × AreFit m ops

-- the code of what is called, where that is known
abbrev pub called_code : Setting → Arg → Option ℕ
called_code m (Argument.Proc block) = Some block
called_code m (Argument.Global g) = code_of_global m.p.shared g
called_code m _ = None

abbrev pub IsShapedEnd : Setting → FrameEnd → Type 0
IsShapedEnd m (Last.Call f args) = (length args ≤ most_operands) × ((code : ℕ) → called_code m f ≡ Some code → code < length m.p.blocks.items)
IsShapedEnd m (Last.If test first second) = (first < length m.p.blocks.items) × (second < length m.p.blocks.items)
IsShapedEnd m _ = Unit {0}

pub record IsFitEnd (m : Setting) (end : FrameEnd) : Type 0 where
  pub args : AllByRecursion (IsNamed (layout_of m) m.p.shared) (end_args end)
  pub shaped : IsShapedEnd m end
