-- What the run of a program of words keeps that is selected for a program with frames.
use Rattle.std.specs.Prelude.{◌≡◌, ℕ, ◌^◌, ◌≤◌, true, Some}
use Rattle.program_runs.specs.Runs.{Broken, Run}
use Rattle.program_runs.specs.Keeps.{Room, KeepsWithin}
use Rattle.word_ir.specs.declared.words.Words.{Words}
use Rattle.word_ir.specs.Ranges.{HasWords}
use Rattle.word_ir.specs.Stamps.{stamped_words_run}
use Rattle.word_ir.specs.Step.{words_run}
use Rattle.word_ir.specs.Storage.{Sizes}
use Rattle.frame_ir.specs.declared.forms.Frames.{Frames}
use Rattle.frame_ir.specs.Running.{run}
use Rattle.frame_ir.specs.Sizes.{HasSmallFrames, most_frame_words}
use Rattle.frame_ir.specs.Whole.{IsWhole}
use Rattle.word_selection.specs.Selections.{IsSelected}
use Rattle.selection_steps.specs.Settings.{is_plain_program}

-- no end is Stale or Wrong
abbrev pub NeverBreaks : Run → Type 0
NeverBreaks a = (n : ℕ) → (a n).end ≡ Some Broken → ⊥

-- the room, with frames of 8 words and twice the size of the unit
abbrev pub room_for : Frames → Sizes → Room
room_for p sizes = record { heap = sizes.heap; stack = sizes.stack; frame = most_frame_words p.shared.size }

-- A whole program with small frames, none of which has a closure, whose run never ends Stale or Wrong.
pub record IsPlain (p : Frames) : Type 0 where
  pub whole : IsWhole p
  pub small : HasSmallFrames p
  pub sound : NeverBreaks (run p)
  pub plain : is_plain_program p ≡ true

-- sizes of heap and stack that the machine may have
pub record HasSizes (sizes : Sizes) : Type 0 where
  pub whole : HasWords sizes
  pub heap : sizes.heap ≤ 2 ^ 28
  pub stack : sizes.stack ≤ 2 ^ 28

-- The stamped run keeps it, at 40 moves for each of its moves, as long as there is room; and so does the plain run.
abbrev pub SelectedKeepsStamped : Type 0
SelectedKeepsStamped = (p : Frames) (words : Words) (sizes : Sizes) → IsSelected p words → IsPlain p → HasSizes sizes → KeepsWithin (room_for p sizes) 40 0 (run p) (stamped_words_run words sizes)

abbrev pub SelectedKeeps : Type 0
SelectedKeeps = (p : Frames) (words : Words) (sizes : Sizes) → IsSelected p words → IsPlain p → HasSizes sizes → KeepsWithin (room_for p sizes) 40 0 (run p) (words_run words sizes)
