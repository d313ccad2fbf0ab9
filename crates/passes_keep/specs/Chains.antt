-- A unit with what each pass makes of it, and what each pass promises.
use Rattle.std.specs.Prelude.{◌≡◌, ℕ, ◌+◌, ◌*◌, true}
use Rattle.program_runs.specs.Keeps.{KeepsAlike, KeepsWithin, IsSafe, Room}
use Rattle.t_core.specs.declared.forms.UnitCore.{UnitCore}
use Rattle.cps_ir.specs.declared.terms.Cps.{Cps}
use Rattle.cps_conversion.specs.Conversion.{Converts}
use Rattle.assign_convert.specs.CellLaws.{IsCellForm}
use Rattle.frame_ir.specs.declared.forms.Frames.{Frames}
use Rattle.frame_ir.specs.Sizes.{most_frame_words}
use Rattle.frame_ir.specs.Running.{run}
use Rattle.layout_relation.specs.Laid.{IsLaidOut}
use Rattle.word_ir.specs.declared.words.Words.{Words}
use Rattle.word_ir.specs.declared.placed.Placed.{Placed}
use Rattle.word_ir.specs.Storage.{Sizes as WordSizes}
use Rattle.word_ir.specs.Step.{words_run, placed_run}
use Rattle.trace_regs.specs.Promises.{KeepsRuns}
use Rattle.m68020_step.specs.declared.machine.Sizes.{Sizes}
use Rattle.m68020_step.specs.Boot.{is_size}
use Rattle.m68020_asm.specs.Items.{CanAssemble}
use Rattle.image_runs.specs.Images.{Assembled, items_run}

-- sizes of heap and stack that a run may have
pub record AreSizes (sizes : Sizes) : Type 0 where
  pub heap : is_size sizes.heap ≡ true
  pub stack : is_size sizes.stack ≡ true

-- the same for words
abbrev pub word_sizes : Sizes → WordSizes
word_sizes sizes = record { heap = sizes.heap; stack = sizes.stack }

-- the room of a run with these sizes, where the unit's largest form has so many nodes
abbrev pub room_at : ℕ → Sizes → Room
room_at size sizes = record { heap = sizes.heap; stack = sizes.stack; frame = most_frame_words size }

-- ---- what is promised of the moves: so many for each move of the argument, and as many once

abbrev pub moves_of_selection : ℕ
moves_of_selection = 40

abbrev pub moves_of_emission : ℕ
moves_of_emission = 13

-- of selection: where no run of the frames is stale or wrong, the words keep them in the room of any sizes
abbrev pub SelectionKeeps : Frames → Words → Type 0
SelectionKeeps p words =
    (sizes : Sizes) → AreSizes sizes → IsSafe (run p)
    → KeepsWithin (room_at p.shared.size sizes) moves_of_selection moves_of_selection (run p) (words_run words (word_sizes sizes))

-- of emission: where the run of the words with homes is safe, the assembled items keep it, and are as full
abbrev pub EmissionKeeps : Placed → Assembled → Type 0
EmissionKeeps placed a =
    (sizes : Sizes) → AreSizes sizes → IsSafe (placed_run placed (word_sizes sizes))
    → KeepsAlike moves_of_emission moves_of_emission (placed_run placed (word_sizes sizes)) (items_run placed.words a sizes)

-- ---- the chain

-- Each form is what its pass promises of the form before it.
pub record Chain (unit : UnitCore) : Type 0 where
  pub cps : Cps
  pub converts : Converts unit cps
  pub celled : Cps
  pub cells : IsCellForm cps celled
  pub frames : Frames
  pub laid_out : IsLaidOut celled frames
  pub words : Words
  pub selected : SelectionKeeps frames words
  pub placed : Placed
  pub assigned : KeepsRuns words placed
  pub assembled : Assembled
  pub emitted : EmissionKeeps placed assembled
  pub can : CanAssemble assembled.items

-- so many instructions for each evaluation of a unit whose largest form has so many nodes, and as many once
abbrev pub factor_at : ℕ → ℕ
factor_at size = 10467 * (size + 8)
