-- What the relations of the passes come to.
use Rattle.std.specs.Prelude.{◌≡◌, true}
use Rattle.program_runs.specs.Keeps.{KeepsWithin}
use Rattle.t_core.specs.declared.forms.UnitCore.{UnitCore}
use Rattle.t_meaning.specs.Units.{meaning_at_most}
use Rattle.frame_ir.specs.declared.forms.Frames.{Frames}
use Rattle.frame_ir.specs.Sizes.{HasSmallFrames}
use Rattle.frame_ir.specs.Whole.{IsWhole}
use Rattle.word_ir.specs.declared.words.Words.{Words}
use Rattle.word_ir.specs.declared.placed.Placed.{Placed}
use Rattle.word_selection.specs.Selections.{IsSelected}
use Rattle.selection_steps.specs.Settings.{is_plain_program}
use Rattle.trace_regs.specs.Homes.{Serves}
use Rattle.m68020_step.specs.declared.machine.Sizes.{Sizes}
use Rattle.m68020_step.specs.Ranges.{AreBytes}
use Rattle.m68020_asm.specs.Items.{CanAssemble}
use Rattle.lap_items.specs.Program.{IsEmitted}
use Rattle.orbit_monitor.specs.Observed.{observed}
use Rattle.image_runs.specs.Images.{Assembled, image_of}
use Rattle.passes_keep.specs.Chains.{AreSizes, room_at, factor_at, SelectionKeeps, EmissionKeeps}
use Rattle.chain_laws.specs.Passed.{Passed}

-- Words that are selected for whole frames with small frames, none of which has a closure, keep them where no run of the frames is stale or
-- wrong.
abbrev pub SelectedIsKept : Type 0
SelectedIsKept = (p : Frames) (words : Words) → IsSelected p words → IsWhole p → HasSmallFrames p → is_plain_program p ≡ true → SelectionKeeps p words

-- Items that are emitted for a whole program of words with homes outside the stack, and were assembled, keep it where its run is safe.
abbrev pub EmittedIsKept : Type 0
EmittedIsKept =
    (words : Words) (placed : Placed) (a : Assembled) → Serves words placed → IsEmitted placed a.items → AreBytes a.bytes → CanAssemble a.items → EmissionKeeps placed a

-- What the passes made of a unit gives an image that keeps its meaning with every LAMBDA counted as escaping.
abbrev pub PassedKeepsMeaning : Type 0
PassedKeepsMeaning =
    (unit : UnitCore) (passed : Passed unit) (sizes : Sizes) → AreSizes sizes
    → KeepsWithin (room_at unit.shared.size sizes) (factor_at unit.shared.size) (factor_at unit.shared.size) (meaning_at_most unit)
    (observed (image_of passed.placed.words passed.assembled.bytes passed.assembled.labels) sizes)
