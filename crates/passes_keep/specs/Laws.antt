-- What the passes keep together.
use Rattle.std.specs.Prelude.{ℕ, ◌+◌, ◌*◌, ◌≤◌}
use Rattle.program_runs.specs.Keeps.{KeepsWithin}
use Rattle.t_core.specs.declared.forms.UnitCore.{UnitCore}
use Rattle.t_meaning.specs.Units.{meaning_at_most}
use Rattle.m68020_step.specs.declared.machine.Sizes.{Sizes}
use Rattle.orbit_monitor.specs.Observed.{observed}
use Rattle.image_runs.specs.Images.{image_of, items_run}
use Rattle.passes_keep.specs.Chains.{AreSizes, room_at, Chain, factor_at}

-- The items keep the meaning of the unit with every LAMBDA counted as escaping.
abbrev pub ItemsKeepMeaning : Type 0
ItemsKeepMeaning =
    (unit : UnitCore) (chain : Chain unit) (sizes : Sizes) → AreSizes sizes
    → KeepsWithin (room_at unit.shared.size sizes) (factor_at unit.shared.size) (factor_at unit.shared.size) (meaning_at_most unit) (items_run chain.placed.words chain.assembled sizes)

-- And so does the image that is made of them.
abbrev pub ImageKeepsMeaning : Type 0
ImageKeepsMeaning =
    (unit : UnitCore) (chain : Chain unit) (sizes : Sizes) → AreSizes sizes
    → KeepsWithin (room_at unit.shared.size sizes) (factor_at unit.shared.size) (factor_at unit.shared.size) (meaning_at_most unit)
    (observed (image_of chain.placed.words chain.assembled.bytes chain.assembled.labels) sizes)

-- The factor is within 2^20 times the size and 8.
abbrev pub FactorIsWithin : Type 0
FactorIsWithin = (size : ℕ) → factor_at size ≤ 1048576 * (size + 8)
