-- What is known of the image of a text whose run has filled the heap or the stack.
use Rattle.std.specs.Prelude.{◌≡◌, ℕ, ◌+◌, ◌*◌, ◌<◌, Bool, true, false, List, Some}
use Rattle.program_runs.specs.Runs.{Full}
use Rattle.program_runs.specs.Keeps.{HasCost}
use Rattle.t_core.specs.declared.forms.UnitCore.{UnitCore}
use Rattle.t_meaning.specs.Units.{meaning_at_most}
use Rattle.image_file.specs.Grammar.{Parts}
use Rattle.m68020_step.specs.declared.machine.Sizes.{Sizes}
use Rattle.machine_services.specs.declared.exit.Exit.TheVariants as exit
use Rattle.orbit_monitor.specs.Run.{run}
use Rattle.orbit_build.specs.Faithful.{HasCore, room_of, room_left}

-- the unit's own cost at some bound of its run is greater than the size of the heap, or of the stack: 4 bytes for each word, or a frame for
-- each evaluation that waits and one more
abbrev pub CostsMore : Bool → UnitCore → Sizes → Type 0
CostsMore false unit sizes = (m : ℕ) × (sizes.heap < 4 * (meaning_at_most unit m).heap)
CostsMore true unit sizes = (m : ℕ) × (sizes.stack < 4 * ((8 + 2 * unit.shared.size) * ((meaning_at_most unit m).waiting + 1)))

-- Within so many instructions the run asked for more bytes than were left, and what was in use with what was asked is within the cost of the
-- text's unit, with every LAMBDA counted as escaping.
pub record IsFullFor (text : List ℕ) (image : Parts) (sizes : Sizes) (steps : ℕ) (stack : Bool) : Type 0 where
  pub asked : ℕ
  pub left : ℕ
  pub ended : (run image sizes steps).end ≡ Some (exit.Full stack asked left)
  pub is_left : left ≡ room_left stack (run image sizes steps).state
  pub lacking : left < asked
  pub unit : UnitCore
  pub core : HasCore text unit
  pub within : HasCost (room_of unit sizes) (meaning_at_most unit) (Full stack asked left)
  pub exceeds : CostsMore stack unit sizes
