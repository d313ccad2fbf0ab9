-- What a text is compiled to, and why a text is not compiled.
use Rattle.std.specs.Prelude.{◌≡◌, ℕ, ◌+◌, ◌-◌, ◌*◌, Bool, true, false, List, slice_index, Some, Ok, Err}
use Rattle.program_runs.specs.Keeps.{Room, KeepsWithin}
use Rattle.t_base.specs.declared.basics.Span.{Span}
use Rattle.t_reader.specs.Grammar.{Tree, Reads}
use Rattle.t_core.specs.declared.forms.UnitCore.{UnitCore}
use Rattle.t_core.specs.declared.limiting.LimitFault.{LimitFault}
use Rattle.t_core.specs.Limits.{limit_of}
use Rattle.t_rows.specs.declared.refusal.SyntaxKind.{SyntaxKind}
use Rattle.t_rows.specs.Rows.{refusal}
use Rattle.expansion.specs.Meaning.{IsCoreOf}
use Rattle.expansion.specs.Refusals.{IsFirstRefusal}
use Rattle.t_meaning.specs.Units.{meaning_at_most}
use Rattle.image_file.specs.Grammar.{Parts, IsImageOf}
use Rattle.m68020_step.specs.declared.machine.Sizes.{Sizes}
use Rattle.m68020_step.specs.Boot.{is_size}
use Rattle.m68020_step.specs.Step.{State}
use Rattle.machine_services.specs.declared.exit.Exit.TheVariants as exit
use Rattle.orbit_monitor.specs.Run.{run}
use Rattle.orbit_monitor.specs.Observed.{observed}
use Rattle.orbit_build.specs.Sums.{is_built}

-- ---- texts

-- the text has a reading, whose data have this core
pub record HasCore (text : List ℕ) (unit : UnitCore) : Type 0 where
  pub data_ : List Tree
  pub reads : Reads text data_
  pub spans : List (List Span)
  pub core : IsCoreOf data_ unit spans

-- the text has a reading, and this is the first refusal of its forms
pub record HasRefusal (text : List ℕ) (kind : SyntaxKind) (span : Span) : Type 0 where
  pub data_ : List Tree
  pub reads : Reads text data_
  pub first : IsFirstRefusal data_ (refusal kind span)

-- the text has a core, and this is the first limit that it is over
pub record IsOver (text : List ℕ) (fault : LimitFault) : Type 0 where
  pub unit : UnitCore
  pub core : HasCore text unit
  pub over : limit_of unit ≡ Err fault

-- the text has a core within the limits, which is not built
pub record IsUnbuilt (text : List ℕ) : Type 0 where
  pub unit : UnitCore
  pub core : HasCore text unit
  pub within : limit_of unit ≡ Ok tt
  pub unbuilt : is_built unit ≡ false

-- the text has a core within the limits, which is built
pub record IsBuilt (text : List ℕ) : Type 0 where
  pub unit : UnitCore
  pub core : HasCore text unit
  pub within : limit_of unit ≡ Ok tt
  pub built : is_built unit ≡ true

-- ---- images

-- the room of a run with these sizes; no frame has more words than 8 and two for each of the unit's size
abbrev pub room_of : UnitCore → Sizes → Room
room_of unit sizes = record { heap = sizes.heap; stack = sizes.stack; frame = 8 + 2 * unit.shared.size }

-- so many instructions for each evaluation of a unit whose largest form has so many nodes, and as many once
abbrev pub factor : ℕ → ℕ
factor size = 10467 * (size + 8)

-- For all sizes the image's run keeps the meaning, with every LAMBDA counted as escaping: ended runs and prefixes both ways, Full only
-- where more was asked than left, and what was in use with what was asked is within the unit's own cost, which so is greater than the size;
-- and no stop.
abbrev pub KeepsMeaning : UnitCore → Parts → Type 0
KeepsMeaning unit image =
    (sizes : Sizes) → is_size sizes.heap ≡ true → is_size sizes.stack ≡ true → KeepsWithin (room_of unit sizes) (factor unit.shared.size) (factor unit.shared.size) (meaning_at_most unit) (observed image sizes)

-- the bytes between the next free address of the heap and its end, or between the stack's start and its newest word
abbrev pub room_left : Bool → State → ℕ
room_left false s = slice_index s.registers.a 6 - slice_index s.registers.a 4
room_left true s = slice_index s.registers.a 7 - slice_index s.registers.a 5

-- Where heap or stack is full, what is reported as left is what the registers tell.
abbrev pub TellsRoom : Parts → Type 0
TellsRoom image =
    (sizes : Sizes) → is_size sizes.heap ≡ true → is_size sizes.stack ≡ true → (k : ℕ) (stack : Bool) (asked left : ℕ)
    → (run image sizes k).end ≡ Some (exit.Full stack asked left) → left ≡ room_left stack (run image sizes k).state

-- the bytes are an image that does what the unit means
pub record IsImageOfUnit (unit : UnitCore) (bytes : List ℕ) : Type 0 where
  pub image : Parts
  pub spelled : IsImageOf bytes image
  pub keeps : KeepsMeaning unit image
  pub tells : TellsRoom image

-- The text has a core within the limits, and the bytes are an image that does what the core means.
pub record Faithful (text bytes : List ℕ) : Type 0 where
  pub unit : UnitCore
  pub core : HasCore text unit
  pub within : limit_of unit ≡ Ok tt
  pub image : Parts
  pub spelled : IsImageOf bytes image
  pub keeps : KeepsMeaning unit image
  pub tells : TellsRoom image
