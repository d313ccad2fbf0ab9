-- What is faithful to a text does what every core of the text means.
use Rattle.std.proofs.Common.{ℕ, ◌+◌, ◌*◌, List, subst}
use Rattle.program_runs.specs.Keeps.{Room, KeepsWithin}
use Rattle.t_base.specs.declared.basics.Span.{Span}
use Rattle.t_core.specs.declared.forms.UnitCore.{UnitCore}
use Rattle.t_reader.specs.Grammar.{Tree}
use Rattle.expansion.specs.Meaning.{IsCoreOf}
use Rattle.t_meaning.specs.Units.{meaning_at_most}
use Rattle.core_meanings.specs.SameMeaning.{MeanTheSame}
use Rattle.core_meanings.proofs.Kept.{keeps_same}
use Rattle.m68020_step.specs.declared.machine.Sizes.{Sizes}
use Rattle.orbit_monitor.specs.Observed.{observed}
use Rattle.orbit_build.specs.Faithful.{HasCore, IsImageOfUnit, Faithful, room_of, factor}
use Rattle.orbit_build.proofs.CoresAlike.{same_data, text_counts}

-- the cores of one list of data mean the same
abbrev pub CoresMeanTheSame : Type 0
CoresMeanTheSame = (trees : List Tree) (unit other : UnitCore) (spans others : List (List Span)) → IsCoreOf trees unit spans → IsCoreOf trees other others → MeanTheSame unit other

pub text_means : CoresMeanTheSame → (text : List ℕ) (unit other : UnitCore) → HasCore text unit → HasCore text other → MeanTheSame unit other
text_means cores text unit other one two = cores one.data_ unit other one.spans two.spans one.core (same_data text unit other one two)

-- the room of a unit of this size
abbrev room_at : Sizes → ℕ → Room
room_at sizes n = record { heap = sizes.heap; stack = sizes.stack; frame = 8 + 2 * n }

pub every_core : CoresMeanTheSame → (text bytes : List ℕ) → Faithful text bytes → (unit : UnitCore) → HasCore text unit → IsImageOfUnit unit bytes
every_core cores text bytes faithful unit core =
    let same : MeanTheSame faithful.unit unit = text_means cores text faithful.unit unit faithful.core core in
    record {
      image = faithful.image;
      spelled = faithful.spelled;
      keeps = λ sizes heap stack. subst (λ (n : ℕ). KeepsWithin (room_at sizes n) (factor n) (factor n) (meaning_at_most unit) (observed faithful.image sizes)) (text_counts text faithful.unit unit faithful.core core).size
          (keeps_same (room_of faithful.unit sizes) (factor faithful.unit.shared.size) (factor faithful.unit.shared.size) (meaning_at_most faithful.unit) (meaning_at_most unit) (observed faithful.image sizes) same.at_most (faithful.keeps sizes heap stack));
      tells = faithful.tells;
    }
