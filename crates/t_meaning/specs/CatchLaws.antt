-- An escape stays inside its CATCH.
use Rattle.std.specs.Prelude.{◌≡◌, ℕ, List, [], ◌==◌, IsTrue, Some}
use Rattle.std.specs.List.{list_any}
use Rattle.program_runs.specs.Runs.{End, IsProper}
use Rattle.t_core.specs.declared.forms.UnitCore.{UnitCore}
use Rattle.t_meaning.specs.Programs.{Marking, Program}
use Rattle.t_meaning.specs.State.{State}
use Rattle.t_meaning.specs.Outcomes.{Outcome, Value, Escaping, Faulted, Out, Task}
use Rattle.t_meaning.specs.Performing.{perform}
use Rattle.t_meaning.specs.Units.{outcome, meaning}

-- from a state with these live catches: with a value the same ones are live, and an escape goes to one of them
abbrev pub StaysInside : List ℕ → Outcome → Type 0
StaysInside live (Value s v) = s.live ≡ live
StaysInside live (Escaping s i v) = IsTrue (list_any (λ j. j == i) live)
StaysInside live (Faulted s fault) = Unit {0}
StaysInside live (Out s) = Unit {0}

abbrev pub TasksStayInside : Type 0
TasksStayInside = (p : Program) (n d : ℕ) (task : Task) (s : State) → StaysInside s.live (perform p n d task s)

-- no escape leaves a unit, and no catch is live behind it
abbrev pub UnitStaysInside : Type 0
UnitStaysInside = (p : Program) (n : ℕ) → StaysInside [] (outcome p n)

-- a unit ends by a value or a fault alone
abbrev pub EndsAreProper : Type 0
EndsAreProper = (unit : UnitCore) (escapes : Marking) (n : ℕ) (e : End) → (meaning unit escapes n).end ≡ Some e → IsProper e
