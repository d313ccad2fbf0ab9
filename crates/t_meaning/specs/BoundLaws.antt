-- What a greater bound gives.
use Rattle.std.specs.Prelude.{◌≡◌, ℕ, ◌+◌, ◌≤◌, List}
use Rattle.program_runs.specs.Runs.{IsPrefix}
use Rattle.program_runs.specs.Follows.{IsSteady}
use Rattle.t_core.specs.declared.forms.UnitCore.{UnitCore}
use Rattle.t_meaning.specs.Programs.{Marking, Program}
use Rattle.t_meaning.specs.State.{State}
use Rattle.t_meaning.specs.Outcomes.{Outcome, Value, Escaping, Faulted, Out, Task}
use Rattle.t_meaning.specs.Performing.{perform}
use Rattle.t_meaning.specs.Units.{outcome, meaning}

-- what is counted of a state
pub record Seen : Type 0 where
  pub output : List ℕ
  pub heap : ℕ
  pub work : ℕ
  pub deepest : ℕ

abbrev pub seen : State → Seen
seen s = record { output = s.store.output; heap = s.store.heap; work = s.work; deepest = s.deepest }

-- the second has what the first has, or more
pub record IsWithin (s t : Seen) : Type 0 where
  pub output : IsPrefix s.output t.output
  pub heap : s.heap ≤ t.heap
  pub work : s.work ≤ t.work
  pub deepest : s.deepest ≤ t.deepest

abbrev pub state_of : Outcome → State
state_of (Value s v) = s
state_of (Escaping s i v) = s
state_of (Faulted s fault) = s
state_of (Out s) = s

-- what is over stays the same, and what is out of its bound gets further
abbrev pub Extends : Outcome → Outcome → Type 0
Extends (Value s v) o = o ≡ Value s v
Extends (Escaping s i v) o = o ≡ Escaping s i v
Extends (Faulted s fault) o = o ≡ Faulted s fault
Extends (Out s) o = IsWithin (seen s) (seen (state_of o))

-- ---- of a task

abbrev pub TaskOnlyAdds : Type 0
TaskOnlyAdds = (p : Program) (n d : ℕ) (task : Task) (s : State) → IsWithin (seen s) (seen (state_of (perform p n d task s)))

abbrev pub TaskExtends : Type 0
TaskExtends = (p : Program) (n k d : ℕ) (task : Task) (s : State) → Extends (perform p n d task s) (perform p (n + k) d task s)

-- ---- of a unit

abbrev pub UnitExtends : Type 0
UnitExtends = (p : Program) (n k : ℕ) → Extends (outcome p n) (outcome p (n + k))

-- where it has ended a greater bound gives the same, and else no less output, heap and moves
abbrev pub MeaningIsSteady : Type 0
MeaningIsSteady = (unit : UnitCore) (escapes : Marking) → IsSteady (meaning unit escapes)

abbrev pub MeaningWaits : Type 0
MeaningWaits = (unit : UnitCore) (escapes : Marking) (n k : ℕ) → (meaning unit escapes n).waiting ≤ (meaning unit escapes (n + k)).waiting
