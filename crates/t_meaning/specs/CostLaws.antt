-- What marks change.
use Rattle.std.specs.Prelude.{◌≡◌, ℕ, ◌≤◌, false, Some, IsTrue}
use Rattle.t_base.specs.declared.lists.Vars.{Vars}
use Rattle.t_core.specs.declared.forms.Core.TheVariants as Node
use Rattle.t_core.specs.declared.forms.UnitCore.{UnitCore}
use Rattle.program_runs.specs.MoreHeap.{IsAtMost}
use Rattle.t_meaning.specs.Programs.{Marking, Program, node_at}
use Rattle.t_meaning.specs.State.{State}
use Rattle.t_meaning.specs.Outcomes.{Context, Evaluate}
use Rattle.t_meaning.specs.Performing.{perform}
use Rattle.t_meaning.specs.Units.{meaning, meaning_of, meaning_at_most}
use Rattle.t_meaning.specs.BoundLaws.{state_of}

-- the evaluation of a LAMBDA that doesn't escape leaves the words of heap as they are, at every bound
abbrev pub UnmarkedTakesNoHeap : Type 0
UnmarkedTakesNoHeap =
    (p : Program) (n d at : ℕ) (c : Context) (params : Vars) (body : ℕ) (s : State)
    → node_at p.unit c.form at ≡ Some (Node.Lambda params body)
    → p.escapes c.form at ≡ false
    → (state_of (perform p n d (Evaluate at c) s)).store.heap ≡ s.store.heap

-- the second marks what the first marks
abbrev pub MarksMore : Marking → Marking → Type 0
MarksMore a b = (form node : ℕ) → IsTrue (a form node) → IsTrue (b form node)

abbrev pub MarksChangeHeapAlone : Type 0
MarksChangeHeapAlone = (unit : UnitCore) (a b : Marking) → MarksMore a b → (n : ℕ) → IsAtMost (meaning unit a n) (meaning unit b n)

abbrev pub MeaningIsAtMost : Type 0
MeaningIsAtMost = (unit : UnitCore) (n : ℕ) → IsAtMost (meaning_of unit n) (meaning_at_most unit n)
