-- What a row says of a unit.
use Rattle.std.specs.Prelude.{◌≡◌, ℕ, ℤ, List, Option, Some, None, Result, Ok, Err}
use Rattle.std.specs.Global.{Global}
use Rattle.t_base.specs.declared.faults.Fault.{Fault}
use Rattle.program_runs.specs.Runs.{End, Value, Faulted, Fixnum, Observation}
use Rattle.t_core.specs.declared.forms.UnitCore.{UnitCore}
use Rattle.t_meaning.specs.Units.{meaning_of, meaning_at_most}

-- words of heap, depth and work
pub record Cost : Type 0 where
  pub heap : ℕ
  pub depth : ℕ
  pub work : ℕ

abbrev pub cost : ℕ → ℕ → ℕ → Cost
cost heap depth work = record { heap = heap; depth = depth; work = work }

abbrev pub seen : List ℕ → Option End → Cost → Observation
seen output end c = record { output = output; end = end; heap = c.heap; waiting = c.depth; moves = c.work }

-- at the bound the unit has ended, with this output, end and cost, where every LAMBDA counts as escaping
abbrev pub Ends : (Global → UnitCore) → ℕ → List ℕ → End → Cost → Type 0
Ends unit bound output end c = (alloc : Global) → meaning_at_most (unit alloc) bound ≡ seen output (Some end) c

-- the same where the LAMBDAs escape that the rules mark
abbrev pub EndsByMarks : (Global → UnitCore) → ℕ → List ℕ → End → Cost → Type 0
EndsByMarks unit bound output end c = (alloc : Global) → meaning_of (unit alloc) bound ≡ seen output (Some end) c

-- at the bound the unit is out of it
abbrev pub IsOut : (Global → UnitCore) → ℕ → List ℕ → Cost → Type 0
IsOut unit bound output c = (alloc : Global) → meaning_at_most (unit alloc) bound ≡ seen output None c

-- the end by a number or a fault
abbrev pub end_of : Result ℤ Fault → End
end_of (Ok number) = Value (Fixnum number)
end_of (Err fault) = Faulted fault

-- one part of what is seen of the unit at the bound: its end, its output, its work
abbrev pub EndsWith : (Global → UnitCore) → ℕ → End → Type 0
EndsWith unit bound end = (alloc : Global) → (meaning_at_most (unit alloc) bound).end ≡ Some end

abbrev pub Puts : (Global → UnitCore) → ℕ → List ℕ → Type 0
Puts unit bound output = (alloc : Global) → (meaning_at_most (unit alloc) bound).output ≡ output

abbrev pub Works : (Global → UnitCore) → ℕ → ℕ → Type 0
Works unit bound work = (alloc : Global) → (meaning_at_most (unit alloc) bound).moves ≡ work
