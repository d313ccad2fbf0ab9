-- What a conversion keeps.
use Rattle.std.specs.Prelude.{◌≡◌, ℕ, IsTrue, List, Some, slice_get}
use Rattle.program_runs.specs.Keeps.{Keeps}
use Rattle.t_core.specs.declared.forms.UnitCore.{UnitCore}
use Rattle.t_meaning.specs.Programs.{Marking}
use Rattle.t_meaning.specs.Units.{meaning, meaning_at_most}
use Rattle.cps_ir.specs.declared.terms.Cps.{Cps}
use Rattle.cps_ir.specs.States.{Marking as CpsMarking}
use Rattle.cps_ir.specs.Running.{run, run_at_most}
use Rattle.cps_conversion.specs.Conversion.{Converts}

-- the procedure that stands for a LAMBDA counts as escaping only where the LAMBDA does
abbrev pub IsCarried : List (ℕ × ℕ) → Marking → CpsMarking → Type 0
IsCarried origins marks escapes = (l form node : ℕ) → slice_get origins l ≡ Some (form, node) → IsTrue (escapes l) → IsTrue (marks form node)

-- the meaning with any marking is kept by the run with a marking that marks no more
abbrev pub ConversionKeeps : Type 0
ConversionKeeps = (unit : UnitCore) (cps : Cps) (marks : Marking) (escapes : CpsMarking) (c : Converts unit cps) → IsCarried c.origins marks escapes → Keeps 5 5 (meaning unit marks) (run escapes cps)

-- and so is the meaning with every LAMBDA counted as escaping
abbrev pub ConversionKeepsMost : Type 0
ConversionKeepsMost = (unit : UnitCore) (cps : Cps) → Converts unit cps → Keeps 5 5 (meaning_at_most unit) (run_at_most cps)
