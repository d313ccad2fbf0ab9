-- The loads of a program that stands for a unit.
use Rattle.std.specs.Prelude.{◌≤◌, IsTrue, All}
use Rattle.t_core.specs.declared.forms.UnitCore.{UnitCore}
use Rattle.t_core.specs.Whole.{IsWhole as IsWholeUnit}
use Rattle.cps_ir.specs.declared.terms.Cps.{Cps}
use Rattle.cps_ir.specs.Parts.{walked, root_lams}
use Rattle.cps_ir.specs.Loads.{is_closed, term_load, lam_load}
use Rattle.cps_conversion.specs.Conversion.{Converts}
use Rattle.conversion_laws.specs.Owed.{IsOwed}

-- the load of each root is at most the count of the greatest form
pub record HasFewLoads (cps : Cps) : Type 0 where
  pub terms : All (λ t. IsTrue (is_closed cps t) → term_load cps t ≤ cps.shared.size) (walked cps)
  pub procedures : All (λ lam. lam_load cps lam ≤ cps.shared.size) (root_lams cps)

abbrev pub LoadsAreFew : Type 0
LoadsAreFew = (unit : UnitCore) (cps : Cps) → IsWholeUnit unit → Converts unit cps → IsOwed cps → HasFewLoads cps
