-- Assigned variables stand alone.
use Rattle.std.specs.Prelude.{All}
use Rattle.t_core.specs.declared.forms.UnitCore.{UnitCore}
use Rattle.cps_ir.specs.declared.terms.Cps.{Cps}
use Rattle.cps_ir.specs.Parts.{reached_terms, reached_lams, lam_binders}
use Rattle.cps_ir.specs.Loads.{Unassigned, AssignsAlone}
use Rattle.cps_conversion.specs.Conversion.{Converts}
use Rattle.conversion_laws.specs.Owed.{IsOwed}

-- the part of the rule on loads that is on assigned variables: these are bound by a Give alone, and are values of a Give alone
pub record AssignsApart (cps : Cps) : Type 0 where
  pub assigned : All (AssignsAlone cps) (reached_terms cps)
  pub parameters : All (λ lam. Unassigned cps (lam_binders lam)) (reached_lams cps)

abbrev pub AssignedStandAlone : Type 0
AssignedStandAlone = (unit : UnitCore) (cps : Cps) → Converts unit cps → IsOwed cps → AssignsApart cps
