-- What terms name is there, and lists agree.
use Rattle.std.specs.Prelude.{◌≡◌, ◌<◌, ◌≤◌, length, All, Ok}
use Rattle.t_prim.specs.SharedParts.{IsWholeShared}
use Rattle.t_core.specs.declared.forms.UnitCore.{UnitCore}
use Rattle.t_core.specs.Limits.{limit_of}
use Rattle.t_core.specs.Whole.{IsWhole as IsWholeUnit}
use Rattle.cps_ir.specs.declared.terms.Cps.{Cps}
use Rattle.cps_ir.specs.Parts.{first_lams}
use Rattle.cps_ir.specs.Whole.{HasNames, HasShapes}
use Rattle.cps_conversion.specs.Conversion.{Converts}
use Rattle.conversion_laws.specs.Owed.{IsOwed}

-- of all terms and procedures of the program
pub record AreShaped (cps : Cps) : Type 0 where
  pub shared : IsWholeShared cps.shared
  pub entry : cps.entry < length cps.terms.items
  pub firsts : first_lams cps ≤ length cps.lams.items
  pub bodies : All (λ lam. lam.body < length cps.terms.items) cps.lams.items
  pub names : All (HasNames cps) cps.terms.items
  pub shapes : HasShapes cps

abbrev pub ConvertedIsShaped : Type 0
ConvertedIsShaped = (unit : UnitCore) (cps : Cps) → IsWholeUnit unit → limit_of unit ≡ Ok tt → Converts unit cps → IsOwed cps → AreShaped cps
