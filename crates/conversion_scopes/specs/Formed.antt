-- A program that stands for a unit is whole but for fitting.
use Rattle.std.specs.Prelude.{◌≡◌, Ok}
use Rattle.t_core.specs.declared.forms.UnitCore.{UnitCore}
use Rattle.t_core.specs.Limits.{limit_of}
use Rattle.t_core.specs.Whole.{IsWhole as IsWholeUnit}
use Rattle.cps_ir.specs.declared.terms.Cps.{Cps}
use Rattle.cps_ir.specs.Whole.{IsFormed}
use Rattle.cps_conversion.specs.Conversion.{Converts}
use Rattle.conversion_laws.specs.Owed.{IsOwed}

abbrev pub ConvertedIsFormed : Type 0
ConvertedIsFormed = (unit : UnitCore) (cps : Cps) → IsWholeUnit unit → limit_of unit ≡ Ok tt → Converts unit cps → IsOwed cps → IsFormed cps
