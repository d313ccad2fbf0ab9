-- What it means that all units of a list are whole.
use Rattle.std.specs.Prelude.{List, All}
use Rattle.std.specs.Global.{Global}
use Rattle.t_core.specs.declared.forms.UnitCore.{UnitCore}
use Rattle.t_core.specs.Whole.{IsWhole}

-- each of them, whatever allocates its lists
pub record AreWhole (units : List (Global → UnitCore)) : Type 0 where
  pub each : (alloc : Global) → All (λ unit. IsWhole (unit alloc)) units
