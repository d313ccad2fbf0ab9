-- What it is for two units to count alike.
use Rattle.std.specs.Prelude.{◌≡◌, map}
use Rattle.t_core.specs.declared.forms.UnitCore.{UnitCore}
use Rattle.t_core.specs.Counts.{form_count, weight_of, bulk_of}
use Rattle.t_core.specs.Limits.{greatest, form_width, limit_of}

-- Their forms have one by one the same count and the same greatest number of parameters or operands, and so the units have one greatest
-- count, one size and one weight, and both are over the same limit or over none.
pub record CountAlike (unit other : UnitCore) : Type 0 where
  pub counts : map (form_count unit.shared.pairs.items) unit.forms.items ≡ map (form_count other.shared.pairs.items) other.forms.items
  pub widths : map form_width unit.forms.items ≡ map form_width other.forms.items
  pub most : greatest (form_count unit.shared.pairs.items) unit.forms.items ≡ greatest (form_count other.shared.pairs.items) other.forms.items
  pub size : unit.shared.size ≡ other.shared.size
  pub weight : weight_of unit ≡ weight_of other
  pub bulk : bulk_of unit ≡ bulk_of other
  pub limits : limit_of unit ≡ limit_of other
