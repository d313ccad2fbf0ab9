use Rattle.std.proofs.Common.{◌≤◌, ◌-◌, length, map, take}
use Rattle.t_core.specs.declared.forms.FormKind.TheVariants as Kind
use Rattle.cps_convert.specs.Claims.{HasMarks}
use Rattle.unit_conversion.specs.FirstLams.{has_default, FirstsMade}
use Rattle.unit_conversion.proofs.first_lams.default_lams.Given as goal

abbrev pub invariant-ops : goal.invariant-ops
invariant-ops l = record {
  within : l.at ≤ length l.unit.shared.ops.items;
  made : HasMarks l.unit l.marks → FirstsMade l.unit l.marks l.fn.made l.made Kind.Operation (map has_default (take l.at l.unit.shared.ops.items)) l.lams.items;
}

abbrev pub decreases-ops : goal.decreases-ops
decreases-ops l = length l.unit.shared.ops.items - l.at
