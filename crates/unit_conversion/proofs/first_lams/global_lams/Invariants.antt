use Rattle.std.proofs.Common.{◌≤◌, ◌-◌, length, map, take}
use Rattle.t_core.specs.declared.forms.FormKind.TheVariants as Kind
use Rattle.cps_convert.specs.Claims.{HasMarks}
use Rattle.cps_ir.specs.Parts.{is_procedure}
use Rattle.unit_conversion.specs.FirstLams.{FirstsMade}
use Rattle.unit_conversion.proofs.first_lams.global_lams.Given as goal

abbrev pub invariant-globals : goal.invariant-globals
invariant-globals l = record {
  within : l.at ≤ length l.unit.shared.globals.items;
  made : HasMarks l.unit l.marks → FirstsMade l.unit l.marks l.fn.made l.made Kind.Define (map is_procedure (take l.at l.unit.shared.globals.items)) l.lams.items;
}

abbrev pub decreases-globals : goal.decreases-globals
decreases-globals l = length l.unit.shared.globals.items - l.at
