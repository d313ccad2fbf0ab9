use Rattle.std.proofs.Common.{◌≤◌, ◌-◌, take, length}
use Rattle.cps_convert.specs.Claims.{HasMarks}
use Rattle.cps_convert.specs.Operands.{AreLetsAdded}
use Rattle.cps_convert.proofs.operands.let_operands.Given as goal

abbrev pub invariant-vars : goal.invariant-vars
invariant-vars l = record {
  within : l.at ≤ length l.vars;
  inside : l.at ≤ length l.keys;
  added : HasMarks l.unit l.marks → AreLetsAdded l.unit l.form l.initial.made l.made (take l.at l.vars) (take l.at l.keys) l.args.items l.initial.jobs.items l.jobs.items;
}

abbrev pub decreases-vars : goal.decreases-vars
decreases-vars l = length l.vars - l.at
