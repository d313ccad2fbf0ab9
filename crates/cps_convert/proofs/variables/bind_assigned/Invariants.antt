use Rattle.std.proofs.Common.{◌≡◌, ◌≤◌, drop, length}
use Rattle.cps_convert.specs.Naming.{BindsAll}
use Rattle.cps_convert.proofs.variables.bind_assigned.Given as goal

abbrev pub invariant-vars : goal.invariant-vars
invariant-vars l = record {
  within : l.at ≤ length l.vars;
  inside : l.at ≤ length l.args;
  binds : length l.vars ≡ length l.args → BindsAll l.initial.made l.made l.marks (drop l.at l.vars) (drop l.at l.args) l.place l.start;
}

abbrev pub decreases-vars : goal.decreases-vars
decreases-vars l = l.at
