use Rattle.std.proofs.Common.{◌≡◌, ◌≤◌, drop, length}
use Rattle.cps_convert.specs.Naming.{SetsAll}
use Rattle.cps_convert.proofs.variables.set_assigned.Given as goal

abbrev pub invariant-vars : goal.invariant-vars
invariant-vars l = record {
  within : l.at ≤ length l.vars;
  inside : l.at ≤ length l.names;
  binds : length l.vars ≡ length l.names → SetsAll l.initial.made l.made l.marks (drop l.at l.vars) (drop l.at l.names) l.place l.start;
}

abbrev pub decreases-vars : goal.decreases-vars
decreases-vars l = l.at
