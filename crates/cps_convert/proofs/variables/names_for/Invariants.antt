use Rattle.std.proofs.Common.{take}
use Rattle.cps_convert.specs.Naming.{AreNamed}
use Rattle.cps_convert.proofs.variables.names_for.Given as goal

abbrev pub invariant-vars : goal.invariant-vars
invariant-vars l = AreNamed l.initial.made l.made l.marks (take l.var-index l.vars) l.names.items
