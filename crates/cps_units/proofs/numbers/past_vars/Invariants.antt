use Rattle.std.proofs.Common.{take}
use Rattle.cps_units.specs.Numbers.{IsPast}
use Rattle.cps_units.proofs.numbers.past_vars.Given as goal

abbrev pub invariant-vars : goal.invariant-vars
invariant-vars l = IsPast l.least l.past (take l.var-index l.vars)
