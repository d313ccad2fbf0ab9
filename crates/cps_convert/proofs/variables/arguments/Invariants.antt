use Rattle.std.proofs.Common.{◌≡◌, take}
use Rattle.cps_conversion.specs.Conversion.{variables}
use Rattle.cps_convert.proofs.variables.arguments.Given as goal

abbrev pub invariant-vars : goal.invariant-vars
invariant-vars l = l.args.items ≡ variables (take l.var-index l.vars)
