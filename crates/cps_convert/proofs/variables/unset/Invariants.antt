use Rattle.std.proofs.Common.{◌≡◌, take, map}
use Rattle.cps_convert.specs.Naming.{unset_by}
use Rattle.cps_convert.proofs.variables.unset.Given as goal

abbrev pub invariant-vars : goal.invariant-vars
invariant-vars l = l.args.items ≡ map (unset_by l.marks) (take l.var-index l.vars)
