use Rattle.std.proofs.Common.{◌≡◌, ◌++◌, take}
use Rattle.layout_relation.specs.Laid.{variables}
use Rattle.layout_steps.proofs.arguments.push_variables.Given as goal

abbrev pub invariant-loop-var : goal.invariant-loop-var
invariant-loop-var l = l.args.items ≡ l.fn.args.items ++ variables (take l.var-index l.vars)
