use Rattle.std.proofs.Common.{◌≡◌, ◌++◌, take}
use Rattle.cps_ir.specs.Parts.{arg_variables}
use Rattle.cps_live.proofs.operands.push_variables.Given as goal

abbrev pub invariant-loop-arg : goal.invariant-loop-arg
invariant-loop-arg l = l.wanted.items ≡ l.fn.wanted.items ++ arg_variables (take l.arg-index l.args)
