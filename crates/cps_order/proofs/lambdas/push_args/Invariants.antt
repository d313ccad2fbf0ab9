use Rattle.std.proofs.Common.{◌≡◌, ◌++◌, take}
use Rattle.std.specs.List.{filter_map}
use Rattle.cps_ir.specs.Parts.{proc_of}
use Rattle.cps_order.proofs.lambdas.push_args.Given as goal

abbrev pub invariant-loop-arg : goal.invariant-loop-arg
invariant-loop-arg l = l.out.items ≡ l.fn.out.items ++ filter_map proc_of (take l.arg-index l.args)
