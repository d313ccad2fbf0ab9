use Rattle.std.proofs.Common.{◌≡◌, ◌++◌, take}
use Rattle.cps_live.proofs.operands.push_args.Given as goal

abbrev pub invariant-loop-arg : goal.invariant-loop-arg
invariant-loop-arg l = l.args.items ≡ l.fn.args.items ++ take l.arg-index l.from
