use Rattle.std.proofs.Common.{◌≡◌, ◌++◌, take}
use Rattle.cps_walk.specs.Walks.{bodies_in}
use Rattle.cps_walk.proofs.parts.push_args.Given as goal

abbrev pub invariant-loop-arg : goal.invariant-loop-arg
invariant-loop-arg l = l.waiting.items ≡ l.fn.waiting.items ++ bodies_in l.cps (take l.arg-index l.args)
