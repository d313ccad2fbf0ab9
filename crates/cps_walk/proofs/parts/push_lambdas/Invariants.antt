use Rattle.std.proofs.Common.{◌≡◌, ◌++◌, take}
use Rattle.cps_walk.specs.Walks.{bodies_of}
use Rattle.cps_walk.proofs.parts.push_lambdas.Given as goal

abbrev pub invariant-loop-l : goal.invariant-loop-l
invariant-loop-l l = l.waiting.items ≡ l.fn.waiting.items ++ bodies_of l.cps (take l.l-index l.lams)
