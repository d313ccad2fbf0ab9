use Rattle.std.proofs.Common.{◌≡◌, ◌++◌, take}
use Rattle.cps_order.proofs.lambdas.push_lams.Given as goal

abbrev pub invariant-loop-l : goal.invariant-loop-l
invariant-loop-l l = l.out.items ≡ l.fn.out.items ++ take l.l-index l.lams
