use Rattle.std.proofs.Common.{◌≡◌, ◌++◌, take}
use Rattle.cps_ir.specs.Reaches.{without}
use Rattle.cps_live.specs.Gathered.{numbers}
use Rattle.cps_live.proofs.gathering.push_all_unhidden.Given as goal

abbrev pub invariant-loop-x : goal.invariant-loop-x
invariant-loop-x l = l.wanted.items ≡ l.fn.wanted.items ++ without (l.hidden.inner ++ l.hidden.outer) (numbers (take l.x-index l.vars))
