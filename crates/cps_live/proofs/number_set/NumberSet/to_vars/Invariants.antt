use Rattle.std.proofs.Common.{◌≡◌, take}
use Rattle.cps_live.specs.Gathered.{numbers}
use Rattle.cps_live.proofs.number_set.NumberSet.to_vars.Given as goal

abbrev pub invariant-loop-n : goal.invariant-loop-n
invariant-loop-n l = numbers l.vars.items ≡ take l.n-index l.n-items
