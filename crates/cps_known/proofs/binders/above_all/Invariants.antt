use Rattle.std.specs.Prelude.{All}
use Rattle.std.proofs.Common.{◌<◌, ◌≤◌, take}
use Rattle.cps_known.proofs.binders.above_all.Given as goal

abbrev pub invariant-loop-x : goal.invariant-loop-x
invariant-loop-x l = record { more : l.fn.count ≤ l.most; below : All (λ x. x.0 < l.most) (take l.x-index l.vars) }
