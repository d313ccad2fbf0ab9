use Rattle.std.proofs.Common.{◌≡◌, ◌-◌, ◌<◌, ◌≤◌, ℕ, true}
use Rattle.cps_walk.specs.Marked.{is_marked}
use Rattle.cps_order.proofs.lambdas.are_marked.Given as goal

abbrev pub invariant-marks : goal.invariant-marks
invariant-marks l = record {
  within : l.at ≤ l.count;
  marked : (x : ℕ) → x < l.at → is_marked l.marks x ≡ true;
}

abbrev pub decreases-marks : goal.decreases-marks
decreases-marks l = l.count - l.at
