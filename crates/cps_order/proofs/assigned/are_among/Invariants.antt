use Rattle.std.proofs.Common.{◌≡◌, ◌-◌, ◌<◌, ◌≤◌, ℕ, true, length}
use Rattle.cps_walk.specs.Marked.{is_marked}
use Rattle.cps_order.proofs.assigned.are_among.Given as goal

abbrev pub invariant-marks : goal.invariant-marks
invariant-marks l = record {
  within : l.at ≤ length l.marks;
  among : (x : ℕ) → x < l.at → is_marked l.marks x ≡ true → is_marked l.others x ≡ true;
}

abbrev pub decreases-marks : goal.decreases-marks
decreases-marks l = length l.marks - l.at
