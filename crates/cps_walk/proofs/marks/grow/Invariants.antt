use Rattle.std.proofs.Common.{◌≡◌, ℕ, ◌+◌, ◌-◌, length}
use Rattle.cps_walk.specs.Marked.{is_marked}
use Rattle.cps_walk.proofs.marks.grow.Given as goal

abbrev pub invariant-loop-marks : goal.invariant-loop-marks
invariant-loop-marks l = (y : ℕ) → is_marked l.marks.items y ≡ is_marked l.fn.marks.items y

abbrev pub decreases-loop-marks : goal.decreases-loop-marks
decreases-loop-marks l = l.n + 1 - length l.marks.items
