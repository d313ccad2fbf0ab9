use Rattle.std.proofs.Common.{◌≡◌, ◌++◌, reverse, length}
use Rattle.cps_walk.proofs.parts.move_over.Given as goal

abbrev pub invariant-loop-place : goal.invariant-loop-place
invariant-loop-place l = l.waiting.items ++ reverse l.parts.items ≡ l.fn.waiting.items ++ reverse l.fn.parts.items

abbrev pub decreases-loop-place : goal.decreases-loop-place
decreases-loop-place l = length l.parts.items
