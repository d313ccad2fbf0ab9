use Rattle.std.proofs.Common.{◌≡◌, ◌-◌, [], length}
use Rattle.cps_ir.specs.Parts.{walked}
use Rattle.cps_walk.proofs.Walked.{IsOnItsWay}
use Rattle.cps_walk.proofs.walks.walk.Given as goal

abbrev pub invariant-loop-place : goal.invariant-loop-place
invariant-loop-place l = record { empty : l.parts.items ≡ []; way : IsOnItsWay l.cps l.places.items l.waiting.items }

abbrev pub decreases-loop-place : goal.decreases-loop-place
decreases-loop-place l = length (walked l.cps) - length l.places.items
