use Rattle.std.proofs.Common.{◌≡◌, ◌++◌, take}
use Rattle.cps_live.proofs.operands.push_places.Given as goal

abbrev pub invariant-loop-place : goal.invariant-loop-place
invariant-loop-place l = l.lams.items ≡ l.fn.lams.items ++ take l.place-index l.places
