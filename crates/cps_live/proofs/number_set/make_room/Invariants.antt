use Rattle.std.proofs.Common.{◌≡◌, ℕ, ◌+◌, ◌-◌, length}
use Rattle.cps_walk.specs.Marked.{is_marked}
use Rattle.cps_live.proofs.number_set.make_room.Given as goal

abbrev pub invariant-room : goal.invariant-room
invariant-room l = (y : ℕ) → is_marked l.marks.items y ≡ is_marked l.fn.marks.items y

abbrev pub decreases-room : goal.decreases-room
decreases-room l = l.n + 1 - length l.marks.items
