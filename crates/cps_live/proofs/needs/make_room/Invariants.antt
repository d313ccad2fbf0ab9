use Rattle.std.proofs.Common.{◌≡◌, ℕ, ◌+◌, ◌-◌, length}
use Rattle.cps_live.specs.Gathered.{list_at}
use Rattle.cps_live.proofs.needs.make_room.Given as goal

abbrev pub invariant-room : goal.invariant-room
invariant-room l = (m : ℕ) → list_at l.lists.items m ≡ list_at l.fn.lists.items m

abbrev pub decreases-room : goal.decreases-room
decreases-room l = l.at + 1 - length l.lists.items
