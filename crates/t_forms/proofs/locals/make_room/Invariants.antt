use Rattle.std.proofs.Common.{◌≡◌, ℕ, ◌+◌, ◌-◌, length}
use Rattle.t_forms.specs.Lookup.{slot}
use Rattle.t_forms.proofs.locals.make_room.Given as goal

abbrev pub invariant-room : goal.invariant-room
invariant-room l = (k : ℕ) → slot l.slots.items k ≡ slot l.fn.slots.items k

abbrev pub decreases-room : goal.decreases-room
decreases-room l = l.at + 1 - length l.slots.items
