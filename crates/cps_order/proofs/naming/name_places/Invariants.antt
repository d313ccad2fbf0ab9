use Rattle.std.proofs.Common.{take}
use Rattle.cps_order.specs.Order.{AreNamed}
use Rattle.cps_order.proofs.naming.name_places.Given as goal

abbrev pub invariant-places : goal.invariant-places
invariant-places l = AreNamed l.above (take l.place-index l.places) l.fn.marks.items l.marks.items
