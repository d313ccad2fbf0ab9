use Rattle.cps_order.proofs.Names.{named_step}
use Rattle.cps_order.proofs.naming.name_places.Goals as goal

pub places-preserved : goal.places-preserved
places-preserved c =
    named_step c.args.above c.args.places.now c.places.place-index _ c.args.marks.now.items c.places.marks.items c.name_place.new.marks.items c.places-test.true c.places.invariant c.in_ok-name_place.ensures
