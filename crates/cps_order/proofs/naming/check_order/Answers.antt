use Rattle.std.proofs.Common.{length, subst}
use Rattle.cps_walk.specs.Walks.{root_places}
use Rattle.cps_order.specs.Order.{AreNamed}
use Rattle.cps_order.proofs.Names.{ordered_start, ordered_end}
use Rattle.cps_order.proofs.naming.check_order.Goals as goal

pub returns : goal.returns
returns c =
    let cps = c.args.cps.now in
    let roots = subst (λ l. AreNamed (length cps.terms.items) (root_places cps) l c.name_roots.new.marks.items) c.new-marks.ensures.items c.in_ok-name_roots.ensures in
    ordered_end cps c.name_roots.new.marks.items c.name_terms.new.marks.items roots (c.in_ok-name_terms.ensures (ordered_start cps c.name_roots.new.marks.items roots))
