use Rattle.std.proofs.Common.{◌^◌, subst}
use Rattle.cps_ir.specs.Parts.{lam_binders}
use Rattle.cps_order.specs.Order.{AreNamed}
use Rattle.cps_order.proofs.Names.{flat_named}
use Rattle.cps_order.proofs.binders.bind_lams.Goals as goal

pub lams-preserved : goal.lams-preserved
lams-preserved c =
    flat_named lam_binders (2 ^ 32) c.args.lams.now c.lams.lam-index c.lam-item.result c.args.marks.now.items c.lams.marks.items c.bind_lam.new.marks.items c.lams-test.true c.lams.invariant
    (subst (λ t. AreNamed (2 ^ 32) (lam_binders t) c.lams.marks.items c.bind_lam.new.marks.items) c.lam-item.is c.in_ok-bind_lam.ensures)
