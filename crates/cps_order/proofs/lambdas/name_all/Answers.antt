use Rattle.std.proofs.Common.{subst}
use Rattle.cps_ir.specs.Parts.{lams_of}
use Rattle.cps_order.specs.Order.{AreNamed}
use Rattle.cps_order.proofs.Names.{flat_named}
use Rattle.cps_order.proofs.lambdas.name_all.Goals as goal

pub terms-preserved : goal.terms-preserved
terms-preserved c =
    flat_named lams_of c.args.count c.args.terms.now c.terms.term-index c.term-item.result c.args.marks.now.items c.terms.marks.items c.name_lambdas.new.marks.items c.terms-test.true c.terms.invariant
    (subst (λ t. AreNamed c.args.count (lams_of t) c.terms.marks.items c.name_lambdas.new.marks.items) c.term-item.is c.in_ok-name_lambdas.ensures)
