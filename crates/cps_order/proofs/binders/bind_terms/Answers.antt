use Rattle.std.proofs.Common.{◌^◌, subst}
use Rattle.cps_ir.specs.Parts.{own_binders}
use Rattle.cps_order.specs.Order.{AreNamed}
use Rattle.cps_order.proofs.Names.{flat_named}
use Rattle.cps_order.proofs.binders.bind_terms.Goals as goal

pub terms-preserved : goal.terms-preserved
terms-preserved c =
    flat_named own_binders (2 ^ 32) c.args.terms.now c.terms.term-index c.term-item.result c.args.marks.now.items c.terms.marks.items c.bind_term.new.marks.items c.terms-test.true c.terms.invariant
    (subst (λ t. AreNamed (2 ^ 32) (own_binders t) c.terms.marks.items c.bind_term.new.marks.items) c.term-item.is c.in_ok-bind_term.ensures)
