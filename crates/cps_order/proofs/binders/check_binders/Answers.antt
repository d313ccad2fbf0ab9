use Rattle.std.proofs.Common.{◌^◌, [], subst}
use Rattle.std.specs.List.{flat_map}
use Rattle.cps_ir.specs.Parts.{own_binders, lam_binders}
use Rattle.cps_order.specs.Order.{AreNamed}
use Rattle.cps_order.proofs.Names.{bound_once}
use Rattle.cps_order.proofs.binders.check_binders.Goals as goal

pub returns : goal.returns
returns c =
    let cps = c.args.cps.now in
    let terms = subst (λ l. AreNamed (2 ^ 32) (flat_map own_binders c.as_slice.result.now) l c.bind_terms.new.marks.items) c.new-marks.ensures.items c.in_ok-bind_terms.ensures in
    bound_once (2 ^ 32) (flat_map own_binders cps.terms.items) (flat_map lam_binders cps.lams.items) c.bind_terms.new.marks.items c.bind_lams.new.marks.items
    (subst (λ l. AreNamed (2 ^ 32) (flat_map own_binders l) [] c.bind_terms.new.marks.items) c.as_slice.ensures.value terms)
    (subst (λ l. AreNamed (2 ^ 32) (flat_map lam_binders l) c.bind_terms.new.marks.items c.bind_lams.new.marks.items) c.as_slice-2.ensures.value c.in_ok-bind_lams.ensures)
