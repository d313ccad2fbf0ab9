use Rattle.std.proofs.Common.{rules, ◌≡◌, ◌-◌, suc, true, subst, arith}
use Rattle.cps_walk.specs.Marked.{is_marked}
use Rattle.cps_walk.specs.Walks.{part_places}
use Rattle.cps_order.specs.Order.{AreNamed}
use Rattle.cps_order.proofs.Names.{ordered_step}
use Rattle.cps_order.proofs.naming.name_terms.Goals as goal

pub terms-preserved : goal.terms-preserved
terms-preserved c =
    let cps = c.args.cps.now in
    let at = c.terms.at - 1 in
    let up : c.terms.at ≡ suc at = omega (arith, c.terms-test.true) in
    let place : c.in-Ok.place ≡ at = search rules in
    let marked : is_marked c.terms.marks.items at ≡ true = subst (λ n. is_marked c.terms.marks.items n ≡ true) place (search rules) in
    record {
      within = omega (arith, c.terms.invariant.within);
      ordered = λ start.
          ordered_step cps c.terms.at at c.index.result.now c.terms.marks.items c.name_parts.new.marks.items up c.terms.invariant.within marked (c.terms.invariant.ordered start)
          (subst (λ t. AreNamed at (part_places cps t) c.terms.marks.items c.name_parts.new.marks.items) c.index.ensures c.in_ok-name_parts.ensures);
    }
