use Rattle.std.proofs.Common.{rules, arith}
use Rattle.rows_core.proofs.UnitLemmas.{list_lower, list_small, pushed}
use Rattle.rows_core.proofs.core_rows.check_quoted_unit.Goals as goal

pub limits-requires-clause-lower : goal.limits-requires-clause-lower
limits-requires-clause-lower g c = list_lower c.args.count c.in_ok-ones.field-0.items c.in_ok-shared_of.field-0.pairs.items c.in_ok-ones.ensures c.in_ok-shared_of.ensures.pairs_are

pub limits-requires-clause-fits : goal.limits-requires-clause-fits
limits-requires-clause-fits g c =
    let small = list_small c.args.count c.in_ok-ones.field-0.items c.in_ok-shared_of.field-0.pairs.items c.in_ok-quote_form.field-0 c.in_ok-ones.ensures c.in_ok-shared_of.ensures.pairs_are c.in_ok-quote_form.ensures (search rules) (search rules) in
    let one = pushed c.in_ok-quote_form.field-0 c.in_ok-push.ensures.items c.new-forms.ensures.items in
    rw one (omega (arith, small))
