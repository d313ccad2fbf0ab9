use Rattle.std.proofs.Common.{rules}
use Rattle.rows_core.proofs.UnitLemmas.{list_lower, list_small}
use Rattle.rows_core.proofs.core_rows.check_list.Goals as goal

pub nodes-requires-clause-lower : goal.nodes-requires-clause-lower
nodes-requires-clause-lower g c = list_lower c.args.count c.in_ok-ones.field-0.items c.in_ok-shared.shared.pairs.items c.in_ok-ones.ensures c.in_ok-shared.ensures.pairs_are

pub nodes-requires-clause-fits : goal.nodes-requires-clause-fits
nodes-requires-clause-fits g c = list_small c.args.count c.in_ok-ones.field-0.items c.in_ok-shared.shared.pairs.items c.in_ok-form.form c.in_ok-ones.ensures c.in_ok-shared.ensures.pairs_are c.in_ok-form.ensures (search rules) (search rules)
