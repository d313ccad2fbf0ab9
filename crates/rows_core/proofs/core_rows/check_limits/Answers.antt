use Rattle.std.proofs.Common.{◌∙◌, arith}
use Rattle.rows_core.proofs.UnitLemmas.{no_pairs_lower}
use Rattle.rows_core.proofs.core_rows.check_limits.Goals as goal

pub limits-requires-clause-lower : goal.limits-requires-clause-lower
limits-requires-clause-lower g c = no_pairs_lower c.in_ok-shared_of.field-0.pairs.items (c.in_ok-shared_of.ensures.pairs_are ∙ c.new.ensures.items)

pub limits-requires-clause-fits : goal.limits-requires-clause-fits
limits-requires-clause-fits g c = omega (arith, c.in_ok-lambda_forms.ensures c.in_ok-shared_of.field-0.pairs.items)
