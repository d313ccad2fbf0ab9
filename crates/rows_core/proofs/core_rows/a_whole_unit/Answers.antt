use Rattle.rows_core.proofs.CallUnitLemmas.{call_bulk}
use Rattle.rows_core.proofs.core_rows.a_whole_unit.Goals as goal

pub weight-requires-clause-lower : goal.weight-requires-clause-lower
weight-requires-clause-lower g c = c.in_ok-unit.ensures.whole.shared.parts.lower

pub weight-requires-clause-fits : goal.weight-requires-clause-fits
weight-requires-clause-fits g c = call_bulk c.in_ok-unit.unit c.in_ok-unit.ensures.unit
