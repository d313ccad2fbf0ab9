use Rattle.select_rows.proofs.Table.{rows_performed}
use Rattle.select_rows.proofs.laws.rows_are_performed.Goals as goal

pub returns : goal.returns
returns c = rows_performed
