use Rattle.made_values.proofs.Rows.{row_kept}
use Rattle.made_values.proofs.rows_keep_made.Goals as goal

pub returns : goal.returns
returns c = row_kept
