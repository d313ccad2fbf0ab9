use Rattle.assign_convert.proofs.Kept.{cells_keep}
use Rattle.assign_convert.proofs.laws.cells_keep_meaning.Goals as goal

pub returns : goal.returns
returns c = cells_keep
