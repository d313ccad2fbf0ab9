use Rattle.frame_cells.proofs.Cells.{cell_is_set}
use Rattle.frame_cells.proofs.laws.cells_are_set.Goals as goal

pub returns : goal.returns
returns c = cell_is_set
