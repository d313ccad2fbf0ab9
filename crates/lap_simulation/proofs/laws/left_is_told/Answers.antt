use Rattle.lap_simulation.proofs.Leaving.{left_is_told}
use Rattle.lap_simulation.proofs.laws.left_is_told.Goals as goal

pub returns : goal.returns
returns c = left_is_told
