use Rattle.lap_shapes.proofs.Assembled.{can_be_assembled}
use Rattle.lap_shapes.proofs.laws.can_be_assembled.Goals as goal

pub returns : goal.returns
returns c = can_be_assembled
