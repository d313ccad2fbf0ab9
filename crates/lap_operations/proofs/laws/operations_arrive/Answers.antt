use Rattle.lap_operations.proofs.Lines.{operations_arrive}
use Rattle.lap_operations.proofs.laws.operations_arrive.Goals as goal

pub returns : goal.returns
returns c = operations_arrive
