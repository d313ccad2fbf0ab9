use Rattle.lap_values.proofs.Lines.{values_arrive}
use Rattle.lap_values.proofs.laws.values_arrive.Goals as goal

pub returns : goal.returns
returns c = values_arrive
