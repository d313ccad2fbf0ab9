use Rattle.lap_values.proofs.Lines.{strings_arrive}
use Rattle.lap_values.proofs.laws.strings_arrive.Goals as goal

pub returns : goal.returns
returns c = strings_arrive
