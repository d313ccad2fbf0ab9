use Rattle.lap_jumps.proofs.Distinct.{params_distinct}
use Rattle.lap_jumps.proofs.laws.params_distinct.Goals as goal

pub returns : goal.returns
returns c = params_distinct
