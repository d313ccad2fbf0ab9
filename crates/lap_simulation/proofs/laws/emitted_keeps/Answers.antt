use Rattle.lap_simulation.proofs.Keeping.{emitted_keeps}
use Rattle.lap_simulation.proofs.laws.emitted_keeps.Goals as goal

pub returns : goal.returns
returns c = emitted_keeps
