use Rattle.lap_jumps.proofs.Carrying.{moves_carry}
use Rattle.lap_jumps.proofs.laws.moves_carry.Goals as goal

pub returns : goal.returns
returns c = moves_carry
