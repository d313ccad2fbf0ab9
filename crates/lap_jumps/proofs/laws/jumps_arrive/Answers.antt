use Rattle.lap_jumps.proofs.Jumping.{jumps_arrive}
use Rattle.lap_jumps.proofs.laws.jumps_arrive.Goals as goal

pub returns : goal.returns
returns c = jumps_arrive
