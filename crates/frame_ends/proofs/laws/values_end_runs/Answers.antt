use Rattle.frame_ends.proofs.Halting.{halt_performs}
use Rattle.frame_ends.proofs.laws.values_end_runs.Goals as goal

pub returns : goal.returns
returns c = halt_performs
