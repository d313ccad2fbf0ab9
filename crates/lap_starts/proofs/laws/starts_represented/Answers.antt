use Rattle.lap_starts.proofs.Starting.{starts_represented, homes_serve}
use Rattle.lap_starts.proofs.laws.starts_represented.Goals as goal

pub returns : goal.returns
returns c = record { start = starts_represented; homes = homes_serve }
