use Rattle.lap_ends.proofs.Codes.{codes_apart}
use Rattle.lap_ends.proofs.laws.codes_apart.Goals as goal

pub returns : goal.returns
returns c = codes_apart
