use Rattle.cps_reach.proofs.Alike.{reaches_alike}
use Rattle.cps_reach.proofs.laws.reaches_are_alike.Goals as goal

pub returns : goal.returns
returns c = reaches_alike
