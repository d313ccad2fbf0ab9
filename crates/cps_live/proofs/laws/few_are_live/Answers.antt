use Rattle.cps_live.proofs.Fewness.{few_are_live}
use Rattle.cps_live.proofs.laws.few_are_live.Goals as goal

pub returns : goal.returns
returns c = few_are_live
