use Rattle.cps_live.proofs.FewNeeded.{few_are_needed}
use Rattle.cps_live.proofs.laws.few_are_needed.Goals as goal

pub returns : goal.returns
returns c = few_are_needed
