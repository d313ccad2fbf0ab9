use Rattle.cps_live.proofs.FewInside.{lambdas_need_few}
use Rattle.cps_live.proofs.laws.lambdas_need_few.Goals as goal

pub returns : goal.returns
returns c = lambdas_need_few
