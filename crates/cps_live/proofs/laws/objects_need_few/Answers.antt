use Rattle.cps_live.proofs.FewInside.{objects_need_few}
use Rattle.cps_live.proofs.laws.objects_need_few.Goals as goal

pub returns : goal.returns
returns c = objects_need_few
