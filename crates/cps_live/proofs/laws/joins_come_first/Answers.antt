use Rattle.cps_live.proofs.JoinsFirst.{joins_come_first}
use Rattle.cps_live.proofs.laws.joins_come_first.Goals as goal

pub returns : goal.returns
returns c = joins_come_first
