use Rattle.layout_laws.proofs.OwnArms.{own_arms}
use Rattle.layout_laws.proofs.distinct_arms_are_own.Goals as goal

pub returns : goal.returns
returns c = own_arms
