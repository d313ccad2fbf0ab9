use Rattle.frame_inners.proofs.Inner.{inner_applied}
use Rattle.frame_inners.proofs.laws.inner_closures_are_applied.Goals as goal

pub returns : goal.returns
returns c = inner_applied
