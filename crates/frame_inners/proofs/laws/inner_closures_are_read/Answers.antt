use Rattle.frame_inners.proofs.Inner.{inner_read}
use Rattle.frame_inners.proofs.laws.inner_closures_are_read.Goals as goal

pub returns : goal.returns
returns c = inner_read
