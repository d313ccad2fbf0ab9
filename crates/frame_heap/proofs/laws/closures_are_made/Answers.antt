use Rattle.frame_heap.proofs.Making.{group_performs}
use Rattle.frame_heap.proofs.laws.closures_are_made.Goals as goal

pub returns : goal.returns
returns c = group_performs
