use Rattle.frame_stacks.proofs.Gets.{frame_get_performs}
use Rattle.frame_stacks.proofs.laws.frames_are_read.Goals as goal

pub returns : goal.returns
returns c = frame_get_performs
