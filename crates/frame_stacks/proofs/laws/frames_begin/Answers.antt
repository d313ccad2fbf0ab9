use Rattle.frame_stacks.proofs.Gets.{no_frames}
use Rattle.frame_stacks.proofs.laws.frames_begin.Goals as goal

pub returns : goal.returns
returns c = no_frames
