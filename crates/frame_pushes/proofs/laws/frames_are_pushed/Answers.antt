use Rattle.frame_pushes.proofs.Pushing.{push_holds}
use Rattle.frame_pushes.proofs.laws.frames_are_pushed.Goals as goal

pub returns : goal.returns
returns c = push_holds
