use Rattle.frame_stacks.proofs.Pushes.{push_ends}
use Rattle.frame_stacks.proofs.laws.no_frame_is_pushed_without_room.Goals as goal

pub returns : goal.returns
returns c = push_ends
