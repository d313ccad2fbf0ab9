use Rattle.frame_stacks.proofs.Pops.{pop_performs}
use Rattle.frame_stacks.proofs.laws.frames_are_popped.Goals as goal

pub returns : goal.returns
returns c = pop_performs
