use Rattle.frame_stacks.proofs.Raising.{data_of_more, all_raised}
use Rattle.frame_stacks.proofs.laws.older_frames_stay.Goals as goal

pub returns-clause-data_held : goal.returns-clause-data_held
returns-clause-data_held c = data_of_more

pub returns-clause-frames : goal.returns-clause-frames
returns-clause-frames c = all_raised
