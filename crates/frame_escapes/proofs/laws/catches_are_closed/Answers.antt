use Rattle.frame_escapes.proofs.Closing.{catch_closed}
use Rattle.frame_escapes.proofs.laws.catches_are_closed.Goals as goal

pub returns : goal.returns
returns c = catch_closed
