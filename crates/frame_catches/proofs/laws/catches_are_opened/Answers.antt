use Rattle.frame_catches.proofs.Opening.{catch_opened}
use Rattle.frame_catches.proofs.laws.catches_are_opened.Goals as goal

pub returns : goal.returns
returns c = catch_opened
