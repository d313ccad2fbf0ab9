use Rattle.frame_escapes.proofs.Counting.{catches_counted}
use Rattle.frame_escapes.proofs.laws.catches_are_counted.Goals as goal

pub returns : goal.returns
returns c = catches_counted
