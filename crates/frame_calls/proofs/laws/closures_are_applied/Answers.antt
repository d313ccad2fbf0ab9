use Rattle.frame_calls.proofs.Applying.{closure_applied}
use Rattle.frame_calls.proofs.laws.closures_are_applied.Goals as goal

pub returns : goal.returns
returns c = closure_applied
