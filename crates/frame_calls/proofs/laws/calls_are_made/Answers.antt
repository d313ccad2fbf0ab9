use Rattle.frame_calls.proofs.Calling.{call_performs}
use Rattle.frame_calls.proofs.laws.calls_are_made.Goals as goal

pub returns : goal.returns
returns c = call_performs
