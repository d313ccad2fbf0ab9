use Rattle.frame_escapes.proofs.Calling.{escape_called, dead_escape_fails, wrong_count_fails}
use Rattle.frame_escapes.proofs.laws.escapes_are_called.Goals as goal

pub returns-clause-live : goal.returns-clause-live
returns-clause-live c = escape_called

pub returns-clause-dead : goal.returns-clause-dead
returns-clause-dead c = dead_escape_fails

pub returns-clause-counts : goal.returns-clause-counts
returns-clause-counts c = wrong_count_fails
