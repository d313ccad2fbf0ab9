use Rattle.frame_calls.proofs.Entering.{entry_performs, entry_fails}
use Rattle.frame_calls.proofs.laws.codes_are_entered.Goals as goal

pub returns-clause-entries : goal.returns-clause-entries
returns-clause-entries c = entry_performs

pub returns-clause-counts : goal.returns-clause-counts
returns-clause-counts c = entry_fails
