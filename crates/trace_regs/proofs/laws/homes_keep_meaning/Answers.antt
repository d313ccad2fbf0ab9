use Rattle.trace_regs.proofs.Keeping.{homes_run_alike, homes_keep}
use Rattle.trace_regs.proofs.laws.homes_keep_meaning.Goals as goal

pub returns-clause-alike : goal.returns-clause-alike
returns-clause-alike c = homes_run_alike

pub returns-clause-keeps : goal.returns-clause-keeps
returns-clause-keeps c = homes_keep
