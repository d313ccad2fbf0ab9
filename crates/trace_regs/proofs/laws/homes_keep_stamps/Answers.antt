use Rattle.trace_regs.proofs.StampedKeeping.{stamped_homes_run_alike, stamped_homes_keep}
use Rattle.trace_regs.proofs.laws.homes_keep_stamps.Goals as goal

pub returns-clause-alike : goal.returns-clause-alike
returns-clause-alike c = stamped_homes_run_alike

pub returns-clause-keeps : goal.returns-clause-keeps
returns-clause-keeps c = stamped_homes_keep
