use Rattle.m68020_step.proofs.laws.boot_is_in_range.Goals as goal
use Rattle.m68020_step.proofs.RunInRange.{boot_in_range}

pub returns : goal.returns
returns c = boot_in_range
