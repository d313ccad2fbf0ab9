use Rattle.m68020_step.proofs.laws.step_keeps_range.Goals as goal
use Rattle.m68020_step.proofs.RunInRange.{step_keeps_range}

pub returns : goal.returns
returns c = step_keeps_range
