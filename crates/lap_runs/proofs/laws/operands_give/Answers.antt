use Rattle.lap_runs.proofs.Operands.{homes_give, variables_give, numbers_give}
use Rattle.lap_runs.proofs.laws.operands_give.Goals as goal

pub returns : goal.returns
returns c = record { homes = homes_give; variables = variables_give; numbers = numbers_give }
