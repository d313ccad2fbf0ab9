use Rattle.m68020_asm.proofs.Runs.{item_step_at}
use Rattle.m68020_asm.proofs.laws.item_step_at.Goals as goal

pub returns : goal.returns
returns c = item_step_at
