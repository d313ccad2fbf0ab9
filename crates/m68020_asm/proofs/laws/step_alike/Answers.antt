use Rattle.m68020_asm.proofs.Runs.{step_alike}
use Rattle.m68020_asm.proofs.laws.step_alike.Goals as goal

pub returns : goal.returns
returns c items bytes labels s x h can code e = step_alike items bytes labels can h s x code e
