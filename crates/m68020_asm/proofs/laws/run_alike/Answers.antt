use Rattle.m68020_asm.proofs.Runs.{run_alike}
use Rattle.m68020_asm.proofs.laws.run_alike.Goals as goal

pub returns-clause-state : goal.returns-clause-state
returns-clause-state c items bytes labels s t n h can code e = (run_alike items bytes labels can h s t n code e).0

pub returns-clause-code : goal.returns-clause-code
returns-clause-code c items bytes labels s t n h can code e = (run_alike items bytes labels can h s t n code e).1
