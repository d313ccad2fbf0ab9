use Rattle.m68020_asm.proofs.Runs.{address_taken}
use Rattle.m68020_asm.proofs.laws.address_taken.Goals as goal

pub returns : goal.returns
returns c = address_taken
