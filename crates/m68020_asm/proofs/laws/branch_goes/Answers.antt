use Rattle.m68020_asm.proofs.Runs.{branch_goes}
use Rattle.m68020_asm.proofs.laws.branch_goes.Goals as goal

pub returns : goal.returns
returns c items bytes labels m r k j n cond h can here there = branch_goes items bytes labels can h m r k j n cond here there
