use Rattle.frame_reads.proofs.Globals.{global_read, global_fails}
use Rattle.frame_reads.proofs.laws.globals_are_read.Goals as goal

pub returns-clause-bound : goal.returns-clause-bound
returns-clause-bound c = global_read

pub returns-clause-unbound : goal.returns-clause-unbound
returns-clause-unbound c = global_fails
