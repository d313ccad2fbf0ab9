use Rattle.frame_reads.proofs.Records.{closure_read, object_read, cell_read}
use Rattle.frame_reads.proofs.laws.records_are_read.Goals as goal

pub returns-clause-closures : goal.returns-clause-closures
returns-clause-closures c = closure_read

pub returns-clause-objects : goal.returns-clause-objects
returns-clause-objects c = object_read

pub returns-clause-cells : goal.returns-clause-cells
returns-clause-cells c = cell_read
