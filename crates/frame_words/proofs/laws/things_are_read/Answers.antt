use Rattle.frame_words.proofs.Reading.{heap_reads, fixed_reads}
use Rattle.frame_words.proofs.laws.things_are_read.Goals as goal

pub returns-clause-heap : goal.returns-clause-heap
returns-clause-heap c = heap_reads

pub returns-clause-fixed : goal.returns-clause-fixed
returns-clause-fixed c = fixed_reads
