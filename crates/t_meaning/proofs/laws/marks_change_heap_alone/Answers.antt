use Rattle.t_meaning.proofs.CostTasks.{marks_change_heap_alone, meaning_is_at_most}
use Rattle.t_meaning.proofs.laws.marks_change_heap_alone.Goals as goal

pub returns-clause-marks : goal.returns-clause-marks
returns-clause-marks c = marks_change_heap_alone

pub returns-clause-at_most : goal.returns-clause-at_most
returns-clause-at_most c = meaning_is_at_most
