use Rattle.selection_runs.proofs.Keeping.{selected_keeps_stamped, selected_keeps}
use Rattle.selection_runs.proofs.laws.selected_words_keep.Goals as goal

pub returns-clause-stamped : goal.returns-clause-stamped
returns-clause-stamped c = selected_keeps_stamped

pub returns-clause-plain : goal.returns-clause-plain
returns-clause-plain c = selected_keeps
