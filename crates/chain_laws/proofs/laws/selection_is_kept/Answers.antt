use Rattle.chain_laws.proofs.Selected.{selected_is_kept}
use Rattle.chain_laws.proofs.laws.selection_is_kept.Goals as goal

pub returns : goal.returns
returns c = selected_is_kept c.selected_words_keep.ensures.plain
