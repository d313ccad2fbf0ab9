use Rattle.word_drafts.proofs.Joining.{then_writes}
use Rattle.row_drafts.proofs.kinds.is_char.Goals as goal

pub returns : goal.returns
returns c =
    then_writes _ _ c.args.draft.now c.make.new.self c.truth.new.self c.in_ok-make.ensures
    (c.in_ok-truth.ensures)
