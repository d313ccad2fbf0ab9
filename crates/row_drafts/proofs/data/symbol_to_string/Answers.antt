use Rattle.word_drafts.proofs.Joining.{then_writes}
use Rattle.row_drafts.proofs.data.symbol_to_string.Goals as goal

pub returns : goal.returns
returns c =
    then_writes _ _ c.args.draft.now c.object.new.self c.line.new.self c.in_ok-object.ensures
    (c.in_ok-line.ensures.written)
