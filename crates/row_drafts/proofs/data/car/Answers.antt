use Rattle.word_drafts.proofs.Joining.{then_writes}
use Rattle.row_drafts.proofs.data.car.Goals as goal

pub returns : goal.returns
returns c =
    then_writes _ _ c.args.draft.now c.pair.new.self c.line.new.self c.in_ok-pair.ensures
    (c.in_ok-line.ensures.written)
