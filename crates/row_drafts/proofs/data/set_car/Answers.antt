use Rattle.word_drafts.proofs.Joining.{then_writes}
use Rattle.row_drafts.proofs.data.set_car.Goals as goal

pub returns : goal.returns
returns c =
    then_writes _ _ c.args.draft.now c.pair.new.self c.line-2.new.self c.in_ok-pair.ensures
    (then_writes _ _ c.pair.new.self c.line.new.self c.line-2.new.self c.in_ok-line.ensures.written
    (c.in_ok-line-2.ensures.written))
