use Rattle.word_drafts.proofs.Joining.{then_writes}
use Rattle.row_drafts.proofs.numbers.dec.Goals as goal

pub returns : goal.returns
returns c =
    then_writes _ _ c.args.draft.now c.fixnum.new.self c.number.new.self c.in_ok-fixnum.ensures
    (c.in_ok-number.ensures)
