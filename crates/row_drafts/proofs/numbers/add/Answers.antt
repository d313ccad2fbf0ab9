use Rattle.word_drafts.proofs.Joining.{then_writes}
use Rattle.row_drafts.proofs.numbers.add.Goals as goal

pub returns : goal.returns
returns c =
    then_writes _ _ c.args.draft.now c.fixnum.new.self c.number.new.self c.in_ok-fixnum.ensures
    (then_writes _ _ c.fixnum.new.self c.fixnum-2.new.self c.number.new.self c.in_ok-fixnum-2.ensures
    (c.in_ok-number.ensures))
