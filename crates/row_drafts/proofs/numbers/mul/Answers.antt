use Rattle.word_drafts.proofs.Joining.{then_writes}
use Rattle.row_drafts.proofs.numbers.mul.Goals as goal

pub returns : goal.returns
returns c =
    then_writes _ _ c.args.draft.now c.fixnum.new.self c.number.new.self c.in_ok-fixnum.ensures
    (then_writes _ _ c.fixnum.new.self c.fixnum-2.new.self c.number.new.self c.in_ok-fixnum-2.ensures
    (then_writes _ _ c.fixnum-2.new.self c.make.new.self c.number.new.self c.in_ok-make.ensures
    (c.in_ok-number.ensures)))
