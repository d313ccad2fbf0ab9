use Rattle.word_drafts.proofs.Joining.{then_writes}
use Rattle.row_drafts.proofs.kinds.ascii_to_char.Goals as goal

pub returns : goal.returns
returns c =
    then_writes _ _ c.args.draft.now c.fixnum.new.self c.make-2.new.self c.in_ok-fixnum.ensures
    (then_writes _ _ c.fixnum.new.self c.need.new.self c.make-2.new.self c.in_ok-need.ensures
    (then_writes _ _ c.need.new.self c.make.new.self c.make-2.new.self c.in_ok-make.ensures
    (c.in_ok-make-2.ensures)))
