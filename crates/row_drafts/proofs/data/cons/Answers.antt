use Rattle.word_drafts.proofs.Joining.{then_writes}
use Rattle.row_drafts.proofs.data.cons.Goals as goal

pub returns : goal.returns
returns c =
    then_writes _ _ c.args.draft.now c.room.new.self c.make.new.self c.in_ok-room.ensures
    (then_writes _ _ c.room.new.self c.line.new.self c.make.new.self c.in_ok-line.ensures.written
    (then_writes _ _ c.line.new.self c.line-2.new.self c.make.new.self c.in_ok-line-2.ensures.written
    (c.in_ok-make.ensures)))
