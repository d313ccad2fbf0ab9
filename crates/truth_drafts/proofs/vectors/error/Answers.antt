use Rattle.word_drafts.proofs.Joining.{then_writes}
use Rattle.truth_drafts.proofs.vectors.error.Goals as goal

pub returns : goal.returns
returns c =
    then_writes _ _ c.args.draft.now c.fixnum.new.self c.stop.new.self c.in_ok-fixnum.ensures
    (then_writes _ _ c.fixnum.new.self c.raise.new.draft c.stop.new.self c.in_ok-raise.ensures c.in_ok-stop.ensures)
