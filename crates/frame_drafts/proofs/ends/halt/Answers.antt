use Rattle.word_drafts.proofs.Joining.{then_closes}
use Rattle.frame_drafts.proofs.ends.halt.Goals as goal

pub returns : goal.returns
returns c = then_closes _ _ c.args.draft.now c.put.new.self c.close.new.self c.in_ok-put.ensures c.in_ok-close.ensures
