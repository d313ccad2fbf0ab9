use Rattle.word_drafts.proofs.Joining.{then_writes}
use Rattle.frame_drafts.proofs.reads.global_change.Goals as goal

pub returns : goal.returns
returns c = then_writes _ _ c.args.draft.now c.global_get.new.draft c.global_set.new.draft c.in_ok-global_get.ensures c.in_ok-global_set.ensures
