use Rattle.word_drafts.proofs.Joining.{beside_apart}
use Rattle.word_drafts.proofs.drafts.Draft.room.Goals as goal

pub returns : goal.returns
returns c = beside_apart _ _ c.in_ok-full.full c.args.self.now c.no_heap.new.self c.take.new.self c.in_ok-full.ensures c.in_ok-take.ensures
