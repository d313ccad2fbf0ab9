use Rattle.word_drafts.proofs.Joining.{beside_apart}
use Rattle.word_drafts.proofs.drafts.Draft.make.Goals as goal

pub returns : goal.returns
returns c = beside_apart _ _ c.in_ok-exit.exit c.args.self.now c.never.new.self c.compute.new.self c.in_ok-exit.ensures c.in_ok-compute.ensures
