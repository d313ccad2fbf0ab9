use Rattle.word_drafts.proofs.Joining.{beside_apart}
use Rattle.word_drafts.proofs.drafts.Draft.need.Goals as goal

pub returns : goal.returns
returns c = beside_apart _ _ c.in_ok-exit.exit c.args.self.now c.fault.new.self c.check.new.self c.in_ok-exit.ensures c.in_ok-check.ensures
