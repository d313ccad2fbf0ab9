use Rattle.word_drafts.proofs.Joining.{twice_beside}
use Rattle.word_drafts.proofs.drafts.Draft.object.Goals as goal

pub returns : goal.returns
returns c = twice_beside _ _ _ _ c.in_ok-exit.exit c.args.self.now c.fault.new.self c.check.new.self c.line.new.self c.check-2.new.self c.in_ok-exit.ensures c.in_ok-check.ensures c.in_ok-line.ensures.written c.in_ok-check-2.ensures
