use Rattle.word_drafts.proofs.Joining.{then_writes, beside_apart}
use Rattle.word_drafts.proofs.drafts.Draft.character.Goals as goal

pub returns : goal.returns
returns c =
    then_writes _ _ c.args.self.now c.compute.new.self c.check.new.self
    (beside_apart _ _ c.in_ok-over.over c.args.self.now c.never.new.self c.compute.new.self c.in_ok-over.ensures c.in_ok-compute.ensures)
    (beside_apart _ _ c.in_ok-exit.exit c.compute.new.self c.fault.new.self c.check.new.self c.in_ok-exit.ensures c.in_ok-check.ensures)
