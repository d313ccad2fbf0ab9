use Rattle.word_drafts.proofs.Joining.{stop_writes}
use Rattle.word_drafts.proofs.drafts.Draft.stop.Goals as goal

pub returns : goal.returns
returns c = stop_writes c.args.self.now c.split.new.self c.requires c.in_ok-split.ensures
