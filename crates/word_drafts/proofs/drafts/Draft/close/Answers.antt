use Rattle.word_drafts.proofs.Joining.{close_closes}
use Rattle.word_drafts.proofs.drafts.Draft.close.Goals as goal

pub returns : goal.returns
returns c = close_closes c.args.self.now c.split.new.self c.args.end c.requires c.in_ok-split.ensures
