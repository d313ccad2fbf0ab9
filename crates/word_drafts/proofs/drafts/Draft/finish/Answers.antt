use Rattle.std.proofs.Common.{rules}
use Rattle.word_drafts.proofs.Writing.{finishes}
use Rattle.word_drafts.proofs.drafts.Draft.finish.Goals as goal

pub returns : goal.returns
returns c = finishes _ (search rules) (search rules)
