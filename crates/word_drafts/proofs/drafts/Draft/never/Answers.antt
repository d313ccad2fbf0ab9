use Rattle.std.proofs.Common.{rules}
use Rattle.word_drafts.proofs.Writing.{stop_apart}
use Rattle.word_drafts.proofs.drafts.Draft.never.Goals as goal

pub returns : goal.returns
returns c = stop_apart c.args.self.now c.behind.new.self c.new.result.items c.in_ok-place.place c.requires (search rules) c.in_ok-place.ensures
