use Rattle.std.proofs.Common.{rules}
use Rattle.word_drafts.proofs.Writing.{service_apart}
use Rattle.word_drafts.proofs.drafts.Draft.full.Goals as goal

pub returns : goal.returns
returns c = service_apart c.args.self.now c.behind.new.self c.push-3.new.self.items c.in_ok-place.place 4 _ c.requires (search rules) c.in_ok-place.ensures
