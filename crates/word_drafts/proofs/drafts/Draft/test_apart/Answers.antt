use Rattle.std.proofs.Common.{rules}
use Rattle.word_drafts.proofs.Joining.{test_apart_writes}
use Rattle.word_drafts.proofs.drafts.Draft.test_apart.Goals as goal

pub returns : goal.returns
returns c = test_apart_writes c.args.self.now c.behind.new.self c.new.result.items c.args.kind c.args.a c.args.b c.args.yes c.args.no c.in_ok-place.place c.requires (search rules) c.in_ok-place.ensures
