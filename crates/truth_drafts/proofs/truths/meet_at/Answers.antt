use Rattle.std.proofs.Common.{rules, ◌≡◌, length}
use Rattle.truth_drafts.proofs.Joining.{meets}
use Rattle.truth_drafts.proofs.truths.meet_at.Goals as goal

pub returns : goal.returns
returns c =
    let at : c.check.new.self.number ≡ c.args.meet = search rules in
    let none : length c.check.new.self.ops.items ≡ 0 = search rules in
    meets c.args.draft.now c.line.new.self c.check.new.self c.line-2.new.self c.args.to c.args.meet c.in_ok-line.ensures.written c.in_ok-check.ensures at none c.in_ok-line-2.ensures.written
