use Rattle.select_rows.specs.Macros.{by_test, unless}
use Rattle.truth_drafts.proofs.Joining.{chosen}
use Rattle.truth_drafts.proofs.truths.choose_unless.Goals as goal

pub returns : goal.returns
returns c =
    chosen (unless (by_test c.args.how c.args.a c.args.b)) c.args.draft.now c.leave_nil.new.draft c.check_not.new.self c.meet_at.new.draft c.args.to c.in_ok-meet.meet c.in_ok-leave_nil.ensures c.in_ok-check_not.ensures c.in_ok-meet_at.ensures
