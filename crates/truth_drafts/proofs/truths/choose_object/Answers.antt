use Rattle.std.proofs.Common.{[], ◌∷◌}
use Rattle.select_rows.specs.Macros.{is_object}
use Rattle.truth_drafts.proofs.Joining.{chosen, both_beside}
use Rattle.truth_drafts.proofs.truths.choose_object.Goals as goal

pub returns : goal.returns
returns c =
    chosen (is_object c.args.a (c.args.header ∷ []) c.args.t) c.args.draft.now c.leave_nil.new.draft c.check-2.new.self c.meet_at.new.draft c.args.to c.in_ok-meet.meet c.in_ok-leave_nil.ensures
    (both_beside _ _ _ c.in_ok-meet.meet c.leave_nil.new.draft c.check.new.self c.line.new.self c.check-2.new.self c.in_ok-check.ensures c.in_ok-line.ensures.written c.in_ok-check-2.ensures) c.in_ok-meet_at.ensures
