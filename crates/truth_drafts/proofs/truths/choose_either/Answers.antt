use Rattle.std.proofs.Common.{rules, ◌≡◌, length}
use Rattle.word_ir.specs.declared.operands.Operand.TheVariants as operand
use Rattle.word_ir.specs.declared.words.Test.TheVariants as test
use Rattle.select_rows.specs.Macros.{by_test, either}
use Rattle.truth_drafts.proofs.Joining.{chosen, fork_one, fork_other, fork_then, fork_ends}
use Rattle.truth_drafts.proofs.truths.choose_either.Goals as goal

pub returns : goal.returns
returns c =
    let at : c.check.new.self.number ≡ c.in_ok-arm.arm = search rules in
    let none : length c.check.new.self.ops.items ≡ 0 = search rules in
    chosen (either (by_test (test.TagIs c.args.tag) c.args.a (operand.Word 0)) (by_test test.Eq c.args.a (operand.Word c.args.word))) c.args.draft.now c.leave_nil.new.draft c.check.new.self c.meet_at.new.draft c.args.to c.in_ok-meet.meet c.in_ok-leave_nil.ensures
    (fork_ends _ c.in_ok-arm.arm c.in_ok-meet.meet c.leave_nil.new.draft c.check.new.self
    (fork_then _ _ c.in_ok-arm.arm c.in_ok-meet.meet c.leave_nil.new.draft c.check_not.new.self c.check.new.self
    (fork_one _ c.in_ok-arm.arm c.in_ok-meet.meet c.leave_nil.new.draft c.check_not.new.self c.in_ok-check_not.ensures)
    (fork_other _ c.in_ok-arm.arm c.in_ok-meet.meet c.check_not.new.self c.check.new.self c.in_ok-check.ensures)) at none)
    c.in_ok-meet_at.ensures
