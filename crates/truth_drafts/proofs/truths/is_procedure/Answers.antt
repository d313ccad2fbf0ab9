use Rattle.std.proofs.Common.{rules, ◌≡◌, [], ◌∷◌, length}
use Rattle.select_rows.specs.Macros.{is_object}
use Rattle.truth_drafts.proofs.Joining.{chosen, fork_line, fork_one, fork_other, fork_then, fork_ends}
use Rattle.truth_drafts.proofs.truths.is_procedure.Goals as goal

pub returns : goal.returns
returns c =
    let at : c.check-2.new.self.number ≡ c.in_ok-arm.arm = search rules in
    let none : length c.check-2.new.self.ops.items ≡ 0 = search rules in
    chosen (is_object c.args.a (0x1D ∷ 0x21 ∷ 0x25 ∷ 0x29 ∷ 0x2D ∷ []) c.args.t) c.args.draft.now c.leave_nil.new.draft c.check-2.new.self c.meet_at.new.draft c.args.to c.in_ok-meet.meet c.in_ok-leave_nil.ensures
    (fork_ends _ c.in_ok-arm.arm c.in_ok-meet.meet c.leave_nil.new.draft c.check-2.new.self
    (fork_then _ _ c.in_ok-arm.arm c.in_ok-meet.meet c.leave_nil.new.draft c.check.new.self c.check-2.new.self (fork_other _ c.in_ok-arm.arm c.in_ok-meet.meet c.leave_nil.new.draft c.check.new.self c.in_ok-check.ensures)
    (fork_then _ _ c.in_ok-arm.arm c.in_ok-meet.meet c.check.new.self c.line.new.self c.check-2.new.self (fork_line _ c.in_ok-arm.arm c.in_ok-meet.meet c.check.new.self c.line.new.self c.in_ok-line.ensures.written)
    (fork_then _ _ c.in_ok-arm.arm c.in_ok-meet.meet c.line.new.self c.if_header.new.draft c.check-2.new.self (fork_one _ c.in_ok-arm.arm c.in_ok-meet.meet c.line.new.self c.if_header.new.draft c.in_ok-if_header.ensures)
    (fork_then _ _ c.in_ok-arm.arm c.in_ok-meet.meet c.if_header.new.draft c.if_header-2.new.draft c.check-2.new.self (fork_one _ c.in_ok-arm.arm c.in_ok-meet.meet c.if_header.new.draft c.if_header-2.new.draft c.in_ok-if_header-2.ensures)
    (fork_then _ _ c.in_ok-arm.arm c.in_ok-meet.meet c.if_header-2.new.draft c.if_header-3.new.draft c.check-2.new.self (fork_one _ c.in_ok-arm.arm c.in_ok-meet.meet c.if_header-2.new.draft c.if_header-3.new.draft c.in_ok-if_header-3.ensures)
    (fork_then _ _ c.in_ok-arm.arm c.in_ok-meet.meet c.if_header-3.new.draft c.if_header-4.new.draft c.check-2.new.self (fork_one _ c.in_ok-arm.arm c.in_ok-meet.meet c.if_header-3.new.draft c.if_header-4.new.draft c.in_ok-if_header-4.ensures)
    (fork_other _ c.in_ok-arm.arm c.in_ok-meet.meet c.if_header-4.new.draft c.check-2.new.self c.in_ok-check-2.ensures))))))) at none)
    c.in_ok-meet_at.ensures

pub check-requires-2 : goal.check-requires-2
check-requires-2 c =
    c.in_ok-if_header-4.ensures.proper (c.in_ok-if_header-3.ensures.proper (c.in_ok-if_header-2.ensures.proper (c.in_ok-if_header.ensures.proper (c.in_ok-line.ensures.written.proper (c.in_ok-check.ensures.proper (c.in_ok-leave_nil.ensures.proper c.requires))))))

pub meet_at-requires : goal.meet_at-requires
meet_at-requires c =
    c.in_ok-check-2.ensures.proper
    (c.in_ok-if_header-4.ensures.proper (c.in_ok-if_header-3.ensures.proper (c.in_ok-if_header-2.ensures.proper (c.in_ok-if_header.ensures.proper (c.in_ok-line.ensures.written.proper (c.in_ok-check.ensures.proper (c.in_ok-leave_nil.ensures.proper c.requires)))))))
