use Rattle.std.proofs.Common.{sym, subst}
use Rattle.t_expand.specs.Driving.{AreUnder}
use Rattle.core_frames.specs.Frames.{NoneLeft}
use Rattle.t_expand.specs.Tallies.{Tallied, roots_of, reserved}
use Rattle.t_expand.proofs.TallyLemmas.{taken_tallied}
use Rattle.t_expand.proofs.driver_state.Expansion.step.Goals as goal

pub returns-in_ok-enter-in-Some-clause-tallied : goal.returns-in_ok-enter-in-Some-clause-tallied
returns-in_ok-enter-in-Some-clause-tallied c before t =
    c.in_ok-enter-in-Some.ensures.tallied before (taken_tallied before c.args.self.now c.args.frames.now c.take_part.new.self c.in-Some.part c.in-Some.ensures t)

pub returns-in_ok-key-in-None-clause-next : goal.returns-in_ok-key-in-None-clause-next
returns-in_ok-key-in-None-clause-next c root distinct u =
    let none = c.in-None.ensures in
    c.leave.ensures.next root c.close.new.self (c.in_ok-key-in-None.ensures.back root (subst (λ l. AreUnder root c.args.self.now l) (sym none.1) u))

pub returns-in_ok-key-in-None-clause-tallied : goal.returns-in_ok-key-in-None-clause-tallied
returns-in_ok-key-in-None-clause-tallied c before t =
    let none = c.in-None.ensures in
    c.leave.ensures.tallied before c.close.new.self
    (c.in_ok-key-in-None.ensures.tallied before (subst (λ l. Tallied before c.args.self.now (roots_of l) (reserved l)) (sym none.1) t))

pub close-requires : goal.close-requires
close-requires c = let none = c.in-None.ensures in subst (λ l. NoneLeft l) (sym none.1) none.0
