use Rattle.std.proofs.Common.{sym, ap, subst}
use Rattle.t_expand.specs.Driving.{AreUnder, IsBack}
use Rattle.t_expand.specs.Tallies.{Tallied, roots_of, roots_back, variables_waiting, reserved}
use Rattle.core_frames.proofs.FrameLemmas.{first_frame, no_frame}
use Rattle.t_expand.proofs.StepLemmas.{ends, leaves}
use Rattle.t_expand.proofs.TallyLemmas.{leaves_tallied}
use Rattle.t_expand.proofs.driver.leave.Goals as goal

pub returns-in-None-clause-next : goal.returns-in-None-clause-next
returns-in-None-clause-next c root e b =
    ends root e c.args.key (subst (λ l. IsBack root e l c.args.key) (no_frame c.args.frames.now c.in-None.ensures) b)

pub returns-in-None-clause-tallied : goal.returns-in-None-clause-tallied
returns-in-None-clause-tallied c before e t =
    subst (λ l. Tallied before e (roots_back l c.args.key) (variables_waiting l)) (no_frame c.args.frames.now c.in-None.ensures) t

pub returns-in_ok-add_done-in-Some-clause-next : goal.returns-in_ok-add_done-in-Some-clause-next
returns-in_ok-add_done-in-Some-clause-next c root e b =
    let x = first_frame c.args.frames.now c.in-Some.state.now c.in-Some.ensures in
    subst (λ l. AreUnder root e l) (sym (c.in_ok-add_done-in-Some.ensures.added x.0 x.1 x.2))
    (leaves root e x.0 x.1 c.args.key _ (ap (λ h. record { at = c.args.key; vars = h.bound; tail = h.part_tail }) x.3)
    (subst (λ l. IsBack root e l c.args.key) x.2 b))

pub returns-in_ok-add_done-in-Some-clause-tallied : goal.returns-in_ok-add_done-in-Some-clause-tallied
returns-in_ok-add_done-in-Some-clause-tallied c before e t =
    let x = first_frame c.args.frames.now c.in-Some.state.now c.in-Some.ensures in
    subst (λ l. Tallied before e (roots_of l) (reserved l)) (sym (c.in_ok-add_done-in-Some.ensures.added x.0 x.1 x.2))
    (leaves_tallied before e x.0 x.1 _ (ap (λ h. h.bound) x.3)
    (subst (λ l. Tallied before e (roots_back l c.args.key) (variables_waiting l)) x.2 t))
