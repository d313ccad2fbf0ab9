use Rattle.std.proofs.Common.{refl, ap, subst, ◌∙◌, ◌≤◌, ◌+◌, ◌-◌}
use Rattle.frame_ir.specs.declared.forms.FrameEnd.TheVariants as Last
use Rattle.layout_relation.specs.Laid.{variables, AreHeld, numbers}
use Rattle.layout_steps.proofs.Handing.{goes_to_join}
use Rattle.layout_steps.proofs.giving.go_to_join.Goals as goal

pub returns : goal.returns
returns c = goes_to_join c.args.cps.now c.args.tables.now c.args.work.now c.args.scope.now c.args.site.now c.args.param c.args.body c.args.block c.in_ok-vars.vars c.in_ok-ats.ats.items _
    (c.if-not-is_asked_for.ensures refl) (subst (λ xs. AreHeld c.args.scope.now (numbers xs) c.in_ok-ats.ats.items) c.as_slice.ensures c.in_ok-ats.ensures) (subst (λ n. n ≤ c.args.cps.now.shared.size + 2) (c.saturating_sub.ensures ∙ ap (λ k. k - 1) (c.len.ensures ∙ c.in_ok-ats.ats.ok.0)) (c.if-not-are_few.ensures refl)) (c.in_ok-last.ensures ∙ ap (λ xs. Last.Jump c.args.block (variables xs)) c.deref.ensures.value)
