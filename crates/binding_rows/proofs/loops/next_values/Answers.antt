use Rattle.std.proofs.Common.{◌<◌, length, get_or, take, add-one}
use Rattle.std.proofs.Math.Seq.{take-suc}
use Rattle.std.proofs.lemmas.List.{take_all}
use Rattle.t_forms.specs.Held.{Held}
use Rattle.binding_rows.specs.declared.loops.Step.{Step as CodeStep}
use Rattle.binding_rows.specs.Steps.{IsStep}
use Rattle.t_rows.proofs.ZipLemmas.{collected, none_collected}
use Rattle.binding_rows.proofs.loops.next_values.Goals as goal

no_step : CodeStep
no_step = record { name = 0; first = 0; next = 0 }

pub steps-init : goal.steps-init
steps-init c names cells xs h = rw c.new-keys.ensures.items (none_collected (IsStep names cells) (Held names cells) (λ x. x.next) xs h)

pub steps-preserved : goal.steps-preserved
unfolding no_step
steps-preserved c names cells xs h =
    let below : c.steps.step-index < length c.args.steps.now = c.steps-test.true in
    rw c.in_ok-push.ensures.items
    (collected (IsStep names cells) (Held names cells) (λ x. x.next) (take c.steps.step-index c.args.steps.now)
    (get_or c.args.steps.now c.steps.step-index no_step) c.steps.keys.items _ (λ ys k. c.steps.invariant names cells ys k) (λ d k. k.2) xs
    (rw (add-one, take-suc c.args.steps.now c.steps.step-index no_step below) at h))

pub returns : goal.returns
returns c names cells xs h =
    c.steps.invariant names cells xs (rw (take_all c.steps.step-index c.args.steps.now c.steps-test.false) h)
