use Rattle.std.proofs.Common.{◌<◌, length, get_or, take, add-one}
use Rattle.std.proofs.Math.Seq.{take-suc}
use Rattle.binding_rows.specs.Steps.{IsStep, step_of}
use Rattle.t_forms.specs.Held.{Held}
use Rattle.t_rows.proofs.AllLemmas.{all_collected, all_stop}
use Rattle.binding_rows.proofs.loops.all_steps.Goals as goal

pub returns-in-None : goal.returns-in-None
returns-in-None c names ds h =
    all_stop (Held names c.args.forms.now) step_of c.args.keys.now ds c.keys.key-index 0 c.keys-test.true h (λ d k. c.in-None.ensures names d k)

pub keys-preserved : goal.keys-preserved
keys-preserved c names ds h =
    let below : c.keys.key-index < length c.args.keys.now = c.keys-test.true in
    rw c.in_ok-push-in-Some.ensures.items
    (all_collected (Held names c.args.forms.now) (IsStep names c.args.forms.now) step_of (take c.keys.key-index c.args.keys.now) (get_or c.args.keys.now c.keys.key-index 0)
    c.keys.steps.items _ (λ xs k. c.keys.invariant names xs k) (λ d k. c.in-Some.ensures names d k) ds
    (rw (add-one, take-suc c.args.keys.now c.keys.key-index 0 below) at h))
