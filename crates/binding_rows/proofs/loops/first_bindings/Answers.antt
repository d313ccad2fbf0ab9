use Rattle.std.proofs.Common.{◌<◌, [], ◌∷◌, length, get_or, take, map, add-one}
use Rattle.std.proofs.Math.Seq.{take-suc}
use Rattle.std.proofs.lemmas.List.{take_all}
use Rattle.t_forms.specs.Data.{listed}
use Rattle.t_forms.specs.Held.{Held}
use Rattle.binding_rows.specs.declared.loops.Step.{Step as CodeStep}
use Rattle.binding_rows.specs.Steps.{IsStep}
use Rattle.t_rows.proofs.Growth.{extends_same, extends_trans, held_grows, all_held_grow}
use Rattle.t_rows.proofs.ZipLemmas.{collected, none_collected}
use Rattle.binding_rows.proofs.loops.first_bindings.Goals as goal

no_step : CodeStep
no_step = record { name = 0; first = 0; next = 0 }

pub steps-init : goal.steps-init
steps-init c = record {
  grown = extends_same;
  made = λ names xs h.
      rw c.new-bindings.ensures.items
      (none_collected (IsStep names c.args.forms.now) (Held names c.args.forms.now) (λ x. listed c.args.span (x.name ∷ x.first ∷ [])) xs h);
}

pub steps-preserved : goal.steps-preserved
unfolding no_step
steps-preserved c =
    let below : c.steps.step-index < length c.args.steps.now = c.steps-test.true in
    let g = c.in_ok-binding.ensures.grown in
    let old = c.steps.invariant.grown in
    record {
      grown = extends_trans old g;
      made = λ names xs h.
          rw c.in_ok-push.ensures.items
          (collected (IsStep names c.args.forms.now) (Held names c.first_binding.new.forms) (λ x. listed c.args.span (x.name ∷ x.first ∷ []))
          (take c.steps.step-index c.args.steps.now) (get_or c.args.steps.now c.steps.step-index no_step) c.steps.bindings.items _
          (λ ys k. all_held_grow g names c.steps.bindings.items (map (λ x. listed c.args.span (x.name ∷ x.first ∷ [])) ys) (c.steps.invariant.made names ys k))
          (λ x k. c.in_ok-binding.ensures.made names x.name x.first (held_grows old names _ x.name k.0) (held_grows old names _ x.first k.1)) xs
          (rw (add-one, take-suc c.args.steps.now c.steps.step-index no_step below) at h));
    }

pub returns-clause-made : goal.returns-clause-made
returns-clause-made c names xs h =
    c.steps.invariant.made names xs (rw (take_all c.steps.step-index c.args.steps.now c.steps-test.false) h)
