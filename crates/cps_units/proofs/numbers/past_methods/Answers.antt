use Rattle.std.proofs.Common.{subst, ap, ◌∙◌}
use Rattle.std.specs.List.{flat_map}
use Rattle.std.proofs.lemmas.List.{take_all}
use Rattle.cps_units.specs.Numbers.{IsPast}
use Rattle.cps_units.proofs.Walked.{past_none, past_methods_step}
use Rattle.cps_units.proofs.numbers.past_methods.Goals as goal

pub methods-init : goal.methods-init
methods-init c = past_none c.args.least

pub methods-preserved : goal.methods-preserved
methods-preserved c =
    past_methods_step c.args.least c.methods.past c.in_ok-past.past c.args.methods.now c.methods.method-index c.method-item.result c.methods-test.true c.methods.invariant
    (subst (IsPast c.methods.past c.in_ok-past.past) (c.as_slice.ensures ∙ ap (λ m. m.params) c.method-item.is) c.in_ok-past.ensures)

pub returns : goal.returns
returns c = subst (λ ms. IsPast c.args.least c.methods.past (flat_map (λ m. m.params) ms)) (take_all c.methods.method-index c.args.methods.now c.methods-test.false) c.methods.invariant
