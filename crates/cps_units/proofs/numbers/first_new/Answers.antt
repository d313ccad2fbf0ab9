use Rattle.std.proofs.Common.{All, ◌≡◌, ◌<◌, ◌∙◌, length, get_or, subst, ap, sym, take}
use Rattle.std.proofs.lemmas.List.{take_all}
use Rattle.cps_units.specs.Numbers.{ArePastNodes}
use Rattle.cps_units.proofs.Past.{IsPastForm, past_unit, form_more}
use Rattle.cps_units.proofs.numbers.first_new.Goals as goal

pub forms-preserved : goal.forms-preserved
forms-preserved c =
    let e = c.deref-form-items.ensures.value in
    form_more c.forms.past c.in_ok-past.past c.args.unit.now.forms.items c.forms.form-index c.form-item.result (subst (λ xs. c.forms.form-index < length xs) e c.forms-test.true) c.forms.invariant
    (subst (ArePastNodes c.forms.past c.in_ok-past.past)
    (c.as_slice.ensures.value ∙ ap (λ f. f.nodes.items) (subst (λ xs. c.form-item.result ≡ get_or xs c.forms.form-index c.form-item.result) e c.form-item.is)) c.in_ok-past.ensures)

pub returns : goal.returns
returns c =
    past_unit c.args.unit.now c.forms.past
    (subst (All (IsPastForm c.forms.past)) (take_all c.forms.form-index c.deref-form-items.result.now c.forms-test.false ∙ c.deref-form-items.ensures.value)
    (subst (λ xs. All (IsPastForm c.forms.past) (take c.forms.form-index xs)) (sym c.deref-form-items.ensures.value) c.forms.invariant))
