use Rattle.std.proofs.Common.{drop, ◌+◌, ◌∷◌, ap, sym, ◌∙◌}
use Rattle.std.proofs.lemmas.List.{drop_more}
use Rattle.t_core.specs.declared.forms.Form.{Form}
use Rattle.orbit_build.proofs.FormsPut.{form_put}
use Rattle.orbit_build.proofs.unit.put_forms.Goals as goal

pub loop-form-preserved : goal.loop-form-preserved
loop-form-preserved c = λ ts are.
    let next = drop_more c.args.forms.now c.loop-form.form-index c.form-item.result c.loop-form-test.true ∙ ap (λ (f : Form). f ∷ drop (c.loop-form.form-index + 1) c.args.forms.now) (sym c.form-item.is) in
    form_put _ c.form-item.result _ _ _ _ _ next c.as_slice.ensures.value c.in_ok-put_term.ensures (c.loop-form.invariant ts are)
