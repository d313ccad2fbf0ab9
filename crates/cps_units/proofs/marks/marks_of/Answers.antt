use Rattle.std.proofs.Common.{◌≡◌, ◌||◌, ◌<◌, ◌≤◌, ◌∙◌, length, get_or, sym, ap, subst}
use Rattle.std.specs.List.{list_any}
use Rattle.std.proofs.lemmas.List.{take_all}
use Rattle.t_meaning.specs.Costs.{assigns}
use Rattle.cps_walk.specs.Marked.{is_marked}
use Rattle.cps_units.proofs.Walked.{any_more}
use Rattle.cps_units.proofs.marks.marks_of.Goals as goal

pub forms-preserved : goal.forms-preserved
forms-preserved c = λ v.
    let e = c.deref-form-items.ensures.value in
    let forms = c.args.unit.now.forms.items in
    let lt = subst (λ xs. c.forms.form-index < length xs) e c.forms-test.true in
    let here = c.as_slice.ensures.value ∙ ap (λ f. f.nodes.items) (subst (λ xs. c.form-item.result ≡ get_or xs c.forms.form-index c.form-item.result) e c.form-item.is) in
    c.in_ok-mark_nodes.ensures v ∙ ap (λ ns. is_marked c.forms.marks.items v.0 || list_any (assigns v) ns) here
    ∙ ap (λ b. b || list_any (assigns v) (get_or forms c.forms.form-index c.form-item.result).nodes.items) (c.forms.invariant v)
    ∙ sym (any_more (λ form. list_any (assigns v) form.nodes.items) forms c.forms.form-index c.form-item.result lt)

pub returns : goal.returns
returns c = λ v.
    let e = c.deref-form-items.ensures.value in
    c.forms.invariant v
    ∙ ap (list_any (λ form. list_any (assigns v) form.nodes.items))
    (take_all c.forms.form-index c.args.unit.now.forms.items (subst (λ xs. length xs ≤ c.forms.form-index) e c.forms-test.false))
