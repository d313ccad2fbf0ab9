use Rattle.std.specs.Prelude.{All}
use Rattle.std.proofs.Common.{◌∙◌, ◌<◌, ◌||◌, length, sym, ap, subst}
use Rattle.cps_ir.specs.Parts.{assigns}
use Rattle.cps_walk.specs.Marked.{is_marked}
use Rattle.assign_convert.proofs.Marks.{assigned_in, assigned_more, taken_all}
use Rattle.assign_convert.proofs.assigned.assigned.Goals as goal

pub loop-place-preserved : goal.loop-place-preserved
loop-place-preserved c =
    let terms = c.args.cps.now.terms.items in
    let there = subst (All (λ t. t < length terms)) (sym c.deref-place-items.ensures.value) c.in_ok-places.ensures.there in
    assigned_more terms c.deref-place-items.result.now c.loop-place.place-index 0 c.index.result.now c.loop-place.marks.items c.mark_assigned.new.marks.items c.loop-place-test.true
    (there c.loop-place.place-index 0 c.loop-place-test.true) c.loop-place.invariant
    (λ x. c.in_ok-mark_assigned.ensures x ∙ ap (λ t. is_marked c.loop-place.marks.items x || assigns x t) c.index.ensures)

pub returns : goal.returns
returns c = λ x.
    c.loop-place.invariant x
    ∙ ap (λ ps. assigned_in c.args.cps.now.terms.items ps x) (taken_all c.deref-place-items.result.now c.loop-place.place-index c.loop-place-test.false ∙ c.deref-place-items.ensures.value ∙ c.in_ok-places.ensures.walked)
