use Rattle.std.specs.Prelude.{All}
use Rattle.std.proofs.Common.{◌∙◌, ◌<◌, ◌||◌, length, sym, ap, subst}
use Rattle.std.proofs.lemmas.List.{take_all}
use Rattle.cps_ir.specs.Reaches.{is_in, methods_of}
use Rattle.cps_walk.specs.Marked.{is_marked}
use Rattle.closure_strategy.proofs.Chosen.{methods_at, methods_more}
use Rattle.closure_strategy.proofs.choice.methods.Goals as goal

pub loop-place-preserved : goal.loop-place-preserved
loop-place-preserved c =
    let terms = c.args.cps.now.terms.items in
    let there = subst (All (λ t. t < length terms)) (sym c.deref-place-items.ensures.value) c.in_ok-places.ensures.there in
    methods_more terms c.deref-place-items.result.now c.loop-place.place-index 0 c.index.result.now c.loop-place.marks.items c.mark_methods.new.marks.items c.loop-place-test.true
    (there c.loop-place.place-index 0 c.loop-place-test.true) c.loop-place.invariant
    (λ l. c.in_ok-mark_methods.ensures l ∙ ap (λ t. is_marked c.loop-place.marks.items l || is_in (methods_of t) l) c.index.ensures)

pub returns : goal.returns
returns c = λ l.
    c.loop-place.invariant l
    ∙ ap (λ ps. is_in (methods_at c.args.cps.now.terms.items ps) l) (take_all c.loop-place.place-index c.deref-place-items.result.now c.loop-place-test.false ∙ c.deref-place-items.ensures.value ∙ c.in_ok-places.ensures.walked)
