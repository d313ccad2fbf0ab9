use Rattle.std.proofs.Common.{rules, ◌≡◌, refl, ap, subst, ◌∙◌, [], ◌∷◌, ◌++◌, Some}
use Rattle.frame_ir.specs.declared.forms.FrameEnd.TheVariants as Last
use Rattle.layout_relation.specs.Laid.{variables, IsFor, numbers, AreHeld}
use Rattle.layout_tables.specs.declared.requests.Request.TheVariants as For
use Rattle.layout_tables.specs.Sketches.{Ever, purpose_of}
use Rattle.closure_layout.specs.Blocks.{IsFetched, IsCallable}
use Rattle.layout_tables.proofs.Growing.{grows_asked, asked}
use Rattle.layout_tables.proofs.Adding.{adds_asked}
use Rattle.closure_layout.proofs.Walking.{method_fits, opened_below, item_there}
use Rattle.closure_layout.proofs.blocks.method_block.Goals as goal

pub fetch_all-requires : goal.fetch_all-requires
fetch_all-requires c = opened_below c.args.work.now c.open_scope.new.work c.in-Some.lam.now.params c.in_ok-opened.opened c.in_ok-opened.ensures

pub returns : goal.returns
returns c =
    let w = c.args.tables.now in
    let lam = c.in-Some.lam.now in
    let opened = c.in_ok-opened.opened in
    let own = c.in-Some-split_first.own.now in
    let vars = c.in_ok-vars.vars in
    let site = c.new.result in
    let two = c.open_scope.new.work in
    let three = c.fetch_all.new.work in
    let new = c.request.new.self in
    let block = c.in_ok-block.block in
    let split : opened.params ≡ own ∷ c.in-Some-split_first.rest.now = search rules in
    method_fits c.args.cps.now w c.args.work.now two three new c.args.l lam own c.in-Some-split_first.rest.now opened c.fetch_all.new.scope c.args.kept.now c.lam_needs.result.now c.in_ok-ats.ats.items vars block _
    (item_there c.args.cps.now.lams.items c.deref.result.now c.args.l lam c.deref.ensures.value c.in-Some.ensures.lookup.3.0 c.in-Some.ensures.lookup.1) c.lam_needs.ensures (subst (IsCallable c.args.cps.now w lam.params) c.as_slice.ensures (c.if-not-is_callable.ensures refl))
    c.in_ok-opened.ensures split
    (subst (λ ns. IsFetched two three opened.scope c.fetch_all.new.scope [] c.fetch_all.new.ops.items ns (Some own)) c.as_slice-3.ensures
    (subst (λ os. IsFetched two three opened.scope c.fetch_all.new.scope os c.fetch_all.new.ops.items c.as_slice-3.result.now (Some own)) c.new-ops.ensures.items c.in_ok-fetch_all.ensures))
    (c.in_ok-vars.ensures ∙ ap (λ xs. xs ++ c.lam_needs.result.now) c.as_slice-4.ensures)
    (subst (λ xs. AreHeld c.fetch_all.new.scope (numbers xs) c.in_ok-ats.ats.items) c.as_slice-5.ensures c.in_ok-ats.ensures)
    (grows_asked w three new (For.Begins vars site lam.body) c.in_ok-block.ensures.requests c.in_ok-block.ensures.templates c.in_ok-block.ensures.next)
    (adds_asked three new (For.Begins vars site lam.body) c.in_ok-block.ensures.requests c.in_ok-block.ensures.next tt)
    (subst (λ s. Ever w new (λ v. IsFor v block (purpose_of w (For.Begins vars s lam.body)))) c.new.ensures (asked w three new (For.Begins vars site lam.body) block c.in_ok-block.ensures.requests c.in_ok-block.ensures.place))
    (c.in_ok-last.ensures ∙ ap (λ xs. Last.Jump block (variables xs)) c.deref-2.ensures.value) refl
