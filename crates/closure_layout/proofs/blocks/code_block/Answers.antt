use Rattle.std.proofs.Common.{refl, ap, subst, ◌∙◌, [], ◌∷◌, ◌++◌, Some}
use Rattle.frame_ir.specs.declared.forms.FrameEnd.TheVariants as Last
use Rattle.layout_relation.specs.Laid.{variables, IsFor, numbers, AreHeld}
use Rattle.layout_tables.specs.declared.requests.Request.TheVariants as For
use Rattle.layout_tables.specs.Sketches.{Ever, purpose_of}
use Rattle.closure_layout.specs.Blocks.{IsFetched}
use Rattle.layout_tables.proofs.Growing.{grows_asked, asked}
use Rattle.closure_layout.proofs.Walking.{code_fits, opened_below, item_there}
use Rattle.layout_tables.proofs.Adding.{adds_asked}
use Rattle.closure_layout.proofs.blocks.code_block.Goals as goal

pub fetch_all-requires : goal.fetch_all-requires
fetch_all-requires c = opened_below c.variable.new.self c.open_scope.new.work c.in-Some.lam.now.params c.in_ok-opened.opened c.in_ok-opened.ensures

pub returns : goal.returns
returns c =
    let w = c.args.tables.now in
    let lam = c.in-Some.lam.now in
    let own = c.in_ok-own.own in
    let opened = c.in_ok-opened.opened in
    let vars = c.in_ok-vars.vars in
    let site = c.new.result in
    let three = c.fetch_all.new.work in
    let new = c.request.new.self in
    let block = c.in_ok-block.block in
    code_fits c.args.cps.now w c.args.work.now c.variable.new.self c.open_scope.new.work three new c.args.l lam own opened c.fetch_all.new.scope c.lam_needs-needs.result.now c.in_ok-ats.ats.items vars block _
    (item_there c.args.cps.now.lams.items c.deref.result.now c.args.l lam c.deref.ensures.value c.in-Some.ensures.lookup.3.0 c.in-Some.ensures.lookup.1) c.lam_needs-needs.ensures (c.if-not-is_callable.ensures refl)
    c.in_ok-own.ensures.variable c.in_ok-own.ensures.next c.variable.ensures.requests c.variable.ensures.templates c.in_ok-opened.ensures
    (subst (λ os. IsFetched c.open_scope.new.work three opened.scope c.fetch_all.new.scope os c.fetch_all.new.ops.items c.lam_needs-needs.result.now (Some own)) c.new-ops.ensures.items c.in_ok-fetch_all.ensures)
    (c.in_ok-vars.ensures ∙ ap (λ xs. xs ++ c.lam_needs-needs.result.now) c.as_slice.ensures)
    (subst (λ xs. AreHeld c.fetch_all.new.scope (numbers xs) c.in_ok-ats.ats.items) c.as_slice-2.ensures c.in_ok-ats.ensures)
    (grows_asked w three new (For.Begins vars site lam.body) c.in_ok-block.ensures.requests c.in_ok-block.ensures.templates c.in_ok-block.ensures.next)
    (adds_asked three new (For.Begins vars site lam.body) c.in_ok-block.ensures.requests c.in_ok-block.ensures.next tt)
    (subst (λ s. Ever w new (λ v. IsFor v block (purpose_of w (For.Begins vars s lam.body)))) c.new.ensures (asked w three new (For.Begins vars site lam.body) block c.in_ok-block.ensures.requests c.in_ok-block.ensures.place))
    (c.in_ok-last.ensures ∙ ap (λ xs. Last.Jump block (variables xs)) c.deref-2.ensures.value)
    (c.from_vec.ensures ∙ c.in_ok-extend_from_slice.ensures.items ∙ ap (λ zs. zs ++ c.as_slice-3.result.now) (c.in_ok-push.ensures.items ∙ ap (λ zs. zs ++ own ∷ []) c.new-params.ensures.items) ∙ ap (λ zs. own ∷ zs) c.as_slice-3.ensures)
