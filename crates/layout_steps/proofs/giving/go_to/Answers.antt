use Rattle.std.proofs.Common.{refl, sym, ap, subst, ◌∙◌, ◌≤◌, ◌+◌}
use Rattle.frame_ir.specs.declared.forms.FrameEnd.TheVariants as Last
use Rattle.layout_relation.specs.Laid.{variables, AreHeld, numbers}
use Rattle.layout_tables.specs.declared.requests.Request.TheVariants as For
use Rattle.layout_tables.specs.Sketches.{Ever, purpose_of}
use Rattle.layout_relation.specs.Laid.{IsFor}
use Rattle.layout_tables.proofs.Growing.{asked, grows_asked}
use Rattle.layout_steps.proofs.Handing.{goes_away}
use Rattle.layout_tables.proofs.Adding.{adds_asked}
use Rattle.layout_steps.proofs.giving.go_to.Goals as goal

pub returns : goal.returns
returns c =
    let w = c.args.tables.now in
    let new = c.request.new.self in
    let site = c.in_ok-same.same in
    let needs = c.from_vec-vars.result in
    let t = c.args.term in
    goes_away c.args.cps.now w c.args.work.now new c.args.scope.now c.args.site.now t c.in_ok-block.block needs c.in_ok-ats.ats.items _
    (grows_asked w c.args.work.now new (For.Begins needs site t) c.in_ok-block.ensures.requests c.in_ok-block.ensures.templates c.in_ok-block.ensures.next) c.in_ok-block.ensures.next
    (adds_asked c.args.work.now new (For.Begins needs site t) c.in_ok-block.ensures.requests c.in_ok-block.ensures.next tt)
    (subst (λ s. Ever w new (λ v. IsFor v c.in_ok-block.block (purpose_of w (For.Begins needs s t)))) c.in_ok-same.ensures (asked w c.args.work.now new (For.Begins needs site t) c.in_ok-block.block c.in_ok-block.ensures.requests c.in_ok-block.ensures.place))
    (subst (λ ns. AreHeld c.args.scope.now (numbers ns) c.in_ok-ats.ats.items) (sym (c.from_vec-vars.ensures ∙ c.in_ok-from_slice.ensures.items)) c.in_ok-ats.ensures)
    (subst (λ n. n ≤ c.args.cps.now.shared.size + 2) (c.len.ensures ∙ c.in_ok-ats.ats.ok.0) (c.if-not-are_few.ensures refl)) (c.in_ok-last.ensures ∙ ap (λ xs. Last.Jump c.in_ok-block.block (variables xs)) c.deref.ensures.value)
