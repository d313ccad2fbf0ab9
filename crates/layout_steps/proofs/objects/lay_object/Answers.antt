use Rattle.std.proofs.Common.{◌≤◌, [], length, refl, sym, ap, subst, ◌∙◌, arith}
use Rattle.std.proofs.lemmas.List.{length-map}
use Rattle.layout_relation.specs.Laid.{numbers, AreHeld}
use Rattle.layout_tables.proofs.Growing.{grows_same}
use Rattle.layout_tables.proofs.Adding.{adds_bound, adds_variable}
use Rattle.layout_steps.specs.Steps.{AreMethods}
use Rattle.layout_steps.proofs.Methods.{laid_object, grows_template}
use Rattle.layout_steps.proofs.objects.lay_object.Goals as goal

pub returns : goal.returns
returns c =
    let w = c.args.tables.now in
    let before = c.args.line.now in
    let needs = c.in_ok-needs.needs.items in
    let names = c.args.ops.now in
    let lams = c.args.methods.now in
    let codes = c.in_ok-codes.codes.items in
    let two = c.request_methods.new.work in
    let three = c.template.new.self in
    laid_object c.args.cps.now w c.args.work.now c.prepare.new.work two three c.variable.new.self c.give_new.new.work before (record { ops = c.push.new.self; scope = before.scope; site = before.site }) c.give_new.new.line c.args.term c.args.proc c.in_ok-proc.proc names lams codes c.args.k needs c.from_vec-3.result
    c.in_ok-template.template (record { ops = c.from_vec.result; codes = c.from_vec-2.result }) c.in_ok-to.to c.prepare.new.ops.items c.in_ok-step.step
    c.requires.below (sym (ap length c.as_slice-keys.ensures) ∙ c.if-keys-lams.false ∙ ap length c.as_slice-lams.ensures) c.in_ok-proc.ensures
    (subst (AreHeld before.scope (numbers needs)) (sym c.from_vec-3.ensures) (subst (λ ns. AreHeld before.scope (numbers ns) c.in_ok-kept.kept.items) c.deref.ensures.value c.in_ok-kept.ensures))
    (subst (λ n. n ≤ c.args.cps.now.shared.size) (c.len.ensures ∙ c.in_ok-needs.needs.ok.0 ∙ sym (length-map needs (λ x. x.0))) (c.if-not-is_small.ensures refl))
    (subst (λ ls. AreMethods c.prepare.new.work two ls needs codes) c.as_slice-lams.ensures (subst (λ ns. AreMethods c.prepare.new.work two c.as_slice-lams.result.now ns codes) c.deref-2.ensures.value c.in_ok-codes.ensures))
    (ap (λ xs. record { ops = xs; codes = c.from_vec-2.result }) (c.from_vec.ensures ∙ c.in_ok-named.ensures.items ∙ c.as_slice-keys.ensures) ∙ ap (λ xs. record { ops = names; codes = xs }) c.from_vec-2.ensures)
    c.in_ok-template.ensures.templates c.in_ok-template.ensures.place (grows_template w two three _ c.template.ensures.requests c.in_ok-template.ensures.templates c.template.ensures.next)
    (adds_bound two three [] c.template.ensures.requests (let e = c.template.ensures.next in omega (arith, e))) c.template.ensures.next
    c.in_ok-to.ensures.variable (grows_same w three c.variable.new.self c.variable.ensures.requests c.variable.ensures.templates (let e = c.in_ok-to.ensures.next in omega (arith, e)))
    (adds_variable three c.variable.new.self c.in_ok-to.to.0 c.variable.ensures.requests c.in_ok-to.ensures.variable c.in_ok-to.ensures.next) c.in_ok-push.ensures.items c.give_new.ensures.same c.in_ok-step.ensures.leads
