use Rattle.std.proofs.Common.{◌≡◌, Some, slice_get, subst, sym, ap, ◌∙◌, arith}
use Rattle.std.proofs.lemmas.Option.{slice_get-get_or}
use Rattle.t_core.specs.declared.forms.Core.TheVariants as Node
use Rattle.cps_convert.proofs.Firsts.{root_made}
use Rattle.cps_convert.proofs.top_lambdas.root.Goals as goal

pub returns-in_ok-lam-in-Some-Lambda : goal.returns-in_ok-lam-in-Some-Lambda
returns-in_ok-lam-in-Some-Lambda c = λ marks.
    root_made c.args.unit.now c.args.marks.now c.args.made.now c.procedure.new.made c.args.at c.in-Some.form.now c.as_slice-params.result.now c.in-Some-Lambda.body c.in_ok-lam-in-Some-Lambda.lam
    (subst (λ fs. slice_get fs c.args.at ≡ Some c.in-Some.form.now) c.deref.ensures.value
    (slice_get-get_or c.deref.result.now c.args.at c.in-Some.form.now c.in-Some.ensures.lookup.3.0 ∙ ap Some (sym c.in-Some.ensures.lookup.1)))
    (sym c.in-Some-Lambda.ensures ∙ ap Some c.in-Some-Lambda.field-0-is ∙ ap (λ l. Some (Node.Lambda l c.in-Some-Lambda.body)) (sym c.as_slice-params.ensures)) (omega (arith, c.if-key-unit.false))
    (c.in_ok-lam-in-Some-Lambda.ensures marks)
