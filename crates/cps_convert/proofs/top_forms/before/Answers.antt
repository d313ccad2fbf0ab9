use Rattle.std.proofs.Common.{◌≡◌, ◌-◌, suc, Some, slice_get, subst, sym, ap, ◌∙◌, arith}
use Rattle.std.proofs.lemmas.Option.{slice_get-get_or}
use Rattle.cps_convert.proofs.Falling.{gives_before}
use Rattle.cps_convert.proofs.top_forms.before.Goals as goal

pub returns-in_ok-arg-in-Some : goal.returns-in_ok-arg-in-Some
returns-in_ok-arg-in-Some c =
    let up : c.args.at ≡ suc (c.args.at - 1) = omega (arith, c.if-at-eq0.false) in
    gives_before c.args.unit.now c.args.made.now c.given.new.made c.args.at (c.args.at - 1) c.in-Some.form.now c.in_ok-arg-in-Some.arg up
    (subst (λ fs. slice_get fs (c.args.at - 1) ≡ Some c.in-Some.form.now) c.deref.ensures.value
    (slice_get-get_or c.deref.result.now (c.args.at - 1) c.in-Some.form.now c.in-Some.ensures.lookup.3.0 ∙ ap Some (sym c.in-Some.ensures.lookup.1))) c.in_ok-arg-in-Some.ensures
