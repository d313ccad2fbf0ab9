use Rattle.std.proofs.Common.{◌≡◌, Some, slice_get, subst, sym, ap, ◌∙◌}
use Rattle.std.proofs.lemmas.Option.{slice_get-get_or}
use Rattle.t_core.specs.declared.forms.FormKind.TheVariants as Kind
use Rattle.unit_conversion.proofs.first_lams.operation_at.Goals as goal

pub returns-then-p-o : goal.returns-then-p-o
returns-then-p-o c =
    let same : c.in-Operation.p ≡ c.args.o = c.if-p-o.true in
    record {
      form = c.in-Some-get.form.now;
      there = subst (λ fs. slice_get fs c.in-Some.at.now ≡ Some c.in-Some-get.form.now) c.deref.ensures.value
          (slice_get-get_or c.deref.result.now c.in-Some.at.now c.in-Some-get.form.now c.in-Some-get.ensures.lookup.3.0 ∙ ap Some (sym c.in-Some-get.ensures.lookup.1));
      is = c.in-Operation.is ∙ ap Kind.Operation same;
    }
