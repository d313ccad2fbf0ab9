use Rattle.std.proofs.Common.{rules, ◌≡◌, ◌-◌, suc, get_or, subst, arith}
use Rattle.cps_convert.specs.Forms.{FormConverted}
use Rattle.cps_convert.proofs.Falling.{forms_start, forms_step}
use Rattle.cps_convert.proofs.top_forms.forms.Goals as goal

pub forms-init : goal.forms-init
forms-init c = record {
  within = omega (arith, c.len-at.ensures);
  end = λ marks.
      forms_start c.args.unit.now c.args.marks.now c.args.made.now c.before-2.new.made c.add.new.self c.len-at.result c.in_ok-value.value c.in_ok-place.place (omega (arith, c.len-at.ensures)) c.in_ok-value.ensures c.in_ok-place.ensures;
}

pub forms-preserved : goal.forms-preserved
forms-preserved c = record {
  within = omega (arith, c.forms.invariant.within);
  end = λ marks.
      let unit = c.args.unit.now in
      let up : c.forms.at ≡ suc (c.forms.at - 1) = omega (arith, c.forms-test.true) in
      let number : c.in-Ok.number ≡ c.forms.at - 1 = search rules in
      let made = subst (λ f. FormConverted unit c.args.marks.now c.forms.made c.form_terms.new.made c.in-Ok.number f c.forms.value c.forms.place c.in_ok-place-2.place) c.index.ensures (c.in_ok-place-2.ensures marks) in
      forms_step unit c.args.marks.now c.args.made.now c.forms.made c.form_terms.new.made c.before-in-forms.new.made c.forms.at (c.forms.at - 1) c.index.result.now c.forms.value c.in_ok-value-2.value c.forms.place c.in_ok-place-2.place up
      c.forms.invariant.within (c.forms.invariant.end marks)
      (subst (λ n. FormConverted unit c.args.marks.now c.forms.made c.form_terms.new.made n (get_or unit.forms.items (c.forms.at - 1) c.index.result.now) c.forms.value c.forms.place c.in_ok-place-2.place) number made) c.in_ok-value-2.ensures;
}
