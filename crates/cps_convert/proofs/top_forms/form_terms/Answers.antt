use Rattle.std.proofs.Common.{sym, ◌∙◌}
use Rattle.cps_convert.proofs.Roots.{define_value, lset_converted, plain_converted}
use Rattle.cps_convert.proofs.top_forms.form_terms.Goals as goal

pub returns-in_ok-place-in-Define : goal.returns-in_ok-place-in-Define
returns-in_ok-place-in-Define c = λ marks.
    define_value c.args.unit.now c.args.marks.now c.args.made.now c.init.new.made c.args.at c.args.form.now c.args.value c.args.rest c.in_ok-place-in-Define.place c.in-Define.g c.in-Define.is
    (sym c.is_lambda.ensures ∙ c.if-is_lambda.false) (c.in_ok-place-in-Define.ensures marks)

pub returns-in_ok-place-in-Lset : goal.returns-in_ok-place-in-Lset
returns-in_ok-place-in-Lset c = λ marks.
    lset_converted c.args.unit.now c.args.marks.now c.args.made.now c.init-in-Lset.new.made c.args.at c.args.form.now c.args.value c.args.rest c.in_ok-place-in-Lset.place c.in-Lset.g c.in-Lset.is
    (c.in_ok-place-in-Lset.ensures marks)

pub returns-in_ok-place-in-Plain : goal.returns-in_ok-place-in-Plain
returns-in_ok-place-in-Plain c = λ marks.
    plain_converted c.args.unit.now c.args.marks.now c.args.made.now c.node.new.made c.args.at c.args.form.now c.args.value c.args.rest c.in_ok-place-in-Plain.place c.in-Var.param c.in-Plain.is c.in-Var.is
    (c.in_ok-place-in-Plain.ensures marks)
