use Rattle.std.proofs.Common.{subst, sym, ◌∙◌}
use Rattle.cps_convert.specs.Operands.{IsOperandAdded}
use Rattle.cps_convert.proofs.Roots.{init_converted}
use Rattle.cps_convert.proofs.top_forms.init.Goals as goal

pub returns : goal.returns
returns c = λ marks.
    init_converted c.args.unit.now c.args.marks.now c.args.made.now c.fresh.new.self c.operand.new.made c.add.new.self c.evaluate.new.made c.args.at c.args.form.now c.args.g c.args.rest c.in_ok-last.last c.in_ok-place.place
    c.in_ok-unused.unused c.in_ok-value.value c.operand.new.jobs.items (sym c.is_proc.ensures ∙ c.if-is_proc.false) c.in_ok-unused.ensures
    (subst (λ l. IsOperandAdded c.args.unit.now c.args.at c.fresh.new.self c.operand.new.made c.args.form.now.root c.in_ok-value.value l c.operand.new.jobs.items) c.new-jobs.ensures.items (c.in_ok-value.ensures marks))
    c.in_ok-last.ensures (c.in_ok-place.ensures marks)
