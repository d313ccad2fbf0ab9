use Rattle.std.proofs.Common.{rules, ◌≡◌, subst, arith}
use Rattle.t_core.specs.declared.forms.FormKind.TheVariants as Kind
use Rattle.unit_conversion.specs.FirstLams.{has_default, FirstAdded}
use Rattle.unit_conversion.proofs.Picking.{firsts_at}
use Rattle.unit_conversion.proofs.first_lams.default_lams.Goals as goal

pub ops-preserved : goal.ops-preserved
ops-preserved c =
    let number : c.in-Ok.o ≡ c.ops.at = search rules in
    record {
      within = omega (arith, c.ops-test.true, c.len.ensures);
      made = λ marks.
          firsts_at c.args.unit.now c.args.marks.now c.args.made.now c.ops.made c.add_default.new.made Kind.Operation has_default c.args.unit.now.shared.ops.items c.ops.at c.in-Ok.o c.index-info.result.now c.ops.lams.items c.add_default.new.lams.items
          (omega (arith, c.ops-test.true, c.len.ensures)) number (c.ops.invariant.made marks)
          (subst (λ i. FirstAdded c.args.unit.now c.args.marks.now c.ops.made c.add_default.new.made (Kind.Operation c.in-Ok.o) (has_default i) c.ops.lams.items c.add_default.new.lams.items) c.index-info.ensures (c.in_ok-add_default.ensures marks));
    }
