use Rattle.std.proofs.Common.{rules, ◌≡◌, subst, arith}
use Rattle.t_core.specs.declared.forms.FormKind.TheVariants as Kind
use Rattle.cps_ir.specs.Parts.{is_procedure}
use Rattle.unit_conversion.specs.FirstLams.{FirstAdded}
use Rattle.unit_conversion.proofs.Picking.{firsts_at}
use Rattle.unit_conversion.proofs.first_lams.global_lams.Goals as goal

pub globals-preserved : goal.globals-preserved
globals-preserved c =
    let number : c.in-Ok.g ≡ c.globals.at = search rules in
    record {
      within = omega (arith, c.globals-test.true, c.len.ensures);
      made = λ marks.
          firsts_at c.args.unit.now c.args.marks.now c.args.made.now c.globals.made c.add_global.new.made Kind.Define is_procedure c.args.unit.now.shared.globals.items c.globals.at c.in-Ok.g c.index-info.result.now c.globals.lams.items c.add_global.new.lams.items
          (omega (arith, c.globals-test.true, c.len.ensures)) number (c.globals.invariant.made marks)
          (subst (λ i. FirstAdded c.args.unit.now c.args.marks.now c.globals.made c.add_global.new.made (Kind.Define c.in-Ok.g) (is_procedure i) c.globals.lams.items c.add_global.new.lams.items) c.index-info.ensures (c.in_ok-add_global.ensures marks));
    }
