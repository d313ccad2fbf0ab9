use Rattle.std.proofs.Common.{sym, ◌∙◌}
use Rattle.t_core.specs.declared.forms.FormKind.TheVariants as Kind
use Rattle.cps_ir.specs.Parts.{is_procedure}
use Rattle.unit_conversion.proofs.Picking.{first_added}
use Rattle.unit_conversion.proofs.first_lams.add_global.Goals as goal

pub returns-in_ok-push : goal.returns-in_ok-push
returns-in_ok-push c = λ marks.
    first_added c.args.unit.now c.args.marks.now c.args.made.now c.root.new.made (Kind.Define c.args.g) c.in_ok-at.at (is_procedure c.args.info) c.in_ok-lam.lam c.args.lams.now.items c.push.new.self.items
    (sym c.is_procedure.ensures ∙ c.if-is_procedure.true) c.in_ok-at.ensures (c.in_ok-lam.ensures marks) c.in_ok-push.ensures.items
