use Rattle.std.proofs.Common.{refl, sym, ap, ◌∙◌}
use Rattle.cps_ir.specs.declared.terms.Term.TheVariants as Node
use Rattle.frame_ir.specs.declared.forms.FrameOp.TheVariants as Op
use Rattle.layout_relation.specs.Laid.{lays_cell_set}
use Rattle.layout_tables.specs.Sketches.{context_of}
use Rattle.layout_steps.proofs.Laying.{laid_value}
use Rattle.layout_steps.proofs.cells.lay_cell_set.Goals as goal

pub returns-in_ok-step-in-Some : goal.returns-in_ok-step-in-Some
returns-in_ok-step-in-Some c =
    let b = c.in_ok-value.value in
    let cell = c.in-Some.cell in
    laid_value c.args.cps.now c.args.tables.now c.args.work.now c.prepare.new.work c.give_value.new.work c.args.line.now (record { ops = c.push.new.self; scope = c.args.line.now.scope; site = c.args.line.now.site }) c.give_value.new.line c.args.term (Node.CellSet c.args.var c.args.value c.args.k) _ b c.args.k (Op.CellSet cell b) c.prepare.new.ops.items c.in_ok-step-in-Some.step
    (λ v same ms ops last prep gives. lays_cell_set (context_of c.args.tables.now c.args.line.now) c.args.term c.args.var cell c.args.value c.args.k ms b ops last prep c.in-Some.ensures (ap (λ (z : _). z c.args.var.0) same ∙ sym c.if-not-is_celled.ensures) gives)
    c.in_ok-value.ensures refl c.in_ok-push-in-Some.ensures.items c.give_value.ensures.same c.in_ok-step-in-Some.ensures.leads
