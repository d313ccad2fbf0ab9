use Rattle.std.proofs.Common.{refl, sym, arith}
use Rattle.layout_tables.proofs.Growing.{grows_same}
use Rattle.layout_steps.proofs.Laying.{laid_cell}
use Rattle.layout_tables.proofs.Adding.{adds_variable}
use Rattle.layout_steps.proofs.cells.lay_cell.Goals as goal

pub returns : goal.returns
returns c = laid_cell c.args.cps.now c.args.tables.now c.args.work.now c.prepare.new.work c.variable.new.self c.args.line.now (record { ops = c.push.new.self; scope = c.hold.new.self; site = c.args.line.now.site }) c.args.term c.args.var c.in_ok-to.to c.args.value c.in_ok-value.value c.args.rest c.prepare.new.ops.items
    c.requires.below c.in_ok-value.ensures c.in_ok-to.ensures.variable c.in_ok-to.ensures.next (grows_same c.args.tables.now c.prepare.new.work c.variable.new.self c.variable.ensures.requests c.variable.ensures.templates (let e = c.in_ok-to.ensures.next in omega (arith, e))) (adds_variable c.prepare.new.work c.variable.new.self c.in_ok-to.to.0 c.variable.ensures.requests c.in_ok-to.ensures.variable c.in_ok-to.ensures.next) c.in_ok-push.ensures.items c.in_ok-hold.ensures refl (c.if-not-is_fresh.ensures refl) (sym c.if-not-is_celled.ensures)
