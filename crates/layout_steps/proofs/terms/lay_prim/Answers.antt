use Rattle.std.proofs.Common.{arith}
use Rattle.cps_ir.specs.declared.terms.Term.TheVariants as Node
use Rattle.frame_ir.specs.declared.forms.FrameOp.TheVariants as Op
use Rattle.layout_relation.specs.Laid.{lays_prim}
use Rattle.layout_tables.specs.Sketches.{context_of}
use Rattle.layout_tables.proofs.Growing.{grows_same}
use Rattle.layout_steps.proofs.Laying.{laid_new}
use Rattle.layout_tables.proofs.Adding.{adds_variable}
use Rattle.layout_steps.proofs.terms.lay_prim.Goals as goal

pub returns : goal.returns
returns c =
    let to = c.in_ok-to.to in
    let bs = c.in_ok-operands.operands in
    laid_new c.args.cps.now c.args.tables.now c.args.work.now c.prepare_list.new.work c.variable.new.self c.give_new.new.work c.args.line.now (record { ops = c.push.new.self; scope = c.args.line.now.scope; site = c.args.line.now.site }) c.give_new.new.line c.args.term (Node.Prim c.args.p c.args.args.now c.args.k) c.args.args.now bs c.args.k to (Op.Prim to c.args.p bs) c.prepare_list.new.ops.items c.in_ok-step.step
    (λ v same ms ops last prep unused gives. lays_prim (context_of c.args.tables.now c.args.line.now) c.args.term c.args.p c.args.args.now c.args.k ms bs to ops last prep unused gives)
    c.requires.below c.in_ok-operands.ensures c.in_ok-to.ensures.variable (grows_same c.args.tables.now c.prepare_list.new.work c.variable.new.self c.variable.ensures.requests c.variable.ensures.templates (let e = c.in_ok-to.ensures.next in omega (arith, e))) (adds_variable c.prepare_list.new.work c.variable.new.self to.0 c.variable.ensures.requests c.in_ok-to.ensures.variable c.in_ok-to.ensures.next)
    c.in_ok-push.ensures.items c.give_new.ensures.same c.in_ok-step.ensures.leads
