use Rattle.std.proofs.Common.{refl}
use Rattle.layout_steps.proofs.Laying.{laid_tail_call, laid_call}
use Rattle.layout_steps.proofs.terms.lay_call.Goals as goal

pub returns-in-Some : goal.returns-in-Some
returns-in-Some c = laid_tail_call c.args.cps.now c.args.tables.now c.args.work.now c.prepare.new.work c.prepare_list.new.work c.args.line.now (record { ops = c.prepare_list.new.ops; scope = c.args.line.now.scope; site = c.args.line.now.site }) c.args.term c.args.f c.in_ok-operator.operator c.args.args.now c.in_ok-operands.operands c.args.k c.in-Some._own c.prepare.new.ops.items
    c.requires.below refl c.in-Some.ensures c.in_ok-operator.ensures c.in_ok-operands.ensures

pub returns : goal.returns
returns c = laid_call c.args.cps.now c.args.tables.now c.args.work.now c.prepare.new.work c.prepare_list.new.work c.await_return.new.work c.args.line.now (record { ops = c.push.new.self; scope = c.args.line.now.scope; site = c.args.line.now.site }) c.args.term c.args.f c.in_ok-operator.operator c.args.args.now c.in_ok-operands.operands c.args.k c.in_ok-frame.frame c.prepare.new.ops.items c.prepare_list.new.ops.items
    c.requires.below refl c.in_ok-operator.ensures c.in_ok-operands.ensures c.in_ok-frame.ensures c.in_ok-push.ensures.items
