use Rattle.std.proofs.Common.{arith}
use Rattle.closure_layout.proofs.Labelling.{makes_none, makes_more, makes_all}
use Rattle.closure_layout.proofs.labels.push_closures.Goals as goal

pub loop-place-init : goal.loop-place-init
loop-place-init c = makes_none c.args.tables.now c.args.scope.now c.args.work.now c.args.ops.now.items c.args.lams.now c.args.tos.now

pub loop-place-preserved : goal.loop-place-preserved
loop-place-preserved c = makes_more c.args.tables.now c.args.scope.now c.args.work.now c.loop-place.work c.closure.new.work c.args.ops.now.items c.loop-place.ops.items c.push.new.self.items c.args.lams.now c.args.tos.now c.loop-place.place _ _ c.in_ok-made.made c.loop-place.invariant c.loop-place-test.true c.requires c.in_ok-made.ensures c.in_ok-push.ensures.items

pub returns : goal.returns
returns c = makes_all c.args.tables.now c.args.scope.now c.args.work.now c.loop-place.work c.args.ops.now.items c.loop-place.ops.items c.args.lams.now c.args.tos.now c.loop-place.place c.loop-place.invariant (omega (arith, c.loop-place-test.false, c.loop-place.auto.place-end)) c.requires
