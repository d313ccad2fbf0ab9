use Rattle.std.proofs.Common.{sym, subst, []}
use Rattle.layout_steps.specs.Steps.{IsPrepared}
use Rattle.layout_tables.proofs.Growing.{below_more}
use Rattle.layout_steps.proofs.Preparing.{prepared_none, prepared_more}
use Rattle.layout_steps.proofs.arguments.prepare_all.Goals as goal

pub loop-arg-init : goal.loop-arg-init
loop-arg-init c = record {
  below = c.requires.below;
  prepared = subst (λ bs. IsPrepared c.args.cps.now c.args.tables.now c.args.scope.now c.args.work.now c.args.work.now [] c.args.ops.now.items c.args.ops.now.items bs) (sym c.new-ready.ensures.items) (prepared_none c.args.cps.now c.args.tables.now c.args.scope.now c.args.work.now c.args.ops.now.items);
}

pub loop-arg-preserved : goal.loop-arg-preserved
loop-arg-preserved c = record {
  below = below_more c.loop-arg.work.next c.prepare.new.work.next c.args.scope.now c.in_ok-one.ensures.grows.next c.loop-arg.invariant.below;
  prepared = prepared_more c.args.cps.now c.args.tables.now c.args.scope.now c.args.work.now c.loop-arg.work c.prepare.new.work c.args.args.now c.loop-arg.arg-index _ c.in_ok-one.one c.args.ops.now.items c.loop-arg.ops.items c.prepare.new.ops.items c.loop-arg.ready.items c.push.new.self.items
      c.loop-arg-test.true c.loop-arg.invariant.prepared c.in_ok-one.ensures c.in_ok-push.ensures.items;
}
