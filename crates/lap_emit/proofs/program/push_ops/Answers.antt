use Rattle.std.proofs.Common.{◌<◌, length, arith}
use Rattle.lap_items.specs.Operations.{op_items}
use Rattle.lap_emit.proofs.MarkLemmas.{written_step}
use Rattle.lap_emit.proofs.program.push_ops.Goals as goal

pub loop-op-preserved : goal.loop-op-preserved
loop-op-preserved c =
    let lt : c.loop-op.op-index < length c.args.ops.now = omega arith in
    written_step (op_items c.args.homes.now) c.args.items.now.items _ _ c.args.ops.now c.loop-op.op-index c.op-item.result c.op-item.is lt c.loop-op.invariant c.in_ok-push_op.ensures
