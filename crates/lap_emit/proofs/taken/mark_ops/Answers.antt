use Rattle.std.proofs.Common.{◌<◌, length, arith}
use Rattle.std.specs.List.{flat_map}
use Rattle.word_ir.specs.Lines.{operand_code, op_operands}
use Rattle.lap_emit.proofs.MarkLemmas.{marked_step}
use Rattle.lap_emit.proofs.taken.mark_ops.Goals as goal

pub loop-op-preserved : goal.loop-op-preserved
loop-op-preserved c =
    let lt : c.loop-op.op-index < length c.args.ops.now = omega arith in
    marked_step (λ o. flat_map operand_code (op_operands o)) _ _ _ c.args.ops.now c.loop-op.op-index c.op-item.result c.op-item.is lt c.loop-op.invariant c.mark_op.ensures
