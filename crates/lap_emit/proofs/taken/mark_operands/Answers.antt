use Rattle.std.proofs.Common.{◌<◌, length, get_or, arith}
use Rattle.word_ir.specs.declared.operands.Operand.TheVariants as operand
use Rattle.word_ir.specs.Lines.{operand_code}
use Rattle.lap_emit.proofs.MarkLemmas.{marked_step, read_same}
use Rattle.lap_emit.proofs.taken.mark_operands.Goals as goal

pub loop-x-preserved : goal.loop-x-preserved
loop-x-preserved c =
    let lt : c.loop-x.x-index < length c.args.args.now = omega arith in
    marked_step operand_code _ _ _ c.args.args.now c.loop-x.x-index (get_or c.args.args.now c.loop-x.x-index (operand.Var record { 0 = 0 })) (read_same _ _ _ lt) lt c.loop-x.invariant c.mark_operand.ensures
