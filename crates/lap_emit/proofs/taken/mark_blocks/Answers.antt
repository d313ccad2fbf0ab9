use Rattle.std.proofs.Common.{◌<◌, length, arith}
use Rattle.std.specs.List.{flat_map}
use Rattle.word_ir.specs.Lines.{codes_of, lines_of}
use Rattle.lap_emit.proofs.MarkLemmas.{marked_step}
use Rattle.lap_emit.proofs.taken.mark_blocks.Goals as goal

pub loop-block-preserved : goal.loop-block-preserved
loop-block-preserved c =
    let lt : c.loop-block.block-index < length c.args.blocks.now = omega arith in
    marked_step (λ b. flat_map codes_of (lines_of b)) _ _ _ c.args.blocks.now c.loop-block.block-index c.block-item.result c.block-item.is lt c.loop-block.invariant c.mark_block.ensures
