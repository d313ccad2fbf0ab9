use Rattle.std.proofs.Common.{◌<◌, length, get_or, arith}
use Rattle.word_ir.specs.declared.words.StaticWord.TheVariants as first
use Rattle.word_ir.specs.Whole.{static_code}
use Rattle.lap_emit.proofs.MarkLemmas.{marked_step, read_same}
use Rattle.lap_emit.proofs.taken.mark_statics.Goals as goal

pub loop-word-preserved : goal.loop-word-preserved
loop-word-preserved c =
    let lt : c.loop-word.word-index < length c.args.statics.now = omega arith in
    marked_step static_code _ _ _ c.args.statics.now c.loop-word.word-index (get_or c.args.statics.now c.loop-word.word-index (first.Word 0)) (read_same _ _ _ lt) lt c.loop-word.invariant c.mark_static.ensures
