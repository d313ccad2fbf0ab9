use Rattle.std.proofs.Common.{◌≡◌, take}
use Rattle.std.specs.List.{flat_map}
use Rattle.word_ir.specs.Whole.{static_code}
use Rattle.lap_emit.specs.Marks.{marked}
use Rattle.lap_emit.proofs.taken.mark_statics.Given as goal

abbrev pub invariant-loop-word : goal.invariant-loop-word
invariant-loop-word l = l.marks.items ≡ marked l.initial.marks.items (flat_map static_code (take l.word-index l.statics))
