use Rattle.std.proofs.Common.{◌≡◌, take}
use Rattle.std.specs.List.{flat_map}
use Rattle.word_ir.specs.Lines.{codes_of, lines_of}
use Rattle.lap_emit.specs.Marks.{marked}
use Rattle.lap_emit.proofs.taken.mark_blocks.Given as goal

abbrev pub invariant-loop-block : goal.invariant-loop-block
invariant-loop-block l = l.marks.items ≡ marked l.initial.marks.items (flat_map (λ b. flat_map codes_of (lines_of b)) (take l.block-index l.blocks))
