use Rattle.std.proofs.Common.{◌≡◌, take}
use Rattle.std.specs.List.{flat_map}
use Rattle.word_ir.specs.Lines.{operand_code}
use Rattle.lap_emit.specs.Marks.{marked}
use Rattle.lap_emit.proofs.taken.mark_operands.Given as goal

abbrev pub invariant-loop-x : goal.invariant-loop-x
invariant-loop-x l = l.marks.items ≡ marked l.initial.marks.items (flat_map operand_code (take l.x-index l.args))
