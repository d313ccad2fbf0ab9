use Rattle.std.proofs.Common.{◌≡◌, take}
use Rattle.std.specs.List.{flat_map}
use Rattle.word_ir.specs.Lines.{operand_code, op_operands}
use Rattle.lap_emit.specs.Marks.{marked}
use Rattle.lap_emit.proofs.taken.mark_ops.Given as goal

abbrev pub invariant-loop-op : goal.invariant-loop-op
invariant-loop-op l = l.marks.items ≡ marked l.initial.marks.items (flat_map (λ o. flat_map operand_code (op_operands o)) (take l.op-index l.ops))
