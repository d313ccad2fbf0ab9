use Rattle.std.proofs.Common.{take}
use Rattle.std.specs.List.{AllByRecursion}
use Rattle.closure_layout.specs.Blocks.{IsOpIn}
use Rattle.closure_layout.proofs.templates.are_ops.Given as goal

abbrev pub invariant-loop-op : goal.invariant-loop-op
invariant-loop-op l = AllByRecursion (IsOpIn l.frames) (take l.op-index l.ops)
