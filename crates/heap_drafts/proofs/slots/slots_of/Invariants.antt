use Rattle.std.proofs.Common.{◌≡◌, drop}
use Rattle.frame_ir.specs.Operations.{slots_behind, slots_of}
use Rattle.heap_drafts.proofs.slots.slots_of.Given as goal

abbrev pub invariant-loop-op : goal.invariant-loop-op
invariant-loop-op l = slots_behind l.above (drop l.op-index l.ops) l.slots ≡ slots_of l.ops l.fn.kept
