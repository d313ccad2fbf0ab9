use Rattle.std.proofs.Common.{◌≡◌, ◌+◌, drop}
use Rattle.frame_ir.specs.Groups.{makings}
use Rattle.frame_heap.specs.Codes.{group_words}
use Rattle.heap_drafts.proofs.groups.group_words.Given as goal

abbrev pub invariant-loop-op : goal.invariant-loop-op
invariant-loop-op l = l.words + group_words (makings (drop l.op-index l.group)) ≡ group_words (makings l.group)
