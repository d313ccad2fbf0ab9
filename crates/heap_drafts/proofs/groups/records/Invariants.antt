use Rattle.std.proofs.Common.{drop}
use Rattle.t_base.specs.declared.shared_parts.Shared.{Shared}
use Rattle.frame_ir.specs.Groups.{makings}
use Rattle.frame_words.specs.Layouts.{Layout}
use Rattle.frame_heap.specs.Codes.{records}
use Rattle.operand_drafts.specs.Places.{ArePlaces}
use Rattle.word_drafts.specs.Drafts.{IsProper}
use Rattle.heap_drafts.specs.Groups.{Lacks}
use Rattle.heap_drafts.proofs.groups.records.Given as goal

abbrev pub invariant-loop-op : goal.invariant-loop-op
invariant-loop-op l =
    IsProper l.draft × ((y : Layout) (shared : Shared) → ArePlaces y shared l.places → Lacks (records y l.places.free 0 (makings l.group)) (records y l.places.free l.place (makings (drop l.op-index l.group))) l.initial.draft l.draft)
