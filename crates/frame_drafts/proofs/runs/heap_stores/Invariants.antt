use Rattle.std.proofs.Common.{◌≡◌, ◌+◌, take}
use Rattle.frame_heap.specs.Codes.{heap_stores}
use Rattle.word_drafts.specs.Drafts.{Writes}
use Rattle.frame_drafts.proofs.runs.heap_stores.Given as goal

abbrev pub invariant-loop-x : goal.invariant-loop-x
invariant-loop-x l = (l.at ≡ l.initial.place + l.x-index) × Writes (heap_stores l.t l.initial.place (take l.x-index l.xs)) l.initial.draft l.draft
