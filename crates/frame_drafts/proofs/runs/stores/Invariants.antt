use Rattle.std.proofs.Common.{◌≡◌, ◌+◌, take}
use Rattle.frame_stacks.specs.Codes.{stores}
use Rattle.word_drafts.specs.Drafts.{Writes}
use Rattle.frame_drafts.proofs.runs.stores.Given as goal

abbrev pub invariant-loop-x : goal.invariant-loop-x
invariant-loop-x l = (l.at ≡ l.initial.place + l.x-index) × Writes (stores l.initial.place (take l.x-index l.xs)) l.initial.draft l.draft
