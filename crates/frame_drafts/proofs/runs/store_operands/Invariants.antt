use Rattle.std.proofs.Common.{◌≡◌, ◌+◌, take}
use Rattle.frame_calls.specs.Codes.{store_operands}
use Rattle.word_drafts.specs.Drafts.{Writes}
use Rattle.frame_drafts.proofs.runs.store_operands.Given as goal

abbrev pub invariant-loop-x : goal.invariant-loop-x
invariant-loop-x l = (l.at ≡ l.initial.i + l.x-index) × Writes (store_operands l.initial.i (take l.x-index l.xs)) l.initial.draft l.draft
