use Rattle.std.proofs.Common.{◌≡◌}
use Rattle.t_base.specs.declared.shared_parts.Shared.{Shared}
use Rattle.word_selection.specs.Codes.{Choice}
use Rattle.word_drafts.specs.Drafts.{IsProper}
use Rattle.block_drafts.specs.Fitting.{IsChoice, WritesBlocks}
use Rattle.block_drafts.proofs.written.blocks.Given as goal

abbrev pub invariant-loop-b : goal.invariant-loop-b
invariant-loop-b l = IsProper l.draft × (l.number ≡ l.b-index) × ((h : Choice) (shared : Shared) → IsChoice h shared l.places → WritesBlocks h shared l.b-index l.blocks l.initial.draft l.draft)
