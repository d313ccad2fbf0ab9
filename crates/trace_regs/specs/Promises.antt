-- What `assign` promises of the program with homes.
use Rattle.std.specs.Prelude.{◌≡◌, ◌≤◌, ◌%◌}
use Rattle.program_runs.specs.Keeps.{KeepsAlike, IsSafe}
use Rattle.word_ir.specs.declared.placed.Placed.{Placed}
use Rattle.word_ir.specs.declared.words.Words.{Words}
use Rattle.word_ir.specs.Storage.{Sizes}
use Rattle.word_ir.specs.Step.{words_run, placed_run}
use Rattle.word_ir.specs.Stamps.{stamped_words_run, stamped_placed_run}
use Rattle.word_ir.specs.Ranges.{HasWords}
use Rattle.word_ir.specs.Counts.{Weights, bulk_by, static_words}
use Rattle.word_ir.specs.WholePlaced.{statics_with_homes}

-- Where the run of the words is safe, at all sizes of heap and stack, it is kept, with the same moves and as full.
abbrev pub KeepsRuns : Words → Placed → Type 0
KeepsRuns words placed = (sizes : Sizes) → HasWords sizes → IsSafe (words_run words sizes) → KeepsAlike 1 0 (words_run words sizes) (placed_run placed sizes)

-- Where its stamped run is safe, so is the one with homes, and it is kept.
abbrev pub KeepsStampedRuns : Words → Placed → Type 0
KeepsStampedRuns words placed =
    (sizes : Sizes) → HasWords sizes → IsSafe (stamped_words_run words sizes)
    → IsSafe (stamped_placed_run placed sizes) × KeepsAlike 1 0 (stamped_words_run words sizes) (stamped_placed_run placed sizes)

-- The blocks have the same bulk by any weights; the static words are more by the variables that are bound, and one for an even count.
pub record KeepsBulk (words : Words) (placed : Placed) : Type 0 where
  pub blocks : (w : Weights) → bulk_by w placed.words ≡ bulk_by w words
  pub statics : static_words placed.words ≤ statics_with_homes words
  pub even : static_words placed.words % 2 ≡ 0
