-- Which blocks' code is taken, as a mark for each block.
use Rattle.std.specs.Prelude.{◌≡◌, ℕ, Bool, true, false, List, [], ◌∷◌, length, replicate, slice_set}
use Rattle.word_ir.specs.declared.words.Words.{Words}
use Rattle.word_ir.specs.Whole.{taken_blocks}

-- these blocks are marked too; one that isn't there has no mark
unfoldable pub marked : List Bool → List ℕ → List Bool
marked marks [] = marks
marked marks (b ∷ blocks) = marked (slice_set marks b true) blocks

-- a mark for each block, of those whose code is taken
abbrev pub AreMarks : List Bool → Words → Type 0
AreMarks marks words = marks ≡ marked (replicate (length words.blocks.items) false) (taken_blocks words)
