-- What homes keep of a program of words, whoever chose them.
use Rattle.std.specs.Prelude.{◌≡◌, ℕ, All}
use Rattle.program_runs.specs.Keeps.{KeepsAlike, IsSafe}
use Rattle.word_ir.specs.declared.placed.Home.{Home}
use Rattle.word_ir.specs.declared.placed.Home.TheVariants as home
use Rattle.word_ir.specs.declared.placed.Placed.{Placed}
use Rattle.word_ir.specs.declared.words.Words.{Words}
use Rattle.word_ir.specs.Storage.{Sizes}
use Rattle.word_ir.specs.Step.{words_run, placed_run}
use Rattle.word_ir.specs.Stamps.{stamped_words_run, stamped_placed_run}
use Rattle.word_ir.specs.Ranges.{HasWords}
use Rattle.word_ir.specs.WholePlaced.{IsWholePlaced, IsPlacedOf}

-- a register or a static word
abbrev pub IsOutside : Home → Type 0
IsOutside (home.D i) = Unit {0}
IsOutside (home.A i) = Unit {0}
IsOutside (home.Static place) = Unit {0}
IsOutside (home.Stack n) = ⊥

-- These are the words with homes outside the stack, where variables that live at once have different ones.
pub record Serves (words : Words) (placed : Placed) : Type 0 where
  pub whole : IsWholePlaced placed
  pub of : IsPlacedOf words placed
  pub outside : All IsOutside placed.at.items

-- At each bound the same is seen with homes as without.
abbrev pub HomesRunAlike : Type 0
HomesRunAlike = (words : Words) (placed : Placed) (sizes : Sizes) → Serves words placed → HasWords sizes → IsSafe (words_run words sizes) → (k : ℕ) → placed_run placed sizes k ≡ words_run words sizes k

abbrev pub HomesKeep : Type 0
HomesKeep = (words : Words) (placed : Placed) (sizes : Sizes) → Serves words placed → HasWords sizes → IsSafe (words_run words sizes) → KeepsAlike 1 0 (words_run words sizes) (placed_run placed sizes)

-- A safe stamped run is a safe stamped run with homes, and the same is seen.
abbrev pub StampedHomesRunAlike : Type 0
StampedHomesRunAlike =
    (words : Words) (placed : Placed) (sizes : Sizes) → Serves words placed → HasWords sizes → IsSafe (stamped_words_run words sizes) → (k : ℕ)
    → stamped_placed_run placed sizes k ≡ stamped_words_run words sizes k

abbrev pub StampedHomesKeep : Type 0
StampedHomesKeep =
    (words : Words) (placed : Placed) (sizes : Sizes) → Serves words placed → HasWords sizes → IsSafe (stamped_words_run words sizes)
    → IsSafe (stamped_placed_run placed sizes) × KeepsAlike 1 0 (stamped_words_run words sizes) (stamped_placed_run placed sizes)
