-- What copies have in common.
use Rattle.std.specs.Prelude.{◌≡◌, ℕ, List}
use Rattle.word_ir.specs.declared.placed.Home.{Home}
use Rattle.word_ir.specs.declared.placed.Placed.{Placed}
use Rattle.word_ir.specs.declared.words.Words.{Words}
use Rattle.word_ir.specs.Storage.{Sizes}
use Rattle.word_ir.specs.State.{Setting}
use Rattle.word_ir.specs.Step.{run_in}
use Rattle.word_ir.specs.Stamps.{stamped_run_in}
use Rattle.word_ir.specs.Copies.{IsCopyOf}
use Rattle.word_ir.specs.Counts.{Weights, bulk_by}
use Rattle.word_ir.specs.WholePlaced.{IsPlacedOf}

abbrev pub with_homes : Words → List Home → Sizes → Setting
with_homes words homes sizes = record { words = words; homes = homes; sizes = sizes }

-- A copy runs as what it is a copy of, with homes and without, with stamps and without.
pub record RunAlike (old new : Setting) (n : ℕ) : Type 0 where
  pub plain : run_in new n ≡ run_in old n
  pub stamped : stamped_run_in new n ≡ stamped_run_in old n

abbrev pub CopiesRunAlike : Type 0
CopiesRunAlike = (old new : Words) (homes : List Home) (sizes : Sizes) → IsCopyOf old new → (n : ℕ) → RunAlike (with_homes old homes sizes) (with_homes new homes sizes) n

-- A copy weighs as much, by any weights.
abbrev pub CopiesWeighAlike : Type 0
CopiesWeighAlike = (old new : Words) (w : Weights) → IsCopyOf old new → bulk_by w new ≡ bulk_by w old

-- So does a program with homes, which has more static words alone.
abbrev pub HomesWeighNothing : Type 0
HomesWeighNothing = (words : Words) (placed : Placed) (w : Weights) → IsPlacedOf words placed → bulk_by w placed.words ≡ bulk_by w words
