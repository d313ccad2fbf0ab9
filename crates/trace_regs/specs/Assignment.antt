-- Which homes variables get: each one that is bound has a static word of its own, behind those of the program.
use Rattle.std.specs.Prelude.{◌≡◌, ℕ, ◌+◌, ◌-◌, ◌%◌, ◌<◌, ◌≤◌, List, ◌++◌, length, replicate, slice_get, set, Some, All}
use Rattle.t_base.specs.declared.basics.Var.{Var}
use Rattle.t_base.specs.SharedParts.{IsCopyOf as IsCopyOfShared}
use Rattle.word_ir.specs.declared.placed.Home.{Home}
use Rattle.word_ir.specs.declared.placed.Home.TheVariants as home
use Rattle.word_ir.specs.declared.placed.Placed.{Placed}
use Rattle.word_ir.specs.declared.words.StaticWord.TheVariants as first
use Rattle.word_ir.specs.declared.words.Words.{Words}
use Rattle.word_ir.specs.Copies.{AreCopies}
use Rattle.word_ir.specs.Whole.{binders}

-- the home of a number that is no variable's
abbrev pub spare : Home
spare = home.D 0

-- the list with a home at a number, filled up to there
abbrev pub with_home : List Home → ℕ → Home → List Home
with_home homes number h = set (homes ++ replicate (number + 1 - length homes) spare) number h

-- a static word from one place on and before another, or the spare home
abbrev pub IsBetween : ℕ → ℕ → Home → Type 0
IsBetween low high (home.D i) = i ≡ 0
IsBetween low high (home.A i) = ⊥
IsBetween low high (home.Stack n) = ⊥
IsBetween low high (home.Static place) = (low ≤ place) × (place < high)

-- The variables of a list before a place there have the static words from one on, in order, and there are no other homes.
pub record HaveHomes (low count : ℕ) (vars : List Var) (homes : List Home) : Type 0 where
  pub each : (i : ℕ) (v : Var) → i < count → slice_get vars i ≡ Some v → slice_get homes v.0 ≡ Some (home.Static (low + i))
  pub only : All (IsBetween low (low + count)) homes

-- so many static words are added, for an even count
abbrev pub added : Words → ℕ
added words = length (binders words) + (length words.statics.items + length (binders words)) % 2

-- the words with more static words, and where each variable is
pub record IsAssigned (words : Words) (placed : Placed) : Type 0 where
  pub shared : IsCopyOfShared words.shared placed.words.shared
  pub statics : placed.words.statics.items ≡ words.statics.items ++ replicate (added words) (first.Word 0)
  pub blocks : AreCopies words.blocks.items placed.words.blocks.items
  pub entry : placed.words.entry ≡ words.entry
  pub homes : HaveHomes (length words.statics.items) (length (binders words)) (binders words) placed.at.items
