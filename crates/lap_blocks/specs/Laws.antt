-- Where the items of blocks stand.
use Rattle.std.specs.Prelude.{◌≡◌, ◌≢◌, ℕ, List, ◌++◌, slice_get, slice_index, Some}
use Rattle.word_ir.specs.declared.placed.Placed.{Placed}
use Rattle.word_ir.specs.declared.words.WordBlock.{WordBlock}
use Rattle.parallel_moves.specs.declared.OneMove.{OneMove}
use Rattle.m68020_step.specs.Step.{State}
use Rattle.lap_items.specs.Moves.{moved_items, DoesAtOnce}
use Rattle.lap_items.specs.Ends.{end_moves, end_items}
use Rattle.lap_items.specs.Program.{first_moves, ops_items, IsEmitted}
use Rattle.lap_paths.specs.Paths.{Assembly, Stands, IsAt}

-- a state at the items of a block, with some moves that do at once what is to be done at once
pub record Begins (a : Assembly) (placed : Placed) (b : ℕ) (block : WordBlock) (u : State) : Type 0 where
  pub first : List OneMove
  pub last : List OneMove
  pub enters : DoesAtOnce (first_moves placed b block) first
  pub leaves : DoesAtOnce (end_moves placed block.last) last
  pub stands : Stands a u (moved_items first ++ ops_items placed block ++ end_items placed block.last last)

abbrev pub BlocksStand : Type 0
BlocksStand = (a : Assembly) (placed : Placed) (b : ℕ) (block : WordBlock) (u : State) → IsEmitted placed a.items → slice_get placed.words.blocks.items b ≡ Some block → IsAt a u b → Begins a placed b block u

-- Labels of different blocks have different addresses, and none is 0.
pub record LabelsApart (a : Assembly) (placed : Placed) : Type 0 where
  pub apart : (b c : ℕ) (x y : WordBlock) → slice_get placed.words.blocks.items b ≡ Some x → slice_get placed.words.blocks.items c ≡ Some y → slice_index a.labels b ≡ slice_index a.labels c → b ≡ c
  pub somewhere : (b : ℕ) (x : WordBlock) → slice_get placed.words.blocks.items b ≡ Some x → slice_index a.labels b ≢ 0

abbrev pub BlocksApart : Type 0
BlocksApart = (a : Assembly) (placed : Placed) → IsEmitted placed a.items → LabelsApart a placed
