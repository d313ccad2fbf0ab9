-- The items of a whole program of words whose variables have homes.
use Rattle.std.specs.Prelude.{◌≡◌, ℕ, ◌+◌, if◌then◌else◌, List, [], ◌∷◌, ◌++◌, slice_get, Some}
use Rattle.std.specs.List.{flat_map}
use Rattle.word_ir.specs.declared.placed.Home.{Home}
use Rattle.word_ir.specs.declared.placed.Placed.{Placed}
use Rattle.word_ir.specs.declared.words.WordBlock.{WordBlock}
use Rattle.parallel_moves.specs.declared.Move.{Move}
use Rattle.parallel_moves.specs.declared.OneMove.{OneMove}
use Rattle.parallel_moves.specs.Moves.{AreParallel}
use Rattle.m68020_asm.specs.declared.item.Item.{Item}
use Rattle.m68020_asm.specs.declared.item.Item.TheVariants.{Label}
use Rattle.lap_items.specs.Homes.{convention}
use Rattle.lap_items.specs.Operations.{op_items}
use Rattle.lap_items.specs.Moves.{each_pair, move_between, moved_items, DoesAtOnce}
use Rattle.lap_items.specs.Ends.{is_taken, homes_of_params, end_moves, end_items}

abbrev pub single_move : Home → Home → List Move
single_move from to = move_between from to ∷ []

-- each from a home in one list to that at its place in the other
abbrev pub moves_between : List Home → List Home → List Move
moves_between sources places = each_pair single_move sources places

-- a block whose code is taken begins with its parameters where an Enter puts them
unfoldable pub first_moves : Placed → ℕ → WordBlock → List Move
first_moves placed b block = if is_taken placed.words b then moves_between convention (homes_of_params placed.at.items block) else []

abbrev pub ops_items : Placed → WordBlock → List Item
ops_items placed block = flat_map (op_items placed.at.items) block.ops.items

-- The items of a block: its label, the moves of its parameters, its operations and its end, with some moves that do at once what is to
-- be done at once.
pub record IsBlock (placed : Placed) (b : ℕ) (block : WordBlock) (items : List Item) : Type 0 where
  pub first : List OneMove
  pub last : List OneMove
  pub enters : DoesAtOnce (first_moves placed b block) first
  pub leaves : DoesAtOnce (end_moves placed block.last) last
  pub same : items ≡ Label b ∷ moved_items first ++ ops_items placed block ++ end_items placed block.last last

-- those of blocks, the first of which has this number
abbrev pub AreBlocks : Placed → ℕ → List WordBlock → List Item → Type 0
AreBlocks placed b [] items = items ≡ []
AreBlocks placed b (block ∷ blocks) items =
    (front : List Item) × (rest : List Item) × (items ≡ front ++ rest) × IsBlock placed b block front × AreBlocks placed (b + 1) blocks rest

-- what is done at once can be: no place is the target of two moves
pub record CanMove (placed : Placed) : Type 0 where
  pub enters : (b : ℕ) (block : WordBlock) → slice_get placed.words.blocks.items b ≡ Some block → AreParallel (first_moves placed b block)
  pub leaves : (b : ℕ) (block : WordBlock) → slice_get placed.words.blocks.items b ≡ Some block → AreParallel (end_moves placed block.last)

-- The items of the program: those of its blocks in order, each with its number as its label.
pub record IsEmitted (placed : Placed) (items : List Item) : Type 0 where
  pub blocks : AreBlocks placed 0 placed.words.blocks.items items
