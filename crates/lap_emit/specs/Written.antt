-- What is written behind the items so far, where some moves do at once what is to be done at once.
use Rattle.std.specs.Prelude.{◌≡◌, ℕ, List, ◌++◌}
use Rattle.word_ir.specs.declared.operands.Operand.{Operand}
use Rattle.word_ir.specs.declared.placed.Home.{Home}
use Rattle.word_ir.specs.declared.placed.Placed.{Placed}
use Rattle.word_ir.specs.declared.words.WordBlock.{WordBlock}
use Rattle.word_ir.specs.declared.words.WordEnd.{WordEnd}
use Rattle.parallel_moves.specs.declared.Move.{Move}
use Rattle.parallel_moves.specs.declared.OneMove.{OneMove}
use Rattle.m68020_asm.specs.declared.item.Item.{Item}
use Rattle.lap_items.specs.Moves.{moves_to, fill_items, moved_items, DoesAtOnce}
use Rattle.lap_items.specs.Ends.{end_moves, end_items}
use Rattle.lap_items.specs.Program.{IsBlock, AreBlocks}

pub record AddsMoves (moves : List Move) (old new : List Item) : Type 0 where
  pub done : List OneMove
  pub does : DoesAtOnce moves done
  pub same : new ≡ old ++ moved_items done

pub record AddsArguments (homes : List Home) (args : List Operand) (places : List Home) (old new : List Item) : Type 0 where
  pub done : List OneMove
  pub does : DoesAtOnce (moves_to homes args places) done
  pub same : new ≡ old ++ (moved_items done ++ fill_items homes args places)

pub record AddsEnd (placed : Placed) (end : WordEnd) (old new : List Item) : Type 0 where
  pub done : List OneMove
  pub does : DoesAtOnce (end_moves placed end) done
  pub same : new ≡ old ++ end_items placed end done

pub record AddsBlock (placed : Placed) (b : ℕ) (block : WordBlock) (old new : List Item) : Type 0 where
  pub more : List Item
  pub is : IsBlock placed b block more
  pub same : new ≡ old ++ more

-- these blocks, from the first on
pub record AddsBlocks (placed : Placed) (blocks : List WordBlock) (old new : List Item) : Type 0 where
  pub more : List Item
  pub are : AreBlocks placed 0 blocks more
  pub same : new ≡ old ++ more
