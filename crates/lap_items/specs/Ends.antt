-- The items of a block's end.
use Rattle.std.specs.Prelude.{ℕ, ◌==◌, ◌&&◌, nat_lt, length, Bool, if◌then◌else◌, List, [], ◌∷◌, ◌++◌, map, slice_get}
use Rattle.std.specs.List.{list_any}
use Rattle.std.specs.Option.{option_map_or}
use Rattle.word_ir.specs.declared.operands.Operand.{Operand}
use Rattle.word_ir.specs.declared.operands.Operand.TheVariants as operand
use Rattle.word_ir.specs.declared.placed.Home.{Home}
use Rattle.word_ir.specs.declared.placed.Placed.{Placed}
use Rattle.word_ir.specs.declared.words.Test.{Test}
use Rattle.word_ir.specs.declared.words.Test.TheVariants as test
use Rattle.word_ir.specs.declared.words.WordBlock.{WordBlock}
use Rattle.word_ir.specs.declared.words.WordEnd.{WordEnd}
use Rattle.word_ir.specs.declared.words.WordEnd.TheVariants as last
use Rattle.word_ir.specs.declared.words.Words.{Words}
use Rattle.word_ir.specs.Whole.{taken_blocks}
use Rattle.parallel_moves.specs.declared.Move.{Move}
use Rattle.parallel_moves.specs.declared.OneMove.{OneMove}
use Rattle.m68020_code.specs.declared.instr.Cond.{Cond}
use Rattle.m68020_code.specs.declared.instr.Cond.TheVariants.{Bra, Cs, Eq, Lt, Le}
use Rattle.m68020_code.specs.declared.instr.Ea.TheVariants.{D, Ind}
use Rattle.m68020_code.specs.declared.instr.Instr.TheVariants.{MoveaL, AndiL, CmpL, CmpiL, Jmp, Illegal}
use Rattle.m68020_asm.specs.declared.item.Item.{Item}
use Rattle.m68020_asm.specs.declared.item.Item.TheVariants.{Plain, Branch, CodeAddr}
use Rattle.lap_items.specs.Homes.{home_of, convention}
use Rattle.lap_items.specs.Operands.{source_items, source_of, load_items}
use Rattle.lap_items.specs.Moves.{moves_to, fill_items, moved_items}

-- the block is there, and its code is taken
unfoldable pub is_taken : Words → ℕ → Bool
is_taken words block = nat_lt block (length words.blocks.items) && list_any (λ b. b == block) (taken_blocks words)

-- the homes of a block's parameters
abbrev pub homes_of_params : List Home → WordBlock → List Home
homes_of_params homes block = map (home_of homes) block.params

abbrev pub homes_of_block : Placed → ℕ → List Home
homes_of_block placed block = option_map_or (homes_of_params placed.at.items) (slice_get placed.words.blocks.items block) []

-- where a jump puts its arguments
unfoldable pub places_of : Placed → ℕ → List Home
places_of placed block = if is_taken placed.words block then convention else homes_of_block placed block

-- ---- tests

abbrev pub condition_of : Test → Cond
condition_of test.Eq = Eq
condition_of test.Lt = Lt
condition_of test.Le = Le
condition_of test.Below = Cs
condition_of (test.TagIs tag) = Eq

unfoldable pub comparing_items : List Home → Test → Operand → List Item
comparing_items homes (test.TagIs tag) b = Plain (AndiL 3 (D 7)) ∷ Plain (CmpiL tag (D 7)) ∷ []
comparing_items homes test.Eq b = source_items b ++ Plain (CmpL (source_of homes b) 7) ∷ []
comparing_items homes test.Lt b = source_items b ++ Plain (CmpL (source_of homes b) 7) ∷ []
comparing_items homes test.Le b = source_items b ++ Plain (CmpL (source_of homes b) 7) ∷ []
comparing_items homes test.Below b = source_items b ++ Plain (CmpL (source_of homes b) 7) ∷ []

unfoldable pub test_items : List Home → Test → Operand → Operand → ℕ → ℕ → List Item
test_items homes kind a b at_true at_false =
    load_items homes a 7 ++ comparing_items homes kind b ++ Branch (condition_of kind) at_true ∷ Branch Bra at_false ∷ []

-- ---- entering code

-- the code's word is in D6 while the arguments move, unless it is the code of a known block
unfoldable pub code_items : List Home → Operand → List Item
code_items homes (operand.Code block) = []
code_items homes (operand.Var v) = load_items homes (operand.Var v) 6
code_items homes (operand.Word n) = load_items homes (operand.Word n) 6
code_items homes (operand.Static place) = load_items homes (operand.Static place) 6
code_items homes (operand.Slot bytes) = load_items homes (operand.Slot bytes) 6

unfoldable pub into_a3 : Operand → Item
into_a3 (operand.Code block) = CodeAddr 3 block
into_a3 (operand.Var v) = Plain (MoveaL (D 6) 3)
into_a3 (operand.Word n) = Plain (MoveaL (D 6) 3)
into_a3 (operand.Static place) = Plain (MoveaL (D 6) 3)
into_a3 (operand.Slot bytes) = Plain (MoveaL (D 6) 3)

-- ---- all ends

-- what an end moves at once
unfoldable pub end_moves : Placed → WordEnd → List Move
end_moves placed (last.Jump block args) = moves_to placed.at.items args (places_of placed block)
end_moves placed (last.Enter code args) = moves_to placed.at.items args convention
end_moves placed (last.Test kind a b at_true at_false) = []
end_moves placed last.Stop = []

-- the items, where the moves are done by these
unfoldable pub end_items : Placed → WordEnd → List OneMove → List Item
end_items placed (last.Jump block args) done = moved_items done ++ fill_items placed.at.items args (places_of placed block) ++ Branch Bra block ∷ []
end_items placed (last.Enter code args) done =
    code_items placed.at.items code ++ moved_items done ++ fill_items placed.at.items args convention ++ into_a3 code ∷ Plain (Jmp (Ind 3)) ∷ []
end_items placed (last.Test kind a b at_true at_false) done = test_items placed.at.items kind a b at_true at_false
end_items placed last.Stop done = Plain Illegal ∷ []
