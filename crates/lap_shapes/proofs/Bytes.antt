-- How many bytes ends, blocks and the whole take at most.
use Rattle.std.proofs.Common.{◌≡◌, ℕ, zero, suc, ◌+◌, ◌*◌, ◌≤◌, Bool, true, false, List, [], ◌∷◌, ◌++◌, length, slice_get, take, ap, arith, length-append}
use Rattle.std.specs.Prelude.{if◌then◌else◌, sum_by}
use Rattle.std.specs.List.{flat_map}
use Rattle.std.proofs.Math.Seq.{take-length}
use Rattle.std.proofs.lemmas.List.{length-map}
use Rattle.std.proofs.lemmas.List.Sums.{sum_by-cons}
use Rattle.word_ir.specs.declared.operands.Operand.{Operand}
use Rattle.word_ir.specs.declared.operands.Operand.TheVariants as operand
use Rattle.word_ir.specs.declared.placed.Home.{Home}
use Rattle.word_ir.specs.declared.placed.Placed.{Placed}
use Rattle.word_ir.specs.declared.words.Test.{Test}
use Rattle.word_ir.specs.declared.words.Test.TheVariants as test
use Rattle.word_ir.specs.declared.words.WordBlock.{WordBlock}
use Rattle.word_ir.specs.declared.words.WordEnd.{WordEnd}
use Rattle.word_ir.specs.declared.words.WordEnd.TheVariants as last
use Rattle.word_ir.specs.declared.words.WordOp.{WordOp}
use Rattle.parallel_moves.specs.declared.OneMove.{OneMove}
use Rattle.m68020_code.specs.declared.instr.Cond.TheVariants.{Bra}
use Rattle.m68020_code.specs.declared.instr.Ea.TheVariants.{Ind}
use Rattle.m68020_code.specs.declared.instr.Instr.TheVariants.{CmpL, Jmp}
use Rattle.m68020_code.specs.declared.instr.Width.TheVariants.{Long}
use Rattle.m68020_asm.specs.declared.item.Item.{Item}
use Rattle.m68020_asm.specs.declared.item.Item.TheVariants.{Plain, Branch}
use Rattle.m68020_asm.specs.Items.{size_of, size_of_any, address, code_start}
use Rattle.lap_items.specs.Homes.{home_of, at_home, home_at, put_into, convention}
use Rattle.lap_items.specs.Operands.{source_items, source_of, load_items}
use Rattle.lap_items.specs.Operations.{op_items}
use Rattle.lap_items.specs.Moves.{moving, moves_to, filling, fill_items, moved_items}
use Rattle.lap_items.specs.Ends.{is_taken, homes_of_params, places_of, condition_of, comparing_items, test_items, code_items, into_a3, end_moves, end_items}
use Rattle.lap_items.specs.Program.{moves_between, first_moves, ops_items, IsBlock, AreBlocks, IsEmitted}
use Rattle.lap_shapes.specs.Sizes.{op_bytes, end_bytes, block_bytes, most_bytes}
use Rattle.lap_shapes.proofs.Sizes.{bytes_in, bytes_append, behind_most, put_bytes, source_bytes, load_bytes, ops_within}

-- ---- moves

moved_bytes : (done : List OneMove) → bytes_in (moved_items done) ≤ 10 * length done
moved_bytes [] = omega arith
moved_bytes (m ∷ done) = omega (arith, put_bytes (at_home (home_at m.from)) (home_at m.to), behind_most (at_home (home_at m.from)), moved_bytes done)

filling_bytes : (homes : List Home) (x : Operand) (to : Home) → bytes_in (filling homes x to) + 30 * length (moving homes x to) ≤ 30
unfolding filling moving
filling_bytes homes (operand.Var v) to = omega arith
filling_bytes homes (operand.Word n) to = omega (arith, put_bytes (source_of homes (operand.Word n)) to, behind_most (source_of homes (operand.Word n)))
filling_bytes homes (operand.Static p) to = omega (arith, put_bytes (source_of homes (operand.Static p)) to, behind_most (source_of homes (operand.Static p)))
filling_bytes homes (operand.Code b) to =
    omega (arith, bytes_append (source_items (operand.Code b)) (put_into (source_of homes (operand.Code b)) to ∷ []), put_bytes (source_of homes (operand.Code b)) to, source_bytes homes (operand.Code b))
filling_bytes homes (operand.Slot n) to =
    omega (arith, bytes_append (source_items (operand.Slot n)) (put_into (source_of homes (operand.Slot n)) to ∷ []), put_bytes (source_of homes (operand.Slot n)) to, source_bytes homes (operand.Slot n))

arguments_bytes : (homes : List Home) (args : List Operand) (places : List Home) → bytes_in (fill_items homes args places) + 30 * length (moves_to homes args places) ≤ 30 * length args
arguments_bytes homes [] places = omega arith
arguments_bytes homes (x ∷ args) [] = omega arith
arguments_bytes homes (x ∷ args) (to ∷ places) =
    omega (arith, bytes_append (filling homes x to) (fill_items homes args places), length-append (moving homes x to) (moves_to homes args places), filling_bytes homes x to, arguments_bytes homes args places)

between_bytes : (sources places : List Home) → length (moves_between sources places) ≤ length places
between_bytes [] places = omega arith
between_bytes (from ∷ sources) [] = omega arith
between_bytes (from ∷ sources) (to ∷ places) = omega (arith, between_bytes sources places)

-- ---- ends

compared_bytes : (homes : List Home) (x : Operand) → bytes_in (source_items x ++ Plain (CmpL (source_of homes x) 7) ∷ []) ≤ 12
compared_bytes homes x = omega (arith, bytes_append (source_items x) (Plain (CmpL (source_of homes x) 7) ∷ []), source_bytes homes x)

comparing_bytes : (homes : List Home) (kind : Test) (x : Operand) → bytes_in (comparing_items homes kind x) ≤ 12
unfolding comparing_items
comparing_bytes homes (test.TagIs tag) x = omega arith
comparing_bytes homes test.Eq x = compared_bytes homes x
comparing_bytes homes test.Lt x = compared_bytes homes x
comparing_bytes homes test.Le x = compared_bytes homes x
comparing_bytes homes test.Below x = compared_bytes homes x

entering_bytes : (homes : List Home) (x : Operand) → bytes_in (code_items homes x) + size_of (into_a3 x) Long ≤ 14
unfolding code_items into_a3
entering_bytes homes (operand.Code b) = omega arith
entering_bytes homes (operand.Var v) = omega (arith, load_bytes homes (operand.Var v) 6)
entering_bytes homes (operand.Word n) = omega (arith, load_bytes homes (operand.Word n) 6)
entering_bytes homes (operand.Static p) = omega (arith, load_bytes homes (operand.Static p) 6)
entering_bytes homes (operand.Slot n) = omega (arith, load_bytes homes (operand.Slot n) 6)

end_within : (placed : Placed) (end : WordEnd) (done : List OneMove) → length done ≤ 3 * length (end_moves placed end) → bytes_in (end_items placed end done) ≤ end_bytes end
unfolding end_moves end_items test_items
end_within placed (last.Jump block args) done few =
    let places : List Home = places_of placed block in
    omega (
      arith,
      bytes_append (moved_items done ++ fill_items placed.at.items args places) (Branch Bra block ∷ []),
      bytes_append (moved_items done) (fill_items placed.at.items args places),
      moved_bytes done,
      arguments_bytes placed.at.items args places,
    )
end_within placed (last.Enter code args) done few =
    omega (
      arith,
      bytes_append ((code_items placed.at.items code ++ moved_items done) ++ fill_items placed.at.items args convention) (into_a3 code ∷ Plain (Jmp (Ind 3)) ∷ []),
      bytes_append (code_items placed.at.items code ++ moved_items done) (fill_items placed.at.items args convention),
      bytes_append (code_items placed.at.items code) (moved_items done),
      moved_bytes done,
      arguments_bytes placed.at.items args convention,
      entering_bytes placed.at.items code,
    )
end_within placed (last.Test kind a x at_true at_false) done few =
    omega (
      arith,
      bytes_append (load_items placed.at.items a 7 ++ comparing_items placed.at.items kind x) (Branch (condition_of kind) at_true ∷ Branch Bra at_false ∷ []),
      bytes_append (load_items placed.at.items a 7) (comparing_items placed.at.items kind x),
      load_bytes placed.at.items a 7,
      comparing_bytes placed.at.items kind x,
    )
end_within placed last.Stop done few = omega arith

-- ---- blocks

ops_bytes : (homes : List Home) (ops : List WordOp) → bytes_in (flat_map (op_items homes) ops) ≤ sum_by op_bytes ops
ops_bytes homes [] = omega arith
ops_bytes homes (o ∷ ops) = omega (arith, bytes_append (op_items homes o) (flat_map (op_items homes) ops), ops_within homes o, ops_bytes homes ops, sum_by-cons op_bytes o ops)

first_few : (placed : Placed) (b : ℕ) (block : WordBlock) → length (first_moves placed b block) ≤ length block.params
unfolding first_moves
first_few placed b block = by (is_taken placed.words b) where
  by : (taken : Bool) → length (if taken then moves_between convention (homes_of_params placed.at.items block) else []) ≤ length block.params
  by true = omega (arith, between_bytes convention (homes_of_params placed.at.items block), length-map block.params (home_of placed.at.items))
  by false = omega arith

block_within : (placed : Placed) (b : ℕ) (block : WordBlock) (items : List Item) → IsBlock placed b block items → bytes_in items ≤ block_bytes block
block_within placed b block items is =
    let first : List Item = moved_items is.first in
    let ops : List Item = ops_items placed block in
    let end : List Item = end_items placed block.last is.last in
    omega (
      arith,
      ap bytes_in is.same,
      bytes_append (first ++ ops) end,
      bytes_append first ops,
      moved_bytes is.first,
      is.enters.few,
      first_few placed b block,
      ops_bytes placed.at.items block.ops.items,
      end_within placed block.last is.last is.leaves.few,
    )

blocks_within : (placed : Placed) (b : ℕ) (blocks : List WordBlock) (items : List Item) → AreBlocks placed b blocks items → bytes_in items ≤ sum_by block_bytes blocks
blocks_within placed b [] items none = omega (arith, ap bytes_in none)
blocks_within placed b (block ∷ blocks) items (front, rest, same, is, others) =
    omega (arith, ap bytes_in same, bytes_append front rest, block_within placed b block front is, blocks_within placed (b + 1) blocks rest others, sum_by-cons block_bytes block blocks)

-- ---- addresses

one_more : (items : List Item) (k : ℕ) → bytes_in (take (suc k) items) ≡ bytes_in (take k items) + size_of_any (slice_get items k) Long
one_more [] zero = omega arith
one_more [] (suc k) = omega arith
one_more (i ∷ items) zero = omega arith
one_more (i ∷ items) (suc k) = omega (arith, one_more items k)

at_bytes : (items : List Item) (k : ℕ) → address items (λ _. Long) k ≡ code_start + bytes_in (take k items)
unfolding address
at_bytes items zero = omega arith
at_bytes items (suc k) = omega (arith, at_bytes items k, one_more items k)

pub bytes_within : (placed : Placed) (items : List Item) → IsEmitted placed items → address items (λ _. Long) (length items) ≤ code_start + most_bytes placed.words
bytes_within placed items is =
    omega (arith, at_bytes items (length items), ap bytes_in (take-length items), blocks_within placed 0 placed.words.blocks.items items is.blocks)
