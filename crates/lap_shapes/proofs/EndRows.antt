-- The items of ends and of moves are instructions of the table, and branches to blocks that are there.
use Rattle.std.proofs.Common.{◌≡◌, ℕ, ◌/◌, ◌<◌, ◌%◌, ◌^◌, ◌==◌, Bool, true, false, List, [], ◌∷◌, ◌++◌, length, map, Option, Some, None, slice_get, refl, arith}
use Rattle.std.specs.Prelude.{if◌then◌else◌, min}
use Rattle.std.specs.List.{AllByRecursion}
use Rattle.std.specs.Option.{option_map_or}
use Rattle.std.proofs.lemmas.Bool.{lt-ltb, ltb-true}
use Rattle.t_base.specs.declared.basics.Var.{Var}
use Rattle.word_ir.specs.declared.operands.Operand.{Operand}
use Rattle.word_ir.specs.declared.operands.Operand.TheVariants as operand
use Rattle.word_ir.specs.declared.placed.Home.{Home}
use Rattle.word_ir.specs.declared.placed.Home.TheVariants as home
use Rattle.word_ir.specs.declared.placed.Placed.{Placed}
use Rattle.word_ir.specs.declared.words.Test.{Test}
use Rattle.word_ir.specs.declared.words.Test.TheVariants as test
use Rattle.word_ir.specs.declared.words.WordBlock.{WordBlock}
use Rattle.word_ir.specs.declared.words.WordEnd.{WordEnd}
use Rattle.word_ir.specs.declared.words.WordEnd.TheVariants as last
use Rattle.word_ir.specs.declared.words.Words.{Words}
use Rattle.word_ir.specs.Lines.{end_operands, end_exits}
use Rattle.word_ir.specs.Whole.{IsOperand, is_test_sized, is_end_sized, end_jumps}
use Rattle.parallel_moves.specs.declared.OneMove.{OneMove}
use Rattle.parallel_moves.specs.Moves.{scratch}
use Rattle.m68020_code.specs.declared.instr.Instr.TheVariants.{CmpL}
use Rattle.m68020_asm.specs.declared.item.Item.TheVariants.{Plain}
use Rattle.lap_items.specs.Homes.{home_of, at_home, put_into, home_at, convention}
use Rattle.lap_items.specs.Operands.{source_items, source_of, load_items}
use Rattle.lap_items.specs.Moves.{filling, fill_items, moved_items}
use Rattle.lap_items.specs.Ends.{is_taken, homes_of_params, homes_of_block, places_of, comparing_items, test_items, code_items, into_a3, end_items}
use Rattle.lap_shapes.proofs.Rows.{IsCode, AreCode, code_append, both, HasRegister, HaveRegisters, all_at_home, put_code, source_code, source_all, load_code}

-- ---- moves

number_has : (n : ℕ) → HasRegister (home_at n)
number_has n = by (n == scratch) (n % 4 == 0) (n % 4 == 1) (n % 4 == 2) where
  by : (a b c d : Bool) → HasRegister (if a then home.D 7 else if b then home.D (min (n / 4) 7) else if c then home.A (min (n / 4) 7) else if d then home.Static (n / 4) else home.Stack (n / 4))
  by true b c d = omega arith
  by false true c d = omega arith
  by false false true d = omega arith
  by false false false true = tt
  by false false false false = tt

pub moved_code : (b : ℕ) (done : List OneMove) → AreCode b (moved_items done)
moved_code b [] = tt
moved_code b (m ∷ done) = (put_code b (at_home (home_at m.from)) (home_at m.to) (all_at_home (home_at m.from) (number_has m.from)) (number_has m.to), moved_code b done)

filling_code : (words : Words) (homes : List Home) (x : Operand) (to : Home) → HaveRegisters homes → IsOperand words x → HasRegister to → AreCode (length words.blocks.items) (filling homes x to)
unfolding filling
filling_code words homes (operand.Var v) to have is has = tt
filling_code words homes (operand.Word n) to have is has = (put_code (length words.blocks.items) (source_of homes (operand.Word n)) to (source_all words homes (operand.Word n) have is) has, tt)
filling_code words homes (operand.Static p) to have is has = (put_code (length words.blocks.items) (source_of homes (operand.Static p)) to (source_all words homes (operand.Static p) have is) has, tt)
filling_code words homes (operand.Code c) to have is has =
    code_append (length words.blocks.items) (source_items (operand.Code c)) (put_into (source_of homes (operand.Code c)) to ∷ []) (source_code words (operand.Code c) is) (put_code (length words.blocks.items) (source_of homes (operand.Code c)) to refl has, tt)
filling_code words homes (operand.Slot n) to have is has =
    code_append (length words.blocks.items) (source_items (operand.Slot n)) (put_into (source_of homes (operand.Slot n)) to ∷ []) (source_code words (operand.Slot n) is) (put_code (length words.blocks.items) (source_of homes (operand.Slot n)) to refl has, tt)

fills_code : (words : Words) (homes : List Home) (args : List Operand) (places : List Home) → HaveRegisters homes → AllByRecursion (IsOperand words) args → AllByRecursion HasRegister places
    → AreCode (length words.blocks.items) (fill_items homes args places)
fills_code words homes [] places have are has = tt
fills_code words homes (x ∷ args) [] have are has = tt
fills_code words homes (x ∷ args) (to ∷ places) have are has =
    code_append (length words.blocks.items) (filling homes x to) (fill_items homes args places) (filling_code words homes x to have are.0 has.0) (fills_code words homes args places have are.1 has.1)

-- ---- places

convention_has : AllByRecursion HasRegister convention
convention_has = (omega arith, (omega arith, (omega arith, (omega arith, (omega arith, (omega arith, (omega arith, tt)))))))

vars_have : (homes : List Home) (vars : List Var) → HaveRegisters homes → AllByRecursion HasRegister (map (home_of homes) vars)
vars_have homes [] have = tt
vars_have homes (v ∷ vars) have = (have v, vars_have homes vars have)

block_has : (placed : Placed) (b : ℕ) → HaveRegisters placed.at.items → AllByRecursion HasRegister (homes_of_block placed b)
block_has placed b have = by (slice_get placed.words.blocks.items b) where
  by : (found : Option WordBlock) → AllByRecursion HasRegister (option_map_or (homes_of_params placed.at.items) found [])
  by (Some block) = vars_have placed.at.items block.params have
  by None = tt

places_have : (placed : Placed) (b : ℕ) → HaveRegisters placed.at.items → AllByRecursion HasRegister (places_of placed b)
unfolding places_of
places_have placed b have = by (is_taken placed.words b) where
  by : (taken : Bool) → AllByRecursion HasRegister (if taken then convention else homes_of_block placed b)
  by true = convention_has
  by false = block_has placed b have

-- ---- ends

compared_code : (words : Words) (homes : List Home) (x : Operand) → HaveRegisters homes → IsOperand words x → AreCode (length words.blocks.items) (source_items x ++ Plain (CmpL (source_of homes x) 7) ∷ [])
compared_code words homes x have is = code_append (length words.blocks.items) (source_items x) _ (source_code words x is) ((both _ _ (source_all words homes x have is) refl, refl), tt)

comparing_code : (words : Words) (homes : List Home) (kind : Test) (x : Operand) → HaveRegisters homes → IsOperand words x → is_test_sized kind ≡ true → AreCode (length words.blocks.items) (comparing_items homes kind x)
unfolding comparing_items
comparing_code words homes (test.TagIs tag) x have is sized = ((refl, refl), ((both _ _ (both _ _ (lt-ltb tag (2 ^ 32) (omega (arith, ltb-true tag 256 sized))) refl) refl, refl), tt))
comparing_code words homes test.Eq x have is sized = compared_code words homes x have is
comparing_code words homes test.Lt x have is sized = compared_code words homes x have is
comparing_code words homes test.Le x have is sized = compared_code words homes x have is
comparing_code words homes test.Below x have is sized = compared_code words homes x have is

coded_code : (words : Words) (homes : List Home) (x : Operand) → HaveRegisters homes → IsOperand words x → AreCode (length words.blocks.items) (code_items homes x)
unfolding code_items
coded_code words homes (operand.Code c) have is = tt
coded_code words homes (operand.Var v) have is = load_code words homes (operand.Var v) 6 have is (omega arith)
coded_code words homes (operand.Word n) have is = load_code words homes (operand.Word n) 6 have is (omega arith)
coded_code words homes (operand.Static p) have is = load_code words homes (operand.Static p) 6 have is (omega arith)
coded_code words homes (operand.Slot n) have is = load_code words homes (operand.Slot n) 6 have is (omega arith)

into_code : (words : Words) (x : Operand) → IsOperand words x → IsCode (length words.blocks.items) (into_a3 x)
unfolding into_a3
into_code words (operand.Code c) is = (omega arith, is)
into_code words (operand.Var v) is = (refl, refl)
into_code words (operand.Word n) is = (refl, refl)
into_code words (operand.Static p) is = (refl, refl)
into_code words (operand.Slot n) is = (refl, refl)

pub end_code : (placed : Placed) (end : WordEnd) (done : List OneMove) → HaveRegisters placed.at.items → AllByRecursion (IsOperand placed.words) (end_operands end) → is_end_sized end ≡ true
    → AllByRecursion (λ b. b < length placed.words.blocks.items) (end_exits end) → AllByRecursion (λ b. b < length placed.words.blocks.items) (end_jumps end)
    → AreCode (length placed.words.blocks.items) (end_items placed end done)
unfolding end_items test_items
end_code placed (last.Jump block args) done have are sized exits jumps =
    code_append (length placed.words.blocks.items) (moved_items done ++ fill_items placed.at.items args (places_of placed block)) _
    (code_append (length placed.words.blocks.items) (moved_items done) (fill_items placed.at.items args (places_of placed block)) (moved_code (length placed.words.blocks.items) done)
    (fills_code placed.words placed.at.items args (places_of placed block) have are (places_have placed block have)))
    (jumps.0, tt)
end_code placed (last.Enter code args) done have are sized exits jumps =
    code_append (length placed.words.blocks.items) ((code_items placed.at.items code ++ moved_items done) ++ fill_items placed.at.items args convention) _
    (code_append (length placed.words.blocks.items) (code_items placed.at.items code ++ moved_items done) (fill_items placed.at.items args convention)
    (code_append (length placed.words.blocks.items) (code_items placed.at.items code) (moved_items done) (coded_code placed.words placed.at.items code have are.0) (moved_code (length placed.words.blocks.items) done))
    (fills_code placed.words placed.at.items args convention have are.1 convention_has))
    (into_code placed.words code are.0, ((refl, refl), tt))
end_code placed (last.Test kind a x at_true at_false) done have are sized exits jumps =
    code_append (length placed.words.blocks.items) (load_items placed.at.items a 7 ++ comparing_items placed.at.items kind x) _
    (code_append (length placed.words.blocks.items) (load_items placed.at.items a 7) (comparing_items placed.at.items kind x) (load_code placed.words placed.at.items a 7 have are.0 (omega arith))
    (comparing_code placed.words placed.at.items kind x have are.1.0 sized))
    (exits.0, (exits.1.0, tt))
end_code placed last.Stop done have are sized exits jumps = ((refl, refl), tt)
