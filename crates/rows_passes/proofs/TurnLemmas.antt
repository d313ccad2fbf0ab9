-- The program of turns is whole, and its code is short.
use Rattle.std.specs.Prelude.{◌≡◌, ℕ, ◌≤◌, ◌+◌, ◌*◌, ◌^◌, List, length, sum_by}
use Rattle.std.proofs.Common.{[], ◌∷◌, refl, ap, sym, ◌∙◌, arith}
use Rattle.std.proofs.lemmas.Bool.{leb-true}
use Rattle.std.proofs.lemmas.List.Sums.{sum_by-cons}
use Rattle.std.specs.Global.{Global}
use Rattle.t_prim.proofs.SharedTests.{parts_from}
use Rattle.word_ir.specs.declared.placed.Placed.{Placed}
use Rattle.word_ir.specs.declared.words.WordBlock.{WordBlock}
use Rattle.word_ir.specs.declared.words.Words.{Words}
use Rattle.word_ir.specs.Copies.{IsCopyOf, IsCopyOfBlock, AreCopies}
use Rattle.word_ir.specs.Whole.{IsWhole}
use Rattle.word_ir.specs.Writing.{var}
use Rattle.word_ir.proofs.WholeLemmas.{whole_from}
use Rattle.trace_regs.specs.Homes.{Serves}
use Rattle.trace_regs.proofs.WholeCopies.{copy_whole}
use Rattle.m68020_code.specs.declared.instr.Width.TheVariants.{Long}
use Rattle.m68020_asm.specs.declared.item.Item.{Item}
use Rattle.m68020_asm.specs.Items.{address, code_start}
use Rattle.lap_shapes.specs.Sizes.{op_bytes, end_bytes, block_bytes, most_bytes}
use Rattle.rows_passes.specs.Sum.{sum_shared}
use Rattle.rows_passes.specs.Turns.{turns_words}

pub turns_are_whole : (alloc : Global) (words : Words) → IsCopyOf (turns_words alloc) words → IsWhole words
turns_are_whole alloc words h =
    let seen = var 0 ∷ var 1 ∷ var 2 ∷ var 3 ∷ [] in
    copy_whole (turns_words alloc) words h
    (whole_from (turns_words alloc) ([] ∷ seen ∷ seen ∷ seen ∷ [] ∷ (var 6 ∷ var 7 ∷ var 8 ∷ []) ∷ []) (parts_from (sum_shared alloc) refl) refl)

block_same : (x y : WordBlock) → IsCopyOfBlock x y → block_bytes y ≡ block_bytes x
block_same x y h =
    ap (λ ops. sum_by op_bytes ops + end_bytes y.last + 30 * length y.params) h.ops
    ∙ (ap (λ l. sum_by op_bytes x.ops.items + end_bytes l + 30 * length y.params) h.last ∙ ap (λ ps. sum_by op_bytes x.ops.items + end_bytes x.last + 30 * length ps) h.params)

blocks_same : (xs ys : List WordBlock) → AreCopies xs ys → sum_by block_bytes ys ≡ sum_by block_bytes xs
blocks_same [] [] h = refl
blocks_same [] (y ∷ ys) h = elim h [ ]
blocks_same (x ∷ xs) [] h = elim h [ ]
blocks_same (x ∷ xs) (y ∷ ys) h =
    sum_by-cons block_bytes y ys ∙ (ap (λ n. n + sum_by block_bytes ys) (block_same x y h.0) ∙ (ap (λ n. block_bytes x + n) (blocks_same xs ys h.1) ∙ sym (sum_by-cons block_bytes x xs)))

turns_bytes : (alloc : Global) → most_bytes (turns_words alloc) ≤ 2000
turns_bytes alloc = leb-true (most_bytes (turns_words alloc)) 2000 refl

pub turns_are_short : (alloc : Global) (words : Words) (placed : Placed) (items : List Item) → IsCopyOf (turns_words alloc) words → Serves words placed
    → address items (λ _. Long) (length items) ≤ code_start + most_bytes placed.words → address items (λ _. Long) (length items) ≤ code_start + 2 ^ 28
turns_are_short alloc words placed items h serves le =
    omega (arith, le, blocks_same words.blocks.items placed.words.blocks.items serves.of.blocks, blocks_same (turns_words alloc).blocks.items words.blocks.items h.blocks, turns_bytes alloc)
