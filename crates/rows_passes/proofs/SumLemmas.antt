-- The program that adds is whole, and so is what is made like it.
use Rattle.std.proofs.Common.{[], ◌∷◌, refl}
use Rattle.std.specs.Global.{Global}
use Rattle.t_prim.proofs.SharedTests.{parts_from}
use Rattle.word_ir.specs.declared.words.Words.{Words}
use Rattle.word_ir.specs.Copies.{IsCopyOf}
use Rattle.word_ir.specs.Whole.{IsWhole}
use Rattle.word_ir.specs.Writing.{var}
use Rattle.word_ir.proofs.WholeLemmas.{whole_from}
use Rattle.trace_regs.proofs.WholeCopies.{copy_whole}
use Rattle.rows_passes.specs.Sum.{sum_shared, sum_words}

pub sum_is_whole : (alloc : Global) (words : Words) → IsCopyOf (sum_words alloc) words → IsWhole words
sum_is_whole alloc words h =
    copy_whole (sum_words alloc) words h (whole_from (sum_words alloc) ([] ∷ [] ∷ (var 2 ∷ []) ∷ []) (parts_from (sum_shared alloc) refl) refl)
