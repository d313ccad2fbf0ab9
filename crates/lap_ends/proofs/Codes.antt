-- The addresses of blocks whose code is taken.
use Rattle.std.proofs.Common.{◌≡◌, ℕ, zero, suc, ◌<◌, ◌==◌, nat_lt, true, List, [], ◌∷◌, length, Some, slice_get, refl, arith}
use Rattle.std.specs.List.{list_any}
use Rattle.std.proofs.lemmas.Bool.{and_parts, ltb-true}
use Rattle.word_ir.specs.declared.words.WordBlock.{WordBlock}
use Rattle.word_ir.specs.declared.words.Words.{Words}
use Rattle.word_ir.specs.Whole.{taken_blocks}
use Rattle.lap_items.specs.Ends.{is_taken}
use Rattle.lap_blocks.proofs.Apart.{blocks_apart}
use Rattle.lap_ends.specs.Laws.{CodesApart}

element : (xs : List WordBlock) (i : ℕ) → i < length xs → (x : WordBlock) × (slice_get xs i ≡ Some x)
element [] i lt = absurd (omega arith)
element (x ∷ xs) zero lt = (x, refl)
element (x ∷ xs) (suc i) lt = element xs i (omega arith)

-- a taken block is there
taken_there : (words : Words) (b : ℕ) → is_taken words b ≡ true → (x : WordBlock) × (slice_get words.blocks.items b ≡ Some x)
unfolding is_taken
taken_there words b h = element words.blocks.items b (ltb-true b (length words.blocks.items) (and_parts (nat_lt b (length words.blocks.items)) (list_any (λ c. c == b) (taken_blocks words)) h).0)

pub codes_apart : CodesApart
codes_apart a placed sizes emitted =
    let l = blocks_apart a placed emitted in
    record {
      apart = λ b c p q same. let x = taken_there placed.words b p in let y = taken_there placed.words c q in l.apart b c x.0 y.0 x.1 y.1 same;
      somewhere = λ b p. let x = taken_there placed.words b p in l.somewhere b x.0 x.1;
    }
