-- Copies weigh alike.
use Rattle.std.proofs.Common.{◌≡◌, ℕ, zero, suc, ◌+◌, ◌*◌, ◌==◌, Bool, if◌then◌else◌, List, [], ◌∷◌, ◌++◌, length, take, drop, sum_by, slice_get, Option, Some, None, All, option_map, refl, sym, ap, ◌∙◌, arith, append-nil}
use Rattle.std.specs.List.{flat_map, list_any}
use Rattle.std.specs.Option.{option_map_or}
use Rattle.std.proofs.lemmas.List.{take-append-drop}
use Rattle.word_ir.specs.declared.words.StaticWord.{StaticWord}
use Rattle.word_ir.specs.declared.words.StaticWord.TheVariants as first
use Rattle.word_ir.specs.declared.words.WordOp.{WordOp}
use Rattle.word_ir.specs.declared.words.WordEnd.{WordEnd}
use Rattle.word_ir.specs.declared.words.WordBlock.{WordBlock}
use Rattle.word_ir.specs.declared.words.Words.{Words}
use Rattle.word_ir.specs.Lines.{Line, Op, Last, line_in, line_at, lines_from, lines_of, codes_of}
use Rattle.word_ir.specs.Copies.{IsCopyOfBlock, AreCopies}
use Rattle.word_ir.specs.Whole.{each_line, static_code, taken_blocks}
use Rattle.word_ir.specs.Counts.{Weights, line_weight, block_weight, is_taken, blocks_weight, bulk_by}
use Rattle.word_ir.specs.CopyLaws.{CopiesWeighAlike, HomesWeighNothing}

-- ---- blocks and lines

-- what holds of the blocks at one place of two lists of copies
pub by_copies : (P : Option WordBlock → Option WordBlock → Type 0) (xs ys : List WordBlock) (b : ℕ) → AreCopies xs ys → P None None
    → ((x y : WordBlock) → IsCopyOfBlock x y → P (Some x) (Some y)) → P (slice_get xs b) (slice_get ys b)
by_copies P [] [] b h n s = n
by_copies P [] (y ∷ ys) b h n s = absurd h
by_copies P (x ∷ xs) [] b h n s = absurd h
by_copies P (x ∷ xs) (y ∷ ys) zero h n s = s x y h.0
by_copies P (x ∷ xs) (y ∷ ys) (suc b) h n s = by_copies P xs ys b h.1 n s

line_of_copy : (x y : WordBlock) (k : ℕ) → IsCopyOfBlock x y → line_in y k ≡ line_in x k
line_of_copy x y k h =
    ap (λ (ops : List WordOp). option_map_or Op (slice_get ops k) (Last y.last)) h.ops ∙ ap (λ (e : WordEnd). option_map_or Op (slice_get x.ops.items k) (Last e)) h.last

-- the same line stands at each place
pub line_same : (old new : Words) (b k : ℕ) → AreCopies old.blocks.items new.blocks.items → line_at new b k ≡ line_at old b k
line_same old new b k h =
    by_copies (λ o p. option_map (λ (x : WordBlock). line_in x k) p ≡ option_map (λ (x : WordBlock). line_in x k) o) old.blocks.items new.blocks.items b h refl
    (λ x y c. ap (λ l. Some l) (line_of_copy x y k c))

pub lines_same : (x y : WordBlock) → IsCopyOfBlock x y → lines_of y ≡ lines_of x
lines_same x y h = ap (λ (ops : List WordOp). lines_from ops y.last) h.ops ∙ ap (λ (e : WordEnd). lines_from x.ops.items e) h.last

-- ---- taken blocks

codes_same : (xs ys : List WordBlock) → AreCopies xs ys → flat_map (λ block. flat_map codes_of (lines_of block)) ys ≡ flat_map (λ block. flat_map codes_of (lines_of block)) xs
codes_same [] [] h = refl
codes_same [] (y ∷ ys) h = absurd h
codes_same (x ∷ xs) [] h = absurd h
codes_same (x ∷ xs) (y ∷ ys) h =
    ap (λ (lines : List Line). flat_map codes_of lines ++ flat_map (λ block. flat_map codes_of (lines_of block)) ys) (lines_same x y h.0)
    ∙ ap (λ rest. flat_map codes_of (lines_of x) ++ rest) (codes_same xs ys h.1)

taken_same : (old new : Words) → flat_map static_code new.statics.items ≡ flat_map static_code old.statics.items → AreCopies old.blocks.items new.blocks.items → taken_blocks new ≡ taken_blocks old
taken_same old new statics blocks =
    ap (λ codes. codes ++ each_line codes_of new) statics ∙ ap (λ codes. flat_map static_code old.statics.items ++ codes) (codes_same old.blocks.items new.blocks.items blocks)

-- ---- weights

block_same : (w : Weights) (x y : WordBlock) → IsCopyOfBlock x y → block_weight w y ≡ block_weight w x
block_same w x y h =
    ap (λ (lines : List Line). sum_by (line_weight w) lines + w.param * length y.params) (lines_same x y h)
    ∙ ap (λ n. sum_by (line_weight w) (lines_of x) + w.param * n) (ap length h.params)

params_same : (w : Weights) (taken : Bool) (x y : WordBlock) → IsCopyOfBlock x y → (if taken then w.taken_param * length y.params else 0) ≡ (if taken then w.taken_param * length x.params else 0)
params_same w taken x y h = ap (λ n. if taken then w.taken_param * n else 0) (ap length h.params)

blocks_same : (w : Weights) (old new : Words) → taken_blocks new ≡ taken_blocks old → (k : ℕ) (xs ys : List WordBlock) → AreCopies xs ys → blocks_weight w new k ys ≡ blocks_weight w old k xs
blocks_same w old new taken k [] [] h = refl
blocks_same w old new taken k [] (y ∷ ys) h = absurd h
blocks_same w old new taken k (x ∷ xs) [] h = absurd h
blocks_same w old new taken k (x ∷ xs) (y ∷ ys) h =
    let is : is_taken new k ≡ is_taken old k = ap (λ bs. list_any (λ b. b == k) bs) taken in
    let one : block_weight w y ≡ block_weight w x = block_same w x y h.0 in
    let few : (if is_taken new k then w.taken_param * length y.params else 0) ≡ (if is_taken old k then w.taken_param * length x.params else 0) =
    ap (λ t. if t then w.taken_param * length y.params else 0) is ∙ params_same w (is_taken old k) x y h.0 in
    let rest : blocks_weight w new (suc k) ys ≡ blocks_weight w old (suc k) xs = blocks_same w old new taken (suc k) xs ys h.1 in
    ap (λ n. n + (if is_taken new k then w.taken_param * length y.params else 0) + blocks_weight w new (suc k) ys) one
    ∙ ap (λ n. block_weight w x + n + blocks_weight w new (suc k) ys) few
    ∙ ap (λ n. block_weight w x + (if is_taken old k then w.taken_param * length x.params else 0) + n) rest

weighs_same : (old new : Words) (w : Weights) → flat_map static_code new.statics.items ≡ flat_map static_code old.statics.items → AreCopies old.blocks.items new.blocks.items → bulk_by w new ≡ bulk_by w old
weighs_same old new w statics blocks = blocks_same w old new (taken_same old new statics blocks) 0 old.blocks.items new.blocks.items blocks

pub copies_weigh_alike : CopiesWeighAlike
copies_weigh_alike old new w c = weighs_same old new w (ap (λ s. flat_map static_code s) c.statics) c.blocks

-- ---- more static words

-- no number is a code
no_codes : (xs : List StaticWord) → All (λ x. x ≡ first.Word 0) xs → flat_map static_code xs ≡ []
no_codes [] h = refl
no_codes (x ∷ xs) h =
    let here : x ≡ first.Word 0 = h 0 x (omega arith) in
    ap (λ y. static_code y ++ flat_map static_code xs) here ∙ no_codes xs (λ i d lt. h (suc i) d (omega (arith, lt)))

codes_append : (xs ys : List StaticWord) → flat_map static_code (xs ++ ys) ≡ flat_map static_code xs ++ flat_map static_code ys
codes_append [] ys = refl
codes_append (x ∷ xs) ys = ap (λ rest. static_code x ++ rest) (codes_append xs ys) ∙ append_again (static_code x) (flat_map static_code xs) (flat_map static_code ys)
  where
    append_again : (a b c : List ℕ) → a ++ (b ++ c) ≡ (a ++ b) ++ c
    append_again [] b c = refl
    append_again (n ∷ a) b c = ap (λ l. n ∷ l) (append_again a b c)

behind_free : (n : ℕ) (own more : List StaticWord) → take n more ≡ own → All (λ x. x ≡ first.Word 0) (drop n more) → flat_map static_code more ≡ flat_map static_code own
behind_free n own more e free =
    ap (λ s. flat_map static_code s) (sym (take-append-drop n more)) ∙ codes_append (take n more) (drop n more)
    ∙ ap (λ codes. flat_map static_code (take n more) ++ codes) (no_codes (drop n more) free) ∙ append-nil (flat_map static_code (take n more)) ∙ ap (λ s. flat_map static_code s) e

pub homes_weigh_nothing : HomesWeighNothing
homes_weigh_nothing words placed w is = weighs_same words placed.words w (behind_free (length words.statics.items) words.statics.items placed.words.statics.items is.statics is.apart.free) is.blocks
