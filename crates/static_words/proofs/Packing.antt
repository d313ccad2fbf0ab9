-- Bytes that are packed four a word.
use Rattle.std.proofs.Common.{◌≡◌, ℕ, zero, suc, ◌+◌, ◌*◌, ◌<◌, List, [], ◌∷◌, ◌++◌, length, map, drop, get_or, refl, sym, ap, ◌∙◌, subst, append_assoc, arith}
use Rattle.word_ir.specs.declared.words.StaticWord.{StaticWord}
use Rattle.word_ir.specs.declared.words.StaticWord.TheVariants as first
use Rattle.frame_words.specs.Layouts.{packed}
use Rattle.static_words.specs.Words.{packed_at}

first_packed : (cs : List ℕ) → 0 < length cs → packed cs ≡ packed_at cs 0 ∷ packed (drop 4 cs)
first_packed [] lt = absurd (omega (arith, lt))
first_packed (a ∷ []) lt = ap (λ n. n ∷ []) (omega arith)
first_packed (a ∷ b ∷ []) lt = ap (λ n. n ∷ []) (omega arith)
first_packed (a ∷ b ∷ c ∷ []) lt = ap (λ n. n ∷ []) (omega arith)
first_packed (a ∷ b ∷ c ∷ d ∷ rest) lt = refl

byte_behind : (bytes : List ℕ) (at k : ℕ) → get_or (drop at bytes) k 0 ≡ get_or bytes (at + k) 0
byte_behind bytes zero k = ap (λ n. get_or bytes n 0) (omega arith)
byte_behind [] (suc at) k = refl
byte_behind (b ∷ bytes) (suc at) k = byte_behind bytes at k ∙ ap (λ n. get_or (b ∷ bytes) n 0) (next at k)
  where
    next : (a c : ℕ) → suc (a + c) ≡ suc a + c
    next a c = omega arith

rest_behind : (bytes : List ℕ) (at k : ℕ) → drop k (drop at bytes) ≡ drop (at + k) bytes
rest_behind bytes zero k = ap (λ n. drop n bytes) (omega arith)
rest_behind [] (suc at) k = none k ∙ sym (none (suc at + k))
  where
    none : (n : ℕ) → drop {A = ℕ} n [] ≡ []
    none zero = refl
    none (suc n) = refl
rest_behind (b ∷ bytes) (suc at) k = rest_behind bytes at k ∙ ap (λ n. drop n (b ∷ bytes)) (next at k)
  where
    next : (a c : ℕ) → suc (a + c) ≡ suc a + c
    next a c = omega arith

some_behind : (bytes : List ℕ) (at : ℕ) → at < length bytes → 0 < length (drop at bytes)
some_behind bytes zero lt = lt
some_behind [] (suc at) lt = absurd (omega (arith, lt))
some_behind (b ∷ bytes) (suc at) lt = some_behind bytes at (omega (arith, lt))

packed_from : (bytes : List ℕ) (at : ℕ) → at < length bytes → packed (drop at bytes) ≡ packed_at bytes at ∷ packed (drop (at + 4) bytes)
packed_from bytes at lt =
    first_packed (drop at bytes) (some_behind bytes at lt) ∙ (ap (λ n. n ∷ packed (drop 4 (drop at bytes))) sums ∙ ap (λ cs. packed_at bytes at ∷ packed cs) (rest_behind bytes at 4))
  where
    sums : packed_at (drop at bytes) 0 ≡ packed_at bytes at
    sums =
        let a : get_or (drop at bytes) 0 0 ≡ get_or bytes at 0 = byte_behind bytes at 0 ∙ ap (λ n. get_or bytes n 0) (omega arith) in
        let b = byte_behind bytes at 1 in
        let c = byte_behind bytes at 2 in
        let d = byte_behind bytes at 3 in
        omega (arith, a, b, c, d)

pub packed_more : (old before after : List StaticWord) (bytes : List ℕ) (at next w : ℕ) → at < length bytes → w ≡ packed_at bytes at → next ≡ at + 4
    → before ++ map first.Word (packed (drop at bytes)) ≡ old ++ map first.Word (packed bytes) → after ≡ before ++ first.Word w ∷ []
    → after ++ map first.Word (packed (drop next bytes)) ≡ old ++ map first.Word (packed bytes)
packed_more old before after bytes at next w lt is go h e =
    ap (λ xs. xs ++ map first.Word (packed (drop next bytes))) e ∙ (append_assoc before (first.Word w ∷ []) (map first.Word (packed (drop next bytes)))
    ∙ (ap (λ xs. before ++ xs) (ap (λ n. first.Word w ∷ map first.Word (packed (drop n bytes))) go ∙ (ap (λ n. first.Word n ∷ map first.Word (packed (drop (at + 4) bytes))) is ∙ sym (ap (map first.Word) (packed_from bytes at lt)))) ∙ h))
