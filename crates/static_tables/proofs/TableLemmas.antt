-- Words in tables, and the words of bytes.
use Rattle.std.proofs.Common.{◌≡◌, ℕ, zero, suc, ◌+◌, ◌<◌, ◌≤◌, ◌/◌, ◌%◌, ◌==◌, Bool, true, false, if◌then◌else◌, List, [], ◌∷◌, ◌++◌, length, set, refl, sym, ap, ◌∙◌, subst, arith}
use Rattle.std.proofs.lemmas.Bool.{eqb-true, eq-eqb, true≢false}
use Rattle.frame_ir.specs.Calls.{methods_of}
use Rattle.frame_words.specs.Layouts.{packed}
use Rattle.operand_drafts.specs.Places.{word_at}

pub word_push : (xs : List ℕ) (m : ℕ) → word_at (xs ++ 0 ∷ []) m ≡ word_at xs m
word_push [] zero = refl
word_push [] (suc m) = refl
word_push (x ∷ xs) zero = refl
word_push (x ∷ xs) (suc m) = word_push xs m

word_there : (xs : List ℕ) (i w : ℕ) → i < length xs → word_at (set xs i w) i ≡ w
word_there [] i w lt = absurd (omega (arith, lt))
word_there (x ∷ xs) zero w lt = refl
word_there (x ∷ xs) (suc i) w lt = word_there xs i w (omega (arith, lt))

word_apart : (xs : List ℕ) (i w m : ℕ) → (i ≡ m → ⊥) → word_at (set xs i w) m ≡ word_at xs m
word_apart [] i w m ne = refl
word_apart (x ∷ xs) zero w zero ne = absurd (ne refl)
word_apart (x ∷ xs) zero w (suc m) ne = refl
word_apart (x ∷ xs) (suc i) w zero ne = refl
word_apart (x ∷ xs) (suc i) w (suc m) ne = word_apart xs i w m (λ e. ne (ap suc e))

-- a word more
pub word_set : (xs : List ℕ) (i w : ℕ) → i < length xs → (m : ℕ) → word_at (set xs i w) m ≡ (if i == m then w else word_at xs m)
word_set xs i w lt m = by_test (i == m) refl
  where
    by_test : (b : Bool) → (i == m) ≡ b → word_at (set xs i w) m ≡ (if b then w else word_at xs m)
    by_test true e = subst (λ z. word_at (set xs i w) z ≡ w) (eqb-true i m e) (word_there xs i w lt)
    by_test false e = word_apart xs i w m (λ q. true≢false (sym (eq-eqb i m q) ∙ e))

pub packed_length : (bytes : List ℕ) → length (packed bytes) ≡ (length bytes + 3) / 4
packed_length [] = refl
packed_length (a ∷ []) = refl
packed_length (a ∷ b ∷ []) = refl
packed_length (a ∷ b ∷ c ∷ []) = refl
packed_length (a ∷ b ∷ c ∷ d ∷ rest) = let h = packed_length rest in omega (arith, h)

-- as many methods as the shorter list has items
pub methods_short : (ops codes : List ℕ) → length ops ≤ length codes → length ops ≡ length (methods_of ops codes)
methods_short [] codes lt = refl
methods_short (o ∷ ops) [] lt = absurd (omega (arith, lt))
methods_short (o ∷ ops) (code ∷ codes) lt = ap suc (methods_short ops codes (omega (arith, lt)))

pub methods_long : (ops codes : List ℕ) → length codes ≤ length ops → length codes ≡ length (methods_of ops codes)
methods_long [] [] le = refl
methods_long [] (code ∷ codes) le = absurd (omega (arith, le))
methods_long (o ∷ ops) [] le = refl
methods_long (o ∷ ops) (code ∷ codes) le = ap suc (methods_long ops codes (omega (arith, le)))
