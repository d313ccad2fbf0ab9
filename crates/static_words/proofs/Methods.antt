-- Methods that are written one by one.
use Rattle.std.proofs.Common.{◌≡◌, ℕ, zero, suc, ◌+◌, ◌<◌, ◌≤◌, List, [], ◌∷◌, ◌++◌, length, drop, get_or, refl, sym, ap, ◌∙◌, append_assoc, append-nil, arith}
use Rattle.std.specs.List.{flat_map}
use Rattle.word_ir.specs.declared.words.StaticWord.{StaticWord}
use Rattle.frame_ir.specs.Calls.{methods_of}

next_method : (ops codes : List ℕ) (i : ℕ) → i < length ops → i < length codes → methods_of (drop i ops) (drop i codes) ≡ (get_or ops i 0, get_or codes i 0) ∷ methods_of (drop (suc i) ops) (drop (suc i) codes)
next_method [] codes i lt less = absurd (omega (arith, lt))
next_method (o ∷ ops) [] i lt less = absurd (omega (arith, less))
next_method (o ∷ ops) (c ∷ codes) zero lt less = refl
next_method (o ∷ ops) (c ∷ codes) (suc i) lt less = next_method ops codes i (omega (arith, lt)) (omega (arith, less))

no_method : (ops codes : List ℕ) (i : ℕ) → (i < length ops → i < length codes → ⊥) → methods_of (drop i ops) (drop i codes) ≡ []
no_method [] codes zero h = refl
no_method [] codes (suc i) h = refl
no_method (o ∷ ops) [] zero h = refl
no_method (o ∷ ops) [] (suc i) h = none (drop i ops)
  where
    none : (xs : List ℕ) → methods_of xs [] ≡ []
    none [] = refl
    none (x ∷ xs) = refl
no_method (o ∷ ops) (c ∷ codes) zero h = absurd (h (omega arith) (omega arith))
no_method (o ∷ ops) (c ∷ codes) (suc i) h = no_method ops codes i (λ a b. h (omega (arith, a)) (omega (arith, b)))

get_alike : (xs : List ℕ) (i d : ℕ) → i < length xs → get_or xs i d ≡ get_or xs i 0
get_alike [] i d lt = absurd (omega (arith, lt))
get_alike (x ∷ xs) zero d lt = refl
get_alike (x ∷ xs) (suc i) d lt = get_alike xs i d (omega (arith, lt))

pub methods_more : (f : ℕ × ℕ → List StaticWord) (old before after : List StaticWord) (ops codes : List ℕ) (i d e : ℕ) → i < length ops → i < length codes
    → before ++ flat_map f (methods_of (drop i ops) (drop i codes)) ≡ old ++ flat_map f (methods_of ops codes) → after ≡ before ++ f (get_or ops i d, get_or codes i e)
    → after ++ flat_map f (methods_of (drop (i + 1) ops) (drop (i + 1) codes)) ≡ old ++ flat_map f (methods_of ops codes)
methods_more f old before after ops codes i d e lt less h w =
    let next : i + 1 ≡ suc i = omega arith in
    ap (λ n. after ++ flat_map f (methods_of (drop n ops) (drop n codes))) next
    ∙ (ap (λ xs. xs ++ rest) (w ∙ (ap (λ a. before ++ f (a, get_or codes i e)) (get_alike ops i d lt) ∙ ap (λ b. before ++ f (get_or ops i 0, b)) (get_alike codes i e less)))
    ∙ (append_assoc before (f (get_or ops i 0, get_or codes i 0)) rest ∙ (ap (λ ms. before ++ flat_map f ms) (sym (next_method ops codes i lt less)) ∙ h)))
  where
    rest : List StaticWord
    rest = flat_map f (methods_of (drop (suc i) ops) (drop (suc i) codes))

pub methods_end : (f : ℕ × ℕ → List StaticWord) (old now : List StaticWord) (ops codes : List ℕ) (i : ℕ) → (i < length ops → i < length codes → ⊥)
    → now ++ flat_map f (methods_of (drop i ops) (drop i codes)) ≡ old ++ flat_map f (methods_of ops codes) → now ≡ old ++ flat_map f (methods_of ops codes)
methods_end f old now ops codes i h e = sym (append-nil now) ∙ (ap (λ ms. now ++ flat_map f ms) (sym (no_method ops codes i h)) ∙ e)
