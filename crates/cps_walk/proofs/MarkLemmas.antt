-- Marks of numbers.
use Rattle.std.proofs.Common.{◌≡◌, ℕ, zero, suc, ◌<◌, ◌==◌, Bool, true, false, ◌||◌, List, [], ◌∷◌, ◌++◌, length, set, refl, sym, ap, ◌∙◌, subst, arith}
use Rattle.std.proofs.lemmas.Bool.{eqb-true, eq-eqb, true≢false}
use Rattle.cps_walk.specs.Marked.{is_marked}

pub marked_push : (xs : List Bool) (y : ℕ) → is_marked (xs ++ false ∷ []) y ≡ is_marked xs y
marked_push [] zero = refl
marked_push [] (suc y) = refl
marked_push (x ∷ xs) zero = refl
marked_push (x ∷ xs) (suc y) = marked_push xs y

marked_there : (xs : List Bool) (i : ℕ) → i < length xs → is_marked (set xs i true) i ≡ true
marked_there [] i lt = absurd (omega (arith, lt))
marked_there (x ∷ xs) zero lt = refl
marked_there (x ∷ xs) (suc i) lt = marked_there xs i (omega (arith, lt))

marked_apart : (xs : List Bool) (i y : ℕ) → (i ≡ y → ⊥) → is_marked (set xs i true) y ≡ is_marked xs y
marked_apart [] i y ne = refl
marked_apart (x ∷ xs) zero zero ne = absurd (ne refl)
marked_apart (x ∷ xs) zero (suc y) ne = refl
marked_apart (x ∷ xs) (suc i) zero ne = refl
marked_apart (x ∷ xs) (suc i) (suc y) ne = marked_apart xs i y (λ e. ne (ap suc e))

pub or_nothing : (b : Bool) → b ≡ (b || false)
or_nothing true = refl
or_nothing false = refl

or_all : (b : Bool) → true ≡ (b || true)
or_all true = refl
or_all false = refl

-- a mark more
pub marked_set : (xs : List Bool) (i : ℕ) → i < length xs → (y : ℕ) → is_marked (set xs i true) y ≡ (is_marked xs y || i == y)
marked_set xs i lt y = by_test (i == y) refl
  where
    by_test : (b : Bool) → (i == y) ≡ b → is_marked (set xs i true) y ≡ (is_marked xs y || b)
    by_test true e = subst (λ z. is_marked (set xs i true) z ≡ true) (eqb-true i y e) (marked_there xs i lt) ∙ or_all (is_marked xs y)
    by_test false e = marked_apart xs i y (λ q. true≢false (sym (eq-eqb i y q) ∙ e)) ∙ or_nothing (is_marked xs y)
