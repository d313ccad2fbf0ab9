-- Marks that are taken away.
use Rattle.std.proofs.Common.{◌≡◌, ℕ, zero, suc, ◌+◌, ◌<◌, ◌≤◌, ◌==◌, Bool, true, false, not, ◌&&◌, ◌||◌, List, [], ◌∷◌, length, take, get_or, set, refl, sym, ap, ◌∙◌, subst, arith}
use Rattle.std.proofs.lemmas.Bool.{eqb-true, eq-eqb, true≢false}
use Rattle.std.proofs.lemmas.List.{take_more}
use Rattle.std.proofs.lemmas.List.Folds.{list_any-append}
use Rattle.cps_ir.specs.Reaches.{is_in}
use Rattle.cps_walk.specs.Marked.{is_marked}
use Rattle.cps_live.specs.Gathered.{AreMarked}

and_all : (b : Bool) → b ≡ (b && true)
and_all true = refl
and_all false = refl

pub and_none : (b : Bool) → (b && false) ≡ false
and_none true = refl
and_none false = refl

cleared_there : (xs : List Bool) (i : ℕ) → is_marked (set xs i false) i ≡ false
cleared_there [] i = refl
cleared_there (x ∷ xs) zero = refl
cleared_there (x ∷ xs) (suc i) = cleared_there xs i

cleared_apart : (xs : List Bool) (i y : ℕ) → (i ≡ y → ⊥) → is_marked (set xs i false) y ≡ is_marked xs y
cleared_apart [] i y ne = refl
cleared_apart (x ∷ xs) zero zero ne = absurd (ne refl)
cleared_apart (x ∷ xs) zero (suc y) ne = refl
cleared_apart (x ∷ xs) (suc i) zero ne = refl
cleared_apart (x ∷ xs) (suc i) (suc y) ne = cleared_apart xs i y (λ e. ne (ap suc e))

pub marked_cleared : (xs : List Bool) (i : ℕ) → (y : ℕ) → is_marked (set xs i false) y ≡ (is_marked xs y && not (i == y))
marked_cleared xs i y = by_test (i == y) refl
  where
    by_test : (b : Bool) → (i == y) ≡ b → is_marked (set xs i false) y ≡ (is_marked xs y && not b)
    by_test true e = subst (λ z. is_marked (set xs i false) z ≡ false) (eqb-true i y e) (cleared_there xs i) ∙ sym (and_none (is_marked xs y))
    by_test false e = cleared_apart xs i y (λ q. true≢false (sym (eq-eqb i y q) ∙ e)) ∙ and_all (is_marked xs y)

past : (xs : List Bool) (i : ℕ) → length xs ≤ i → is_marked xs i ≡ false
past [] i le = refl
past (x ∷ xs) zero le = absurd (omega (arith, le))
past (x ∷ xs) (suc i) le = past xs i (omega (arith, le))

pub marked_past : (xs : List Bool) (i : ℕ) → length xs ≤ i → (y : ℕ) → is_marked xs y ≡ (is_marked xs y && not (i == y))
marked_past xs i le y = by_test (i == y) refl
  where
    by_test : (b : Bool) → (i == y) ≡ b → is_marked xs y ≡ (is_marked xs y && not b)
    by_test true e = ap (is_marked xs) (sym (eqb-true i y e)) ∙ past xs i le ∙ sym (and_none (is_marked xs y))
    by_test false e = and_all (is_marked xs y)

not_either : (a b c : Bool) → ((a && not b) && not c) ≡ (a && not (b || (c || false)))
not_either true true c = refl
not_either true false true = refl
not_either true false false = refl
not_either false b c = refl

-- one mark less
pub fewer_marked : (first old new : List Bool) (xs : List ℕ) (i d : ℕ) → i < length xs → ((m : ℕ) → is_marked old m ≡ (is_marked first m && not (is_in (take i xs) m)))
    → ((m : ℕ) → is_marked new m ≡ (is_marked old m && not (get_or xs i d == m))) → (m : ℕ) → is_marked new m ≡ (is_marked first m && not (is_in (take (i + 1) xs) m))
fewer_marked first old new xs i d lt h g m =
    g m ∙ ap (λ b. b && not (get_or xs i d == m)) (h m) ∙ not_either (is_marked first m) (is_in (take i xs) m) (get_or xs i d == m)
    ∙ ap (λ b. is_marked first m && not b) (sym (list_any-append (λ y. y == m) (take i xs) (get_or xs i d ∷ [])) ∙ ap (λ ps. is_in ps m) (sym (take_more xs i d lt)))

itself_not : (b : Bool) → (b && not b) ≡ false
itself_not true = refl
itself_not false = refl

-- nothing is marked when all marks are taken away
pub none_marked : (old new : List Bool) (xs : List ℕ) → AreMarked old xs → ((m : ℕ) → is_marked new m ≡ (is_marked old m && not (is_in xs m))) → (m : ℕ) → is_marked new m ≡ false
none_marked old new xs h g m = g m ∙ ap (λ b. b && not (is_in xs m)) (h.marked m) ∙ itself_not (is_in xs m)
