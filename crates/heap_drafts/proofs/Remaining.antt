-- What remains of a list behind the place of a loop.
use Rattle.std.proofs.Common.{◌≡◌, ℕ, zero, suc, ◌+◌, ◌<◌, ◌≤◌, List, [], ◌∷◌, length, drop, get_or, refl, sym, ap, ◌∙◌, arith}

pub drop_one : {X : Type 0} (xs : List X) (i : ℕ) (x : X) → x ≡ get_or xs i x → i < length xs → drop i xs ≡ x ∷ drop (i + 1) xs
drop_one [] i x is lt = absurd (omega (arith, lt))
drop_one (y ∷ ys) zero x is lt = ap (λ z. z ∷ ys) (sym is)
drop_one (y ∷ ys) (suc i) x is lt =
    let on : suc (i + 1) ≡ suc i + 1 = omega arith in
    drop_one ys i x is (omega (arith, lt)) ∙ ap (λ n. x ∷ drop n (y ∷ ys)) on

pub nothing_left : {X : Type 0} (xs : List X) (i : ℕ) → length xs ≤ i → drop i xs ≡ []
nothing_left [] zero le = refl
nothing_left [] (suc i) le = refl
nothing_left (x ∷ xs) zero le = absurd (omega (arith, le))
nothing_left (x ∷ xs) (suc i) le = nothing_left xs i (omega (arith, le))
