-- The greatest of some numbers: it is settled by how much they are above each bound together.
use Rattle.std.proofs.Common.{◌≡◌, ℕ, ◌-◌, ◌≤◌, List, [], ◌∷◌, max, fold, refl, sym, ◌∙◌, arith}
use Rattle.std.specs.List.{sum_by}
use Rattle.std.proofs.Math.Nat.{le-max_left, le-max_right, max-le}
use Rattle.std.proofs.lemmas.List.Sums.{sum_by-cons}
use Rattle.t_core.specs.Limits.{greatest}

-- the greatest of a number and the others
abbrev most : {X : Type 0} → (X → ℕ) → ℕ → List X → ℕ
most f a xs = fold (λ n x. max n (f x)) a xs

-- what is above a bound, together
abbrev pub excess : {X : Type 0} → (X → ℕ) → ℕ → List X → ℕ
excess f bound xs = sum_by (λ x. f x - bound) xs

from_first : {X : Type 0} (f : X → ℕ) (xs : List X) (a : ℕ) → a ≤ most f a xs
from_first f [] a = omega arith
from_first f (x ∷ xs) a =
    let rest : max a (f x) ≤ most f (max a (f x)) xs = from_first f xs (max a (f x)) in
    let here : a ≤ max a (f x) = le-max_left a (f x) in
    omega (arith, rest, here)

none_above : {X : Type 0} (f : X → ℕ) (bound : ℕ) (xs : List X) (a : ℕ) → most f a xs ≤ bound → excess f bound xs ≡ 0
none_above f bound [] a h = refl
none_above f bound (x ∷ xs) a h =
    let most_here : max a (f x) ≤ most f (max a (f x)) xs = from_first f xs (max a (f x)) in
    let here : f x ≤ max a (f x) = le-max_right a (f x) in
    let rest : excess f bound xs ≡ 0 = none_above f bound xs (max a (f x)) h in
    let both = sum_by-cons (λ y. f y - bound) x xs in
    omega (arith, h, most_here, here, rest, both)

bounded : {X : Type 0} (f : X → ℕ) (bound : ℕ) (xs : List X) (a : ℕ) → a ≤ bound → excess f bound xs ≡ 0 → most f a xs ≤ bound
bounded f bound [] a low h = low
bounded f bound (x ∷ xs) a low h =
    let both = sum_by-cons (λ y. f y - bound) x xs in
    let here : f x ≤ bound = omega (arith, h, both) in
    let rest : excess f bound xs ≡ 0 = omega (arith, h, both) in
    bounded f bound xs (max a (f x)) (max-le low here) rest

not_above : {X Y : Type 0} (f : X → ℕ) (g : Y → ℕ) (xs : List X) (ys : List Y) → ((bound : ℕ) → excess f bound xs ≡ excess g bound ys)
    → greatest f xs ≤ greatest g ys
not_above f g xs ys same =
    bounded f (greatest g ys) xs 0 (omega arith) (same (greatest g ys) ∙ none_above g (greatest g ys) ys 0 (omega arith))

-- numbers of which as much is above each bound have one greatest
pub greatest_same : {X Y : Type 0} (f : X → ℕ) (g : Y → ℕ) (xs : List X) (ys : List Y) → ((bound : ℕ) → excess f bound xs ≡ excess g bound ys)
    → greatest f xs ≡ greatest g ys
greatest_same f g xs ys same =
    let one : greatest f xs ≤ greatest g ys = not_above f g xs ys same in
    let other : greatest g ys ≤ greatest f xs = not_above g f ys xs (λ bound. sym (same bound)) in
    omega (arith, one, other)
