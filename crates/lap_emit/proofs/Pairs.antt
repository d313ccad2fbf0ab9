-- Two lists walked together.
use Rattle.std.proofs.Common.{◌≡◌, ◌<◌, ◌+◌, min, List, [], ◌∷◌, ◌++◌, ℕ, zero, suc, refl, ap, ◌∙◌, sym, get_or, length, take, append_assoc, append-nil, arith}
use Rattle.lap_items.specs.Moves.{each_pair}

-- One pair more, and all pairs.
pub pairs_more : {X Y Z : Type 0} (f : X → Y → List Z) (xs : List X) (ys : List Y) (n : ℕ) (d : X) (e : Y) → n < length xs → n < length ys
    → each_pair f (take (n + 1) xs) (take (n + 1) ys) ≡ each_pair f (take n xs) (take n ys) ++ f (get_or xs n d) (get_or ys n e)
pairs_more f [] ys n d e p q = absurd (omega arith)
pairs_more f (x ∷ xs) [] n d e p q = absurd (omega arith)
pairs_more f (x ∷ xs) (y ∷ ys) zero d e p q = append-nil (f x y)
pairs_more f (x ∷ xs) (y ∷ ys) (suc n) d e p q =
    let more : each_pair f (take (n + 1) xs) (take (n + 1) ys) ≡ each_pair f (take n xs) (take n ys) ++ f (get_or xs n d) (get_or ys n e) = pairs_more f xs ys n d e (omega arith) (omega arith) in
    let one : suc n + 1 ≡ suc (n + 1) = omega arith in
    rw one (ap (λ t. f x y ++ t) more ∙ sym (append_assoc (f x y) (each_pair f (take n xs) (take n ys)) (f (get_or xs n d) (get_or ys n e))))

pub pairs_all : {X Y Z : Type 0} (f : X → Y → List Z) (xs : List X) (ys : List Y) → each_pair f (take (min (length xs) (length ys)) xs) (take (min (length xs) (length ys)) ys) ≡ each_pair f xs ys
pairs_all f [] ys = let none : min 0 (length ys) ≡ 0 = omega arith in rw none refl
pairs_all f (x ∷ xs) [] = let none : min (suc (length xs)) 0 ≡ 0 = omega arith in rw none refl
pairs_all f (x ∷ xs) (y ∷ ys) =
    let one : min (suc (length xs)) (suc (length ys)) ≡ suc (min (length xs) (length ys)) = omega arith in
    rw one (ap (λ t. f x y ++ t) (pairs_all f xs ys))

-- a step of a loop over the pairs, and its end
pub pairs_step : {X Y Z : Type 0} (f : X → Y → List Z) (xs : List X) (ys : List Y) (n : ℕ) (d : X) (e : Y) (start now next : List Z) → n < min (length xs) (length ys)
    → now ≡ start ++ each_pair f (take n xs) (take n ys) → next ≡ now ++ f (get_or xs n d) (get_or ys n e) → next ≡ start ++ each_pair f (take (n + 1) xs) (take (n + 1) ys)
pairs_step f xs ys n d e start now next lt p q =
    q ∙ ap (λ t. t ++ f (get_or xs n d) (get_or ys n e)) p ∙ append_assoc start (each_pair f (take n xs) (take n ys)) (f (get_or xs n d) (get_or ys n e))
    ∙ ap (λ t. start ++ t) (sym (pairs_more f xs ys n d e (omega arith) (omega arith)))

pub pairs_end : {X Y Z : Type 0} (f : X → Y → List Z) (xs : List X) (ys : List Y) (n : ℕ) (start now : List Z) → n ≡ min (length xs) (length ys)
    → now ≡ start ++ each_pair f (take n xs) (take n ys) → now ≡ start ++ each_pair f xs ys
pairs_end f xs ys n start now is p = p ∙ ap (λ t. start ++ each_pair f (take t xs) (take t ys)) is ∙ ap (λ t. start ++ t) (pairs_all f xs ys)
