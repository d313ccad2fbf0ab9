-- What is made of each element of a list.
use Rattle.std.proofs.Common.{◌≡◌, ℕ, ◌+◌, ◌<◌, List, [], ◌∷◌, ◌++◌, length, take, map, append_assoc, get_or, refl, sym, ap, ◌∙◌}
use Rattle.std.proofs.lemmas.List.{take_more}

map_append : {X Y : Type 0} (f : X → Y) (xs ys : List X) → map f (xs ++ ys) ≡ map f xs ++ map f ys
map_append f [] ys = refl
map_append f (x ∷ xs) ys = ap (λ zs. f x ∷ zs) (map_append f xs ys)

pub map_step : {X Y : Type 0} (f : X → Y) (start now next : List Y) (xs : List X) (i : ℕ) (x : X) → x ≡ get_or xs i x → i < length xs
    → now ≡ start ++ map f (take i xs) → next ≡ now ++ f x ∷ [] → next ≡ start ++ map f (take (i + 1) xs)
map_step f start now next xs i x is lt p q =
    q ∙ (ap (λ t. t ++ f x ∷ []) p ∙ (append_assoc start (map f (take i xs)) (f x ∷ [])
    ∙ ap (λ t. start ++ t) (sym (ap (map f) (take_more xs i x lt ∙ ap (λ z. take i xs ++ z ∷ []) (sym is)) ∙ map_append f (take i xs) (x ∷ [])))))
