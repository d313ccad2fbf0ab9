-- Items of some sizes that stand directly behind each other in a list.
use Rattle.std.specs.Prelude.{◌≡◌, ℕ, ◌+◌, Bool, if◌then◌else◌, List, [], ◌∷◌, Option, Some, None, option_map}

-- where the first item that is the same begins
abbrev pub place_of : {X : Type 0} → (X → X → Bool) → (X → ℕ) → List X → X → Option ℕ
place_of same size [] x = None
place_of same size (y ∷ ys) x = if same y x then Some 0 else option_map (λ n. size y + n) (place_of same size ys x)

-- no item stands there twice
abbrev pub AreDistinct : {X : Type 0} → (X → X → Bool) → (X → ℕ) → List X → Type 0
AreDistinct same size [] = Unit {0}
AreDistinct same size (y ∷ ys) = (place_of same size ys y ≡ None) × AreDistinct same size ys

-- the sizes together
abbrev pub total_of : {X : Type 0} → (X → ℕ) → List X → ℕ
total_of size [] = 0
total_of size (y ∷ ys) = size y + total_of size ys
