-- Two lists whose items are related one by one.
use Rattle.std.proofs.Common.{◌≡◌, ℕ, zero, suc, List, [], ◌∷◌, ◌++◌, length, Option, Some, None, slice_get, refl, ap}

-- the empty lists are related, and longer ones where their first items and the rest are
abbrev pub Zipped : {X Y : Type 0} → (X → Y → Type 0) → List X → List Y → Type 0
Zipped R [] [] = Unit {0}
Zipped R (x ∷ xs) (y ∷ ys) = R x y × Zipped R xs ys
Zipped R [] (y ∷ ys) = ⊥
Zipped R (x ∷ xs) [] = ⊥

-- both are there, and related, or none is
abbrev pub Both : {X Y : Type 0} → (X → Y → Type 0) → Option X → Option Y → Type 0
Both R None None = Unit {0}
Both R (Some x) (Some y) = R x y
Both R None (Some y) = ⊥
Both R (Some x) None = ⊥

module _ {X Y : Type 0} where
  pub zipped_more : (R S : X → Y → Type 0) → ((x : X) (y : Y) → R x y → S x y) → (xs : List X) (ys : List Y) → Zipped R xs ys → Zipped S xs ys
  zipped_more R S f [] [] h = tt
  zipped_more R S f (x ∷ xs) (y ∷ ys) h = (f x y h.0, zipped_more R S f xs ys h.1)
  zipped_more R S f [] (y ∷ ys) h = absurd h
  zipped_more R S f (x ∷ xs) [] h = absurd h

  pub zipped_append : (R : X → Y → Type 0) (xs us : List X) (ys vs : List Y) → Zipped R xs ys → Zipped R us vs → Zipped R (xs ++ us) (ys ++ vs)
  zipped_append R [] us [] vs h k = k
  zipped_append R (x ∷ xs) us (y ∷ ys) vs h k = (h.0, zipped_append R xs us ys vs h.1 k)
  zipped_append R [] us (y ∷ ys) vs h k = absurd h
  zipped_append R (x ∷ xs) us [] vs h k = absurd h

  pub zipped_length : (R : X → Y → Type 0) (xs : List X) (ys : List Y) → Zipped R xs ys → length ys ≡ length xs
  zipped_length R [] [] h = refl
  zipped_length R (x ∷ xs) (y ∷ ys) h = ap suc (zipped_length R xs ys h.1)
  zipped_length R [] (y ∷ ys) h = absurd h
  zipped_length R (x ∷ xs) [] h = absurd h

  pub zipped_get : (R : X → Y → Type 0) (xs : List X) (ys : List Y) (i : ℕ) → Zipped R xs ys → Both R (slice_get xs i) (slice_get ys i)
  zipped_get R [] [] i h = tt
  zipped_get R (x ∷ xs) (y ∷ ys) zero h = h.0
  zipped_get R (x ∷ xs) (y ∷ ys) (suc i) h = zipped_get R xs ys i h.1
  zipped_get R [] (y ∷ ys) i h = absurd h
  zipped_get R (x ∷ xs) [] i h = absurd h
