-- Lists whose items are related one by one.
use Rattle.std.proofs.Common.{◌≡◌, ℕ, ◌+◌, ◌<◌, add-one, arith, drop, get_or, length, List, [], ◌∷◌, ◌++◌, map, slice_get, Option, Some, None, refl, ap, suc}
use Rattle.std.proofs.lemmas.List.{map-append}
use Rattle.std.specs.List.{AllZip}

pub zip_push : {A B : Type 0} (R : A → B → Type 0) (xs : List A) (ys : List B) (x : A) (y : B) → AllZip R xs ys → R x y → AllZip R (xs ++ x ∷ []) (ys ++ y ∷ [])
zip_push R [] [] x y h r = (r, tt)
zip_push R [] (b ∷ bs) x y h r = absurd h
zip_push R (a ∷ as_) [] x y h r = absurd h
zip_push R (a ∷ as_) (b ∷ bs) x y h r = (h.0, zip_push R as_ bs x y h.1 r)

pub zip_append : {A B : Type 0} (R : A → B → Type 0) (xs : List A) (ys : List B) (us : List A) (vs : List B) → AllZip R xs ys → AllZip R us vs → AllZip R (xs ++ us) (ys ++ vs)
zip_append R [] [] us vs h r = r
zip_append R [] (b ∷ bs) us vs h r = absurd h
zip_append R (a ∷ as_) [] us vs h r = absurd h
zip_append R (a ∷ as_) (b ∷ bs) us vs h r = (h.0, zip_append R as_ bs us vs h.1 r)

-- what follows from a relation, item by item
pub zip_onto : {A B C D : Type 0} (R : A → B → Type 0) (S : C → D → Type 0) (f : A → C) (g : B → D) → ((x : A) (y : B) → R x y → S (f x) (g y))
    → (xs : List A) (ys : List B) → AllZip R xs ys → AllZip S (map f xs) (map g ys)
zip_onto R S f g k [] [] h = tt
zip_onto R S f g k [] (y ∷ ys) h = absurd h
zip_onto R S f g k (x ∷ xs) [] h = absurd h
zip_onto R S f g k (x ∷ xs) (y ∷ ys) h = (k x y h.0, zip_onto R S f g k xs ys h.1)

pub zip_weaker : {A B : Type 0} (R S : A → B → Type 0) → ((x : A) (y : B) → R x y → S x y) → (xs : List A) (ys : List B) → AllZip R xs ys → AllZip S xs ys
zip_weaker R S k [] [] h = tt
zip_weaker R S k [] (y ∷ ys) h = absurd h
zip_weaker R S k (x ∷ xs) [] h = absurd h
zip_weaker R S k (x ∷ xs) (y ∷ ys) h = (k x y h.0, zip_weaker R S k xs ys h.1)

-- the last of related items, and those before it
pub record ZipLast {A B : Type 0} (R : A → B → Type 0) (xs : List A) (x : A) (ys : List B) : Type 0 where
  pub before : List B
  pub last : B
  pub parts : ys ≡ before ++ last ∷ []
  pub zip_before : AllZip R xs before
  pub zip_last : R x last

pub zip_last : {A B : Type 0} (R : A → B → Type 0) (xs : List A) (x : A) (ys : List B) → AllZip R (xs ++ x ∷ []) ys → ZipLast R xs x ys
zip_last R [] x [] h = absurd h
zip_last R [] x (y ∷ []) h = record { before = []; last = y; parts = refl; zip_before = tt; zip_last = h.0 }
zip_last R [] x (y ∷ z ∷ zs) h = absurd h.1
zip_last R (a ∷ xs) x [] h = absurd h
zip_last R (a ∷ xs) x (y ∷ ys) h =
    let rest : ZipLast R xs x ys = zip_last R xs x ys h.1 in
    record { before = y ∷ rest.before; last = rest.last; parts = ap (λ zs. y ∷ zs) rest.parts; zip_before = (h.0, rest.zip_before); zip_last = rest.zip_last }

-- the items at one place
pub data AtPlace {A B : Type 0} (R : A → B → Type 0) : Option A → Option B → Type 0 where
  neither : AtPlace R None None
  both : (x : A) (y : B) → R x y → AtPlace R (Some x) (Some y)

pub zip_at : {A B : Type 0} (R : A → B → Type 0) (xs : List A) (ys : List B) (i : ℕ) → AllZip R xs ys → AtPlace R (slice_get xs i) (slice_get ys i)
zip_at R [] [] i h = neither
zip_at R [] (y ∷ ys) i h = absurd h
zip_at R (x ∷ xs) [] i h = absurd h
zip_at R (x ∷ xs) (y ∷ ys) Prim.Native.Nat.zero h = both x y h.0
zip_at R (x ∷ xs) (y ∷ ys) (suc i) h = zip_at R xs ys i h.1

-- one more item of a list that is made item by item
pub collected : {A B C D : Type 0} (R : A → B → Type 0) (S : C → D → Type 0) (g : B → D) (ks : List A) (k : A) (vs : List C) (v : C)
    → ((ds : List B) → AllZip R ks ds → AllZip S vs (map g ds)) → ((d : B) → R k d → S v (g d))
    → (ds : List B) → AllZip R (ks ++ k ∷ []) ds → AllZip S (vs ++ v ∷ []) (map g ds)
collected R S g ks k vs v so_far one ds h =
    let l : ZipLast R ks k ds = zip_last R ks k ds h in
    rw (l.parts, map-append g l.before (l.last ∷ []))
    (zip_push S vs (map g l.before) v (g l.last) (so_far l.before l.zip_before) (one l.last l.zip_last))

-- of no items
pub none_collected : {A B C D : Type 0} (R : A → B → Type 0) (S : C → D → Type 0) (g : B → D) (ds : List B) → AllZip R [] ds → AllZip S [] (map g ds)
none_collected R S g [] h = tt
none_collected R S g (d ∷ ds) h = absurd h

-- ---- from a place on

from_place : {A B : Type 0} (R : A → B → Type 0) (us : List A) (vs : List B) (n : ℕ) (e : A) → n < length us → AllZip R us vs
    → (y : B) × (drop n vs ≡ y ∷ drop (suc n) vs) × R (get_or us n e) y
from_place R [] vs n e l z = absurd (omega arith)
from_place R (u ∷ us) [] n e l z = absurd z
from_place R (u ∷ us) (v ∷ vs) Prim.Native.Nat.zero e l z = (v, refl, z.0)
from_place R (u ∷ us) (v ∷ vs) (suc n) e l z = let less : n < length us = omega arith in from_place R us vs n e less z.1

pub zip_drop : {A B : Type 0} (R : A → B → Type 0) (xs : List A) (ys : List B) (i j : ℕ) (e : A) → i < length xs → j ≡ i + 1 → AllZip R xs ys
    → (y : B) × (drop i ys ≡ y ∷ drop j ys) × R (get_or xs i e) y
zip_drop R xs ys i j e below p h = rw (p, add-one i) (from_place R xs ys i e below h)

pub zip_end : {A B : Type 0} (R : A → B → Type 0) (xs : List A) (ys : List B) → AllZip R xs ys → drop (length xs) ys ≡ []
zip_end R [] [] h = refl
zip_end R [] (y ∷ ys) h = absurd h
zip_end R (x ∷ xs) [] h = absurd h
zip_end R (x ∷ xs) (y ∷ ys) h = zip_end R xs ys h.1
