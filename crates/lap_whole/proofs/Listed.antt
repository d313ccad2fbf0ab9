-- What stands in lists.
use Rattle.std.proofs.Common.{◌≡◌, ℕ, zero, suc, ◌<◌, List, [], ◌∷◌, ◌++◌, length, slice_get, Some, refl, subst, arith}
use Rattle.std.specs.Prelude.{All, Contains}
use Rattle.std.specs.List.{flat_map, AllByRecursion}
use Rattle.std.proofs.lemmas.Option.{slice_get_within, get_or_from_slice_get}

-- it stands there
pub record Listed {X : Type 0} (xs : List X) (x : X) : Type 0 where
  pub at : ℕ
  pub is : slice_get xs at ≡ Some x

pub get_at : {X : Type 0} (xs : List X) (k : ℕ) → k < length xs → (x : X) × (slice_get xs k ≡ Some x)
get_at [] k lt = absurd (omega arith)
get_at (x ∷ xs) zero lt = (x, refl)
get_at (x ∷ xs) (suc k) lt = get_at xs k (omega arith)

left_at : {X : Type 0} (xs ys : List X) (k : ℕ) (x : X) → slice_get xs k ≡ Some x → slice_get (xs ++ ys) k ≡ Some x
left_at [] ys k x h = absurd (cc)
left_at (y ∷ xs) ys zero x h = h
left_at (y ∷ xs) ys (suc k) x h = left_at xs ys k x h

pub listed_left : {X : Type 0} (xs ys : List X) (x : X) → Listed xs x → Listed (xs ++ ys) x
listed_left xs ys x l = record { at = l.at; is = left_at xs ys l.at x l.is }

pub listed_right : {X : Type 0} (xs ys : List X) (x : X) → Listed ys x → Listed (xs ++ ys) x
listed_right [] ys x l = l
listed_right (y ∷ xs) ys x l = let r = listed_right xs ys x l in record { at = suc r.at; is = r.is }

flat_at : {X Y : Type 0} (f : X → List Y) (xs : List X) (k : ℕ) (x : X) (y : Y) → slice_get xs k ≡ Some x → Listed (f x) y → Listed (flat_map f xs) y
flat_at f [] k x y h l = absurd (cc)
flat_at f (z ∷ xs) zero x y h l = let same : x ≡ z = cc in subst (λ w. Listed (f w ++ flat_map f xs) y) same (listed_left (f x) (flat_map f xs) y l)
flat_at f (z ∷ xs) (suc k) x y h l = listed_right (f z) (flat_map f xs) y (flat_at f xs k x y h l)

-- in one of the lists
pub listed_flat : {X Y : Type 0} (f : X → List Y) (xs : List X) (x : X) (y : Y) → Listed xs x → Listed (f x) y → Listed (flat_map f xs) y
listed_flat f xs x y l r = flat_at f xs l.at x y l.is r

pub each_listed : {X : Type 0} (P : X → Type 0) (xs : List X) (x : X) → All P xs → Listed xs x → P x
each_listed P xs x all l = subst P (get_or_from_slice_get xs l.at x x l.is) (all l.at x (slice_get_within xs l.at x l.is))

pub each_contained : {X : Type 0} (P : X → Type 0) (xs : List X) (x : X) → All P xs → Contains xs x → P x
each_contained P xs x all c = subst P c.2 (all c.0 x c.1)

all_at : {X : Type 0} (P : X → Type 0) (xs : List X) (k : ℕ) (x : X) → AllByRecursion P xs → slice_get xs k ≡ Some x → P x
all_at P [] k x all here = absurd (cc)
all_at P (y ∷ xs) zero x all here = let same : y ≡ x = cc in subst P same all.0
all_at P (y ∷ xs) (suc k) x all here = all_at P xs k x all.1 here

pub of_all : {X : Type 0} (P : X → Type 0) (xs : List X) (x : X) → AllByRecursion P xs → Listed xs x → P x
of_all P xs x all l = all_at P xs l.at x all l.is

pub all_of : {X : Type 0} (P : X → Type 0) (xs : List X) → ((x : X) → Listed xs x → P x) → AllByRecursion P xs
all_of P [] h = tt
all_of P (x ∷ xs) h = (h x (record { at = 0; is = refl }), all_of P xs (λ y l. h y (record { at = suc l.at; is = l.is })))
