-- Members of lists, and lists whose items are related one by one.
use Rattle.std.proofs.Common.{◌≡◌, ℕ, zero, suc, ◌+◌, ◌<◌, ◌==◌, Bool, true, false, ◌||◌, List, [], ◌∷◌, ◌++◌, length, replicate, slice_get, slice_set, Some, None, refl, sym, ap, subst, ◌∙◌, arith, ◌⊎◌, inl, inr, ⊎_elim}
use Rattle.std.specs.List.{AllZip, AllByRecursion}
use Rattle.std.proofs.lemmas.Bool.{true≢false}
use Rattle.cps_ir.specs.Reaches.{is_in}
use Rattle.layout_relation.specs.Links.{IsIn, first, later, Zipped, zip_none, zip_one, SameOption, neither, both}

-- ---- related lists

pub zipped : {A B : Type 0} (R : A → B → Type 0) (xs : List A) (ys : List B) → AllZip R xs ys → Zipped R xs ys
zipped R [] [] h = zip_none
zipped R [] (y ∷ ys) h = absurd h
zipped R (x ∷ xs) [] h = absurd h
zipped R (x ∷ xs) (y ∷ ys) h = zip_one x y xs ys h.0 (zipped R xs ys h.1)

pub zip_get : {A B : Type 0} (R : A → B → Type 0) (xs : List A) (ys : List B) (i : ℕ) → AllZip R xs ys → SameOption R (slice_get xs i) (slice_get ys i)
zip_get R [] [] i h = neither
zip_get R [] (y ∷ ys) i h = absurd h
zip_get R (x ∷ xs) [] i h = absurd h
zip_get R (x ∷ xs) (y ∷ ys) zero h = both x y h.0
zip_get R (x ∷ xs) (y ∷ ys) (suc i) h = zip_get R xs ys i h.1

pub zip_set : {A B : Type 0} (R : A → B → Type 0) (xs : List A) (ys : List B) (i : ℕ) (x : A) (y : B) → R x y → AllZip R xs ys → AllZip R (slice_set xs i x) (slice_set ys i y)
zip_set R [] [] i x y r h = tt
zip_set R [] (b ∷ ys) i x y r h = absurd h
zip_set R (a ∷ xs) [] i x y r h = absurd h
zip_set R (a ∷ xs) (b ∷ ys) zero x y r h = (r, h.1)
zip_set R (a ∷ xs) (b ∷ ys) (suc i) x y r h = (h.0, zip_set R xs ys i x y r h.1)

pub zip_join : {A B : Type 0} (R : A → B → Type 0) (xs : List A) (ys : List B) (us : List A) (vs : List B) → AllZip R xs ys → AllZip R us vs → AllZip R (xs ++ us) (ys ++ vs)
zip_join R [] [] us vs h k = k
zip_join R [] (y ∷ ys) us vs h k = absurd h
zip_join R (x ∷ xs) [] us vs h k = absurd h
zip_join R (x ∷ xs) (y ∷ ys) us vs h k = (h.0, zip_join R xs ys us vs h.1 k)

pub zip_length : {A B : Type 0} (R : A → B → Type 0) (xs : List A) (ys : List B) → AllZip R xs ys → length xs ≡ length ys
zip_length R [] [] h = refl
zip_length R [] (y ∷ ys) h = absurd h
zip_length R (x ∷ xs) [] h = absurd h
zip_length R (x ∷ xs) (y ∷ ys) h = ap suc (zip_length R xs ys h.1)

pub zip_many : {A B : Type 0} (R : A → B → Type 0) (n : ℕ) (x : A) (y : B) → R x y → AllZip R (replicate n x) (replicate n y)
zip_many R zero x y r = tt
zip_many R (suc n) x y r = (r, zip_many R n x y r)

pub all_zip_more : {A B : Type 0} (R S : A → B → Type 0) → ((x : A) (y : B) → R x y → S x y) → (xs : List A) (ys : List B) → AllZip R xs ys → AllZip S xs ys
all_zip_more R S f [] [] h = tt
all_zip_more R S f [] (y ∷ ys) h = absurd h
all_zip_more R S f (x ∷ xs) [] h = absurd h
all_zip_more R S f (x ∷ xs) (y ∷ ys) h = (f x y h.0, all_zip_more R S f xs ys h.1)

pub zipped_more : {A B : Type 0} (R S : A → B → Type 0) → ((x : A) (y : B) → R x y → S x y) → (xs : List A) (ys : List B) → Zipped R xs ys → Zipped S xs ys
zipped_more R S f xs ys zip_none = zip_none
zipped_more R S f xs ys (zip_one x y us vs h rest) = zip_one x y us vs (f x y h) (zipped_more R S f us vs rest)

pub zipped_length : {A B : Type 0} (R : A → B → Type 0) (xs : List A) (ys : List B) → Zipped R xs ys → length xs ≡ length ys
zipped_length R xs ys zip_none = refl
zipped_length R xs ys (zip_one x y us vs h rest) = ap suc (zipped_length R us vs rest)

pub all_zipped : {A B : Type 0} (R : A → B → Type 0) (xs : List A) (ys : List B) → Zipped R xs ys → AllZip R xs ys
all_zipped R xs ys zip_none = tt
all_zipped R xs ys (zip_one x y us vs h rest) = (h, all_zipped R us vs rest)

pub zipped_join : {A B : Type 0} (R : A → B → Type 0) (xs : List A) (ys : List B) (us : List A) (vs : List B) → Zipped R xs ys → Zipped R us vs → Zipped R (xs ++ us) (ys ++ vs)
zipped_join R xs ys us vs zip_none k = k
zipped_join R xs ys us vs (zip_one x y ms ns h rest) k = zip_one x y (ms ++ us) (ns ++ vs) h (zipped_join R ms ns us vs rest k)

-- what stands at a place of the one stands related at that place of the other
pub record Found {A B : Type 0} (R : A → B → Type 0) (x : A) (ys : List B) (i : ℕ) : Type 0 where
  pub y : B
  pub is : slice_get ys i ≡ Some y
  pub related : R x y

pub zipped_at : {A B : Type 0} (R : A → B → Type 0) (xs : List A) (ys : List B) (i : ℕ) (x : A) → Zipped R xs ys → slice_get xs i ≡ Some x → Found R x ys i
zipped_at R xs ys i x zip_none e = absurd (never e)
  where
    never : {X : Type 0} {a : X} → None ≡ Some a → ⊥
    never h = cc
zipped_at R xs ys zero x (zip_one a b us vs h rest) e = record { y = b; is = refl; related = subst (λ z. R z b) (some_same a x e) h }
  where
    some_same : {X : Type 0} (a b : X) → Some a ≡ Some b → a ≡ b
    some_same a b h = cc
zipped_at R xs ys (suc i) x (zip_one a b us vs h rest) e = let found = zipped_at R us vs i x rest e in record { y = found.y; is = found.is; related = found.related }

-- ---- members

pub in_right : {X : Type 0} (x : X) (xs ys : List X) → IsIn x ys → IsIn x (xs ++ ys)
in_right x [] ys h = h
in_right x (y ∷ xs) ys h = later x y (xs ++ ys) (in_right x xs ys h)

pub in_left : {X : Type 0} (x : X) (xs ys : List X) → IsIn x xs → IsIn x (xs ++ ys)
in_left x xs ys (first a ms) = first a (ms ++ ys)
in_left x xs ys (later a b ms h) = later a b (ms ++ ys) (in_left a ms ys h)

pub in_cases : {X : Type 0} (p x : X) (xs : List X) → IsIn p (x ∷ xs) → (p ≡ x) ⊎ IsIn p xs
in_cases p x xs (first q qs) = inl refl
in_cases p x xs (later q r qs h) = inr h

pub in_none : {X : Type 0} (p : X) → IsIn p [] → ⊥
in_none p h = by p [] h refl
  where
    by : {X : Type 0} (p : X) (xs : List X) → IsIn p xs → xs ≡ [] → ⊥
    by p xs (first q qs) e = cc
    by p xs (later q r qs h) e = cc

pub in_either : {X : Type 0} (p : X) (xs ys : List X) → IsIn p (xs ++ ys) → IsIn p xs ⊎ IsIn p ys
in_either p [] ys h = inr h
in_either p (x ∷ xs) ys h = ⊎_elim
    (λ e. inl (subst (λ q. IsIn q (x ∷ xs)) (sym e) (first x xs)))
    (λ k. ⊎_elim (λ a. inl (later p x xs a)) (λ b. inr b) (in_either p xs ys k))
    (in_cases p x (xs ++ ys) h)

pub all_in : {X : Type 0} (P : X → Type 0) (xs : List X) (x : X) → AllByRecursion P xs → IsIn x xs → P x
all_in P xs x h (first a ms) = h.0
all_in P xs x h (later a b ms k) = all_in P ms a h.1 k

-- ---- lists that grow behind

pub get_front : {A : Type 0} (xs ys : List A) (i : ℕ) (x : A) → slice_get xs i ≡ Some x → slice_get (xs ++ ys) i ≡ Some x
get_front [] ys i x h = cc
get_front (a ∷ xs) ys zero x h = h
get_front (a ∷ xs) ys (suc i) x h = get_front xs ys i x h

pub get_behind : {A : Type 0} (xs ys : List A) (i : ℕ) → slice_get (xs ++ ys) (length xs + i) ≡ slice_get ys i
get_behind [] ys i = let e : 0 + i ≡ i = omega arith in ap (slice_get ys) e
get_behind (x ∷ xs) ys i = let e : length (x ∷ xs) + i ≡ suc (length xs + i) = omega arith in ap (slice_get (x ∷ xs ++ ys)) e ∙ get_behind xs ys i

pub some_at : {X : Type 0} (xs : List X) (i : ℕ) → i < length xs → (x : X) × (slice_get xs i ≡ Some x)
some_at [] i lt = absurd (omega (arith, lt))
some_at (x ∷ xs) zero lt = (x, refl)
some_at (x ∷ xs) (suc i) lt = some_at xs i (omega (arith, lt))

-- ---- numbers in lists

pub is_in_head : (x : ℕ) (xs : List ℕ) (y : ℕ) → is_in (x ∷ xs) y ≡ false → ((x == y) ≡ false) × (is_in xs y ≡ false)
is_in_head x xs y h = by (x == y) (is_in xs y) h
  where
    by : (a b : Bool) → (a || b) ≡ false → (a ≡ false) × (b ≡ false)
    by true b h = absurd (true≢false h)
    by false b h = (refl, h)

-- what is in a list that lacks x isn't x
pub in_is_not : (xs : List ℕ) (x y : ℕ) → is_in xs x ≡ false → IsIn y xs → (y == x) ≡ false
in_is_not xs x y h (first a ms) = (is_in_head a ms x h).0
in_is_not xs x y h (later a b ms k) = in_is_not ms x a (is_in_head b ms x h).1 k
