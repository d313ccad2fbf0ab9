-- Items that stand at most once in a list.
use Rattle.std.proofs.Common.{◌≡◌, ◌≢◌, ℕ, zero, suc, ◌+◌, ◌<◌, ◌≤◌, Bool, true, cond, List, [], ◌∷◌, ◌++◌, length, slice_get, AllPairs, count_by, Some, inl, inr, refl, sym, subst, ◌∙◌, arith}
use Rattle.std.specs.List.{flat_map}
use Rattle.std.proofs.lemmas.Bool.{cases_order}
use Rattle.std.proofs.lemmas.List.Sums.{sum_by-cons}
use Rattle.std.proofs.lemmas.Option.{slice_get_within, get_or_from_slice_get, same_Some}

-- wherever the item stands, it is one place
abbrev pub StandsOnce : {X : Type 0} → List X → X → Type 0
StandsOnce xs x = (i j : ℕ) → slice_get xs i ≡ Some x → slice_get xs j ≡ Some x → i ≡ j

-- ---- lists joined end to end

pub got_left : {X : Type 0} (xs ys : List X) (k : ℕ) (x : X) → slice_get xs k ≡ Some x → slice_get (xs ++ ys) k ≡ Some x
got_left [] ys k x h = cc
got_left (y ∷ xs) ys zero x h = h
got_left (y ∷ xs) ys (suc k) x h = got_left xs ys k x h

pub got_right : {X : Type 0} (xs ys : List X) (k : ℕ) (x : X) → slice_get ys k ≡ Some x → slice_get (xs ++ ys) (length xs + k) ≡ Some x
got_right [] ys k x h = let e : 0 + k ≡ k = omega arith in rw e h
got_right (y ∷ xs) ys k x h = let e : length (y ∷ xs) + k ≡ suc (length xs + k) = omega arith in rw e (got_right xs ys k x h)

pub once_left : {X : Type 0} (xs ys : List X) (x : X) → StandsOnce (xs ++ ys) x → StandsOnce xs x
once_left xs ys x once i j p q = once i j (got_left xs ys i x p) (got_left xs ys j x q)

pub once_right : {X : Type 0} (xs ys : List X) (x : X) → StandsOnce (xs ++ ys) x → StandsOnce ys x
once_right xs ys x once i j p q =
    let e : length xs + i ≡ length xs + j = once (length xs + i) (length xs + j) (got_right xs ys i x p) (got_right xs ys j x q) in omega arith

pub once_apart : {X : Type 0} (xs ys : List X) (x : X) → StandsOnce (xs ++ ys) x → (i j : ℕ) → slice_get xs i ≡ Some x → slice_get ys j ≡ Some x → ⊥
once_apart xs ys x once i j p q =
    let e : i ≡ length xs + j = once i (length xs + j) (got_left xs ys i x p) (got_right xs ys j x q) in
    let below : i < length xs = slice_get_within xs i x p in
    absurd (omega arith)

-- the place of an item of a piece among all of them
pub somewhere : {X A : Type 0} (f : X → List A) (xs : List X) (k i : ℕ) (x : X) (a : A) → slice_get xs k ≡ Some x → slice_get (f x) i ≡ Some a
    → (j : ℕ) × (slice_get (flat_map f xs) j ≡ Some a)
somewhere f [] k i x a h at = cc
somewhere f (y ∷ xs) zero i x a h at = (i, got_left (f y) (flat_map f xs) i a (subst (λ z. slice_get (f z) i ≡ Some a) (sym (same_Some y x h)) at))
somewhere f (y ∷ xs) (suc k) i x a h at =
    let rest : (j : ℕ) × (slice_get (flat_map f xs) j ≡ Some a) = somewhere f xs k i x a h at in
    (length (f y) + rest.0, got_right (f y) (flat_map f xs) rest.0 a rest.1)

-- what stands once among the pieces stands once in each
pub once_within : {X A : Type 0} (f : X → List A) (xs : List X) (k : ℕ) (x : X) (a : A) → StandsOnce (flat_map f xs) a → slice_get xs k ≡ Some x → StandsOnce (f x) a
once_within f [] k x a once h = cc
once_within f (y ∷ xs) zero x a once h = subst (λ z. StandsOnce (f z) a) (same_Some y x h) (once_left (f y) (flat_map f xs) a once)
once_within f (y ∷ xs) (suc k) x a once h = once_within f xs k x a (once_right (f y) (flat_map f xs) a once) h

-- and in one piece alone
pub one_piece : {X A : Type 0} (f : X → List A) (xs : List X) (k l i j : ℕ) (x y : X) (a : A) → StandsOnce (flat_map f xs) a → slice_get xs k ≡ Some x
    → slice_get xs l ≡ Some y → slice_get (f x) i ≡ Some a → slice_get (f y) j ≡ Some a → k ≡ l
one_piece f [] k l i j x y a once g h p q = cc
one_piece f (z ∷ xs) zero zero i j x y a once g h p q = refl
one_piece f (z ∷ xs) zero (suc l) i j x y a once g h p q =
    let far : (n : ℕ) × (slice_get (flat_map f xs) n ≡ Some a) = somewhere f xs l j y a h q in
    absurd (once_apart (f z) (flat_map f xs) a once i far.0 (subst (λ w. slice_get (f w) i ≡ Some a) (sym (same_Some z x g)) p) far.1)
one_piece f (z ∷ xs) (suc k) zero i j x y a once g h p q =
    let far : (n : ℕ) × (slice_get (flat_map f xs) n ≡ Some a) = somewhere f xs k i x a g p in
    absurd (once_apart (f z) (flat_map f xs) a once j far.0 (subst (λ w. slice_get (f w) j ≡ Some a) (sym (same_Some z y h)) q) far.1)
one_piece f (z ∷ xs) (suc k) (suc l) i j x y a once g h p q =
    let e : k ≡ l = one_piece f xs k l i j x y a (once_right (f z) (flat_map f xs) a once) g h p q in omega arith

-- ---- different items

apart_at : {X : Type 0} (xs : List X) (i j : ℕ) (x : X) → AllPairs (λ a b. a ≢ b) xs → slice_get xs i ≡ Some x → slice_get xs j ≡ Some x → i < j → ⊥
apart_at xs i j x apart p q below =
    apart i j x below (slice_get_within xs j x q) (get_or_from_slice_get xs i x x p ∙ sym (get_or_from_slice_get xs j x x q))

pub once_distinct : {X : Type 0} (xs : List X) (x : X) → AllPairs (λ a b. a ≢ b) xs → StandsOnce xs x
once_distinct xs x apart i j p q =
    elim (cases_order i j) [
      | inl same ↦ same
      | inr (inl below) ↦ absurd (apart_at xs i j x apart p q below)
      | inr (inr above) ↦ absurd (apart_at xs j i x apart q p above)
    ]

-- ---- counts

pub counted_none : {X : Type 0} (p : X → Bool) (xs : List X) (i : ℕ) (x : X) → count_by p xs ≡ 0 → p x ≡ true → slice_get xs i ≡ Some x → ⊥
counted_none p [] i x none is h = cc
counted_none p (y ∷ xs) zero x none is h =
    let same : p y ≡ true = subst (λ z. p z ≡ true) (sym (same_Some y x h)) is in
    let e : 0 ≡ 1 + count_by p xs = sym none ∙ sum_by-cons (λ z. cond (p z) 1 0) y xs ∙ rw same refl in
    omega arith
counted_none p (y ∷ xs) (suc i) x none is h =
    let e : 0 ≡ cond (p y) 1 0 + count_by p xs = sym none ∙ sum_by-cons (λ z. cond (p z) 1 0) y xs in
    let rest : count_by p xs ≡ 0 = omega arith in
    counted_none p xs i x rest is h

pub counted_once : {X : Type 0} (p : X → Bool) (xs : List X) (x : X) → count_by p xs ≤ 1 → p x ≡ true → StandsOnce xs x
counted_once p [] x few is i j g h = cc
counted_once p (y ∷ xs) x few is zero zero g h = refl
counted_once p (y ∷ xs) x few is zero (suc j) g h =
    let same : p y ≡ true = subst (λ z. p z ≡ true) (sym (same_Some y x g)) is in
    let e : count_by p (y ∷ xs) ≡ 1 + count_by p xs = sum_by-cons (λ z. cond (p z) 1 0) y xs ∙ rw same refl in
    let rest : count_by p xs ≡ 0 = omega arith in
    absurd (counted_none p xs j x rest is h)
counted_once p (y ∷ xs) x few is (suc i) zero g h =
    let same : p y ≡ true = subst (λ z. p z ≡ true) (sym (same_Some y x h)) is in
    let e : count_by p (y ∷ xs) ≡ 1 + count_by p xs = sum_by-cons (λ z. cond (p z) 1 0) y xs ∙ rw same refl in
    let rest : count_by p xs ≡ 0 = omega arith in
    absurd (counted_none p xs i x rest is g)
counted_once p (y ∷ xs) x few is (suc i) (suc j) g h =
    let e : count_by p (y ∷ xs) ≡ cond (p y) 1 0 + count_by p xs = sum_by-cons (λ z. cond (p z) 1 0) y xs in
    let rest : count_by p xs ≤ 1 = omega arith in
    let same : i ≡ j = counted_once p xs x rest is i j g h in omega arith
