-- All refusals that stand, as a list, and the first of them.
use Rattle.std.proofs.Common.{◌≡◌, ◌⊎◌, inl, inr, ℕ, zero, suc, ◌<◌, ◌≤◌, List, [], ◌∷◌, ◌++◌, length, get_or, Contains, refl, sym, subst, arith}
use Rattle.std.proofs.lemmas.Bool.{cases_lt}
use Rattle.std.proofs.lemmas.List.Elements.{Contains-append_left, Contains-append_right, Contains-append_cases}
use Rattle.t_rows.specs.declared.refusal.Refusal.{Refusal}
use Rattle.expansion.specs.Refusals.{Precedes, number}
use Rattle.expansion.proofs.Places.{contains_none}
use Rattle.expansion.proofs.Places.{precedes_self, precedes_through}

-- ---- elements

by_place : {A : Type 0} (x : A) (xs : List A) (y : A) (k : ℕ) → k < length (x ∷ xs) → get_or (x ∷ xs) k y ≡ y → (x ≡ y) ⊎ Contains xs y
by_place x xs y zero below e = inl e
by_place x xs y (suc k) below e = let less : k < length xs = omega arith in inr (k, less, e)

pub contains_cases : {A : Type 0} (x : A) (xs : List A) (y : A) → Contains (x ∷ xs) y → (x ≡ y) ⊎ Contains xs y
contains_cases x xs y h = by_place x xs y h.0 h.1 h.2

pub contains_first : {A : Type 0} (x : A) (xs : List A) → Contains (x ∷ xs) x
contains_first x xs = (0, omega arith, refl)

pub contains_later : {A : Type 0} (x : A) (xs : List A) (y : A) → Contains xs y → Contains (x ∷ xs) y
contains_later x xs y h = let below = h.1 in (suc h.0, omega arith, h.2)

-- ---- the refusals that stand

pub record Listed (stands : Refusal → Type 0) : Type 0 where
  pub list : List Refusal
  pub all : (r : Refusal) → stands r → Contains list r
  pub each : (r : Refusal) → Contains list r → stands r

pub listed_none : (P : Refusal → Type 0) → ((r : Refusal) → P r → ⊥) → Listed P
listed_none P h = record { list = []; all = λ r p. absurd (h r p); each = λ r c. absurd (contains_none r c) }

pub listed_contains : (rs : List Refusal) → Listed (λ r. Contains rs r)
listed_contains rs = record { list = rs; all = λ r c. c; each = λ r c. c }

pub listed_same : (P Q : Refusal → Type 0) → ((r : Refusal) → P r → Q r) → ((r : Refusal) → Q r → P r) → Listed P → Listed Q
listed_same P Q there back l = record { list = l.list; all = λ r q. l.all r (back r q); each = λ r c. there r (l.each r c) }

pub listed_is : (x : Refusal) → Listed (λ r. r ≡ x)
listed_is x = record {
  list = x ∷ [];
  all = λ r e. subst (λ y. Contains (x ∷ []) y) (sym e) (contains_first x []);
  each = λ r c. by r (contains_cases x [] r c);
}
  where
    by : (r : Refusal) → (x ≡ r) ⊎ Contains [] r → r ≡ x
    by r (inl e) = sym e
    by r (inr c) = absurd (contains_none r c)

pub listed_either : (P Q : Refusal → Type 0) → Listed P → Listed Q → Listed (λ r. P r ⊎ Q r)
listed_either P Q l m = record {
  list = l.list ++ m.list;
  all = λ r h. there r h;
  each = λ r c. back r (Contains-append_cases l.list m.list r c);
}
  where
    there : (r : Refusal) → P r ⊎ Q r → Contains (l.list ++ m.list) r
    there r (inl p) = Contains-append_left l.list m.list r (l.all r p)
    there r (inr q) = Contains-append_right l.list m.list r (m.all r q)

    back : (r : Refusal) → Contains l.list r ⊎ Contains m.list r → P r ⊎ Q r
    back r (inl c) = inl (l.each r c)
    back r (inr c) = inr (m.each r c)

-- ---- the first

by_number : (a b m n : ℕ) → (m < n) ⊎ (n ≤ m) → a ≡ b → ((a < b) ⊎ (a ≡ b) × (m ≤ n)) ⊎ ((b < a) ⊎ (b ≡ a) × (n ≤ m))
by_number a b m n (inl h) e = inl (inr (e, omega arith))
by_number a b m n (inr h) e = inr (inr (sym e, h))

by_start : (a b m n : ℕ) → (a < b) ⊎ (b ≤ a) → (b < a) ⊎ (a ≤ b) → ((a < b) ⊎ (a ≡ b) × (m ≤ n)) ⊎ ((b < a) ⊎ (b ≡ a) × (n ≤ m))
by_start a b m n (inl h) i = inl (inl h)
by_start a b m n (inr h) (inl i) = inr (inl i)
by_start a b m n (inr h) (inr i) = by_number a b m n (cases_lt m n) (omega arith)

pub precedes_either : (a b : Refusal) → Precedes a b ⊎ Precedes b a
precedes_either a b =
    by_start a.span.start b.span.start (number a.kind) (number b.kind) (cases_lt a.span.start b.span.start) (cases_lt b.span.start a.span.start)

-- the one of these that precedes all of them
pub record Least (rs : List Refusal) : Type 0 where
  pub refusal : Refusal
  pub there : Contains rs refusal
  pub first : (r : Refusal) → Contains rs r → Precedes refusal r

least_one : (x : Refusal) → Least (x ∷ [])
least_one x = record { refusal = x; there = contains_first x []; first = λ r c. by r (contains_cases x [] r c) }
  where
    by : (r : Refusal) → (x ≡ r) ⊎ Contains [] r → Precedes x r
    by r (inl e) = subst (λ y. Precedes x y) e (precedes_self x)
    by r (inr c) = absurd (contains_none r c)

least_of_two : (x : Refusal) (xs : List Refusal) (l : Least xs) → Precedes x l.refusal ⊎ Precedes l.refusal x → Least (x ∷ xs)
least_of_two x xs l (inl h) = record { refusal = x; there = contains_first x xs; first = λ r c. by r (contains_cases x xs r c) }
  where
    by : (r : Refusal) → (x ≡ r) ⊎ Contains xs r → Precedes x r
    by r (inl e) = subst (λ y. Precedes x y) e (precedes_self x)
    by r (inr c) = precedes_through x l.refusal r h (l.first r c)
least_of_two x xs l (inr h) =
    record { refusal = l.refusal; there = contains_later x xs l.refusal l.there; first = λ r c. by r (contains_cases x xs r c) }
  where
    by : (r : Refusal) → (x ≡ r) ⊎ Contains xs r → Precedes l.refusal r
    by r (inl e) = subst (λ y. Precedes l.refusal y) e h
    by r (inr c) = l.first r c

pub least : (x : Refusal) (xs : List Refusal) → Least (x ∷ xs)
least x [] = least_one x
least x (y ∷ ys) = let l = least y ys in least_of_two x (y ∷ ys) l (precedes_either x l.refusal)

-- the first that stands
pub record First (holds : Refusal → Type 0) : Type 0 where
  pub refusal : Refusal
  pub stands : holds refusal
  pub first : (r : Refusal) → holds r → Precedes refusal r

of_list : (P : Refusal → Type 0) (rs : List Refusal) → ((r : Refusal) → P r → Contains rs r) → ((r : Refusal) → Contains rs r → P r)
    → First P ⊎ ((r : Refusal) → P r → ⊥)
of_list P [] all each = inr (λ r p. contains_none r (all r p))
of_list P (x ∷ xs) all each =
    let l = least x xs in inl (record { refusal = l.refusal; stands = each l.refusal l.there; first = λ r p. l.first r (all r p) })

pub first_of_listed : (P : Refusal → Type 0) → Listed P → First P ⊎ ((r : Refusal) → P r → ⊥)
first_of_listed P l = of_list P l.list l.all l.each
