-- How often a number stands in a list, and lists in which each number of a range stands at most once.
use Rattle.std.proofs.Common.{◌≡◌, ◌≢◌, ℕ, zero, suc, ◌+◌, ◌<◌, ◌≤◌, Bool, true, false, List, [], ◌∷◌, ◌++◌, map, length, get_or, refl, ap, ◌∙◌, cond, arith, ◌⊎◌, inl, inr}
use Rattle.std.specs.Prelude.{◌==◌, All, AllPairs, count_by}
use Rattle.std.specs.List.{flat_map}
use Rattle.std.proofs.lemmas.Bool.{eq-eqb, ne_eqb, eqb-true, eqb-false, cases_lt}
use Rattle.std.proofs.lemmas.List.{map-append}
use Rattle.std.proofs.lemmas.List.Concat.{flat_map-append}
use Rattle.std.proofs.lemmas.List.Sums.{sum_by-cons, sum_by-append}
use Rattle.t_base.specs.declared.basics.Var.{Var}
use Rattle.expansion.specs.Counting.{times, Once}
use Rattle.expansion.specs.Lists.{numbered}

pub times_count : (k : ℕ) (xs : List ℕ) → count_by (λ x. x == k) xs ≡ times k xs
unfolding times
times_count k xs = refl

pub times_none : (k : ℕ) → times k [] ≡ 0
unfolding times
times_none k = refl

pub times_append : (k : ℕ) (xs ys : List ℕ) → times k (xs ++ ys) ≡ times k xs + times k ys
unfolding times
times_append k xs ys = sum_by-append (λ x. cond (x == k) 1 0) xs ys

times_cons : (k x : ℕ) (xs : List ℕ) (b : Bool) → (x == k) ≡ b → times k (x ∷ xs) ≡ cond b 1 0 + times k xs
unfolding times
times_cons k x xs b e = sum_by-cons (λ j. cond (j == k) 1 0) x xs ∙ ap (λ t. cond t 1 0 + count_by (λ j. j == k) xs) e

pub times_same : (k x : ℕ) (xs : List ℕ) → x ≡ k → times k (x ∷ xs) ≡ 1 + times k xs
times_same k x xs e = times_cons k x xs true (eq-eqb x k e)

pub times_other : (k x : ℕ) (xs : List ℕ) → (x ≡ k → ⊥) → times k (x ∷ xs) ≡ times k xs
times_other k x xs e = times_cons k x xs false (ne_eqb x k e) ∙ omega arith

pub times_one : (k x : ℕ) → x ≡ k → times k (x ∷ []) ≡ 1
times_one k x e = omega (arith, times_same k x [] e, times_none k)

pub times_not_one : (k x : ℕ) → (x ≡ k → ⊥) → times k (x ∷ []) ≡ 0
times_not_one k x e = times_other k x [] e ∙ times_none k

pub times_flat : {X : Type 0} (f : X → List ℕ) (k : ℕ) (xs ys : List X) → times k (flat_map f (xs ++ ys)) ≡ times k (flat_map f xs) + times k (flat_map f ys)
times_flat f k xs ys = ap (λ l. times k l) (flat_map-append f xs ys) ∙ times_append k (flat_map f xs) (flat_map f ys)

pub times_mapped : {X Y : Type 0} (g : Y → ℕ) (f : X → List Y) (k : ℕ) (xs ys : List X)
    → times k (map g (flat_map f (xs ++ ys))) ≡ times k (map g (flat_map f xs)) + times k (map g (flat_map f ys))
times_mapped g f k xs ys =
    ap (λ l. times k (map g l)) (flat_map-append f xs ys) ∙ ap (λ l. times k l) (map-append g (flat_map f xs) (flat_map f ys))
    ∙ times_append k (map g (flat_map f xs)) (map g (flat_map f ys))

pub times_there : (xs : List ℕ) (i : ℕ) (d : ℕ) → i < length xs → 1 ≤ times (get_or xs i d) xs
times_there [] i d lt = absurd (omega arith)
times_there (x ∷ xs) zero d lt = omega (arith, times_same x x xs refl)
times_there (x ∷ xs) (suc i) d lt =
    let k = get_or xs i d in
    let rest : 1 ≤ times k xs = times_there xs i d (omega arith) in
    by k rest (x == k) refl
  where
    by : (k : ℕ) → 1 ≤ times k xs → (b : Bool) → (x == k) ≡ b → 1 ≤ times k (x ∷ xs)
    by k rest b e = omega (arith, times_cons k x xs b e)

-- ---- at most once each, in a range

pub once_none : (low high : ℕ) → Once low high []
once_none low high = record { below = λ k h. times_none k; above = λ k h. times_none k; once = λ k. omega (arith, times_none k) }

pub once_one : (low high : ℕ) → low < high → Once low high (low ∷ [])
once_one low high lt = record {
  below = λ k h. times_not_one k low (λ e. omega arith);
  above = λ k h. times_not_one k low (λ e. omega arith);
  once = λ k. by k (low == k) refl;
}
  where
    by : (k : ℕ) (b : Bool) → (low == k) ≡ b → times k (low ∷ []) ≤ 1
    by k true e = omega (arith, times_one k low (eqb-true low k e))
    by k false e = omega (arith, times_not_one k low (eqb-false low k e))

-- two ranges one behind the other
pub once_both : (a b c : ℕ) (xs ys zs : List ℕ) → a ≤ b → b ≤ c → ((k : ℕ) → times k zs ≡ times k xs + times k ys) → Once a b xs → Once b c ys → Once a c zs
once_both a b c xs ys zs ab bc sum x y = record {
  below = λ k h. let p = x.below k h in let q = y.below k (omega arith) in omega (arith, sum k, p, q);
  above = λ k h. let p = x.above k (omega arith) in let q = y.above k h in omega (arith, sum k, p, q);
  once = λ k. by k (cases_lt k b);
}
  where
    by : (k : ℕ) → (k < b) ⊎ (b ≤ k) → times k zs ≤ 1
    by k (inl lt) = omega (arith, sum k, y.below k lt, x.once k)
    by k (inr le) = omega (arith, sum k, x.above k le, y.once k)

pub once_counted : (a b : ℕ) (xs ys : List ℕ) → ((k : ℕ) → times k ys ≡ times k xs) → Once a b xs → Once a b ys
once_counted a b xs ys same x =
    record { below = λ k h. same k ∙ x.below k h; above = λ k h. same k ∙ x.above k h; once = λ k. omega (arith, same k, x.once k) }

pub once_pairs : (low high : ℕ) (ks : List ℕ) → Once low high ks → AllPairs (λ j k. j ≢ k) ks
once_pairs low high ks o = by ks o.once
  where
    by : (xs : List ℕ) → ((k : ℕ) → times k xs ≤ 1) → AllPairs (λ j k. j ≢ k) xs
    by [] h i j d lt within = absurd (omega arith)
    by (x ∷ xs) h zero zero d lt within = absurd (omega arith)
    by (x ∷ xs) h zero (suc j) d lt within = λ e.
        let k = get_or xs j d in
        let there : 1 ≤ times k xs = times_there xs j d (omega arith) in
        let most : times k (x ∷ xs) ≤ 1 = h k in
        absurd (omega (arith, times_same k x xs e))
    by (x ∷ xs) h (suc i) zero d lt within = absurd (omega arith)
    by (x ∷ xs) h (suc i) (suc j) d lt within = by xs (λ k. fewer k (x == k) refl) i j d (omega arith) (omega arith)
      where
        fewer : (k : ℕ) (b : Bool) → (x == k) ≡ b → times k xs ≤ 1
        fewer k b e = omega (arith, times_cons k x xs b e, h k)

pub once_between : (low high : ℕ) (ks : List ℕ) → Once low high ks → All (λ k. (low ≤ k) × (k < high)) ks
once_between low high ks o i d lt =
    let k = get_or ks i d in
    let there : 1 ≤ times k ks = times_there ks i d lt in
    (low_of k there (cases_lt k low), high_of k there (cases_lt k high))
  where
    low_of : (k : ℕ) → 1 ≤ times k ks → (k < low) ⊎ (low ≤ k) → low ≤ k
    low_of k there (inl lt) = absurd (omega (arith, o.below k lt))
    low_of k there (inr le) = le

    high_of : (k : ℕ) → 1 ≤ times k ks → (k < high) ⊎ (high ≤ k) → k < high
    high_of k there (inl lt) = lt
    high_of k there (inr le) = absurd (omega (arith, o.above k le))

-- ---- new variables

pub once_numbered : (first n : ℕ) → Once first (first + n) (map (λ (v : Var). v.0) (numbered first n))
once_numbered first zero = once_none first (first + zero)
once_numbered first (suc n) =
    let e : first + suc n ≡ suc first + n = omega arith in
    rw e
    (once_both first (suc first) (suc first + n) (first ∷ []) (map (λ (v : Var). v.0) (numbered (suc first) n)) _ (omega arith) (omega arith)
    (λ k. times_append k (first ∷ []) (map (λ (v : Var). v.0) (numbered (suc first) n))) (once_one first (suc first) (omega arith)) (once_numbered (suc first) n))

pub numbered_length : (first n : ℕ) → length (numbered first n) ≡ n
numbered_length first zero = refl
numbered_length first (suc n) = ap suc (numbered_length (suc first) n)

pub numbered_append : (first m n : ℕ) → numbered first (m + n) ≡ numbered first m ++ numbered (first + m) n
numbered_append first zero n = let e : zero + n ≡ n = omega arith in let f : first + zero ≡ first = omega arith in rw e (rw f refl)
numbered_append first (suc m) n =
    let e : suc m + n ≡ suc (m + n) = omega arith in
    let f : first + suc m ≡ suc first + m = omega arith in
    rw e (rw f (ap (λ l. record { 0 = first } ∷ l) (numbered_append (suc first) m n)))
