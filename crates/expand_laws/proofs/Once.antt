-- Numbers that stand at most once in a list, and within bounds.
use Rattle.std.proofs.Common.{◌≡◌, ℕ, zero, suc, ◌+◌, ◌<◌, ◌≤◌, ◌==◌, Bool, true, false, List, [], ◌∷◌, ◌++◌, length, get_or, count_by, inl, inr, ◌⊎◌, refl, sym, ap, ◌∙◌, cond, arith}
use Rattle.std.proofs.lemmas.Bool.{eqb-true, cases_eq, cases_lt}
use Rattle.std.proofs.lemmas.Bool.Decides.{Decides-eqb}
use Rattle.std.proofs.lemmas.List.Sums.{sum_by-cons, sum_by-append}
use Rattle.expand_laws.proofs.Made.{AreBetween, AreDistinct}

-- how often a number stands in a list
abbrev pub times : ℕ → List ℕ → ℕ
times k ks = count_by (λ j. j == k) ks

pub record IsOnceAt (low high : ℕ) (ks : List ℕ) (k : ℕ) : Type 0 where
  pub most : times k ks ≤ 1
  pub from : k < low → times k ks ≡ 0
  pub below : high ≤ k → times k ks ≡ 0

-- each stands there once at most, and is at least the first bound and below the second
abbrev pub IsOnce : ℕ → ℕ → List ℕ → Type 0
IsOnce low high ks = (k : ℕ) → IsOnceAt low high ks k

pub times_append : (k : ℕ) (xs ys : List ℕ) → times k (xs ++ ys) ≡ times k xs + times k ys
times_append k xs ys = sum_by-append (λ j. cond {A = ℕ} (j == k) 1 0) xs ys

times_here : (k x : ℕ) (xs : List ℕ) → x ≡ k → times k (x ∷ xs) ≡ 1 + times k xs
times_here k x xs e =
    let t : (x == k) ≡ true = (Decides-eqb x k).1 e in
    sum_by-cons (λ j. cond {A = ℕ} (j == k) 1 0) x xs ∙ (rw t refl)

times_more : (k x : ℕ) (xs : List ℕ) → times k xs ≤ times k (x ∷ xs)
times_more k x xs = let c : times k (x ∷ xs) ≡ cond {A = ℕ} (x == k) 1 0 + times k xs = sum_by-cons (λ j. cond {A = ℕ} (j == k) 1 0) x xs in omega (arith, c)

times_there : (k x : ℕ) (xs : List ℕ) → (x ≡ k → ⊥) → times k (x ∷ xs) ≡ times k xs
times_there k x xs n = by (x == k) refl
  where
    by : (b : Bool) → (x == k) ≡ b → times k (x ∷ xs) ≡ times k xs
    by true e = absurd (n (eqb-true x k e))
    by false e =
        let c : times k (x ∷ xs) ≡ cond {A = ℕ} (x == k) 1 0 + times k xs = sum_by-cons (λ j. cond {A = ℕ} (j == k) 1 0) x xs in
        let d : cond {A = ℕ} (x == k) 1 0 ≡ 0 = ap (λ (t : Bool). cond {A = ℕ} t 1 0) e in
        omega (arith, c, d)

-- ---- from lists without a number that stands twice

none_there : (k : ℕ) (ks : List ℕ) → ((i : ℕ) (d : ℕ) → i < length ks → get_or ks i d ≡ k → ⊥) → times k ks ≡ 0
none_there k [] n = refl
none_there k (x ∷ ks) n =
    times_there k x ks (λ e. n 0 0 (omega arith) e) ∙ none_there k ks (λ i d less e. n (suc i) d (omega (arith, less)) e)

distinct_behind : (x : ℕ) (xs : List ℕ) → AreDistinct (x ∷ xs) → AreDistinct xs
distinct_behind x xs once i j d less within = once (suc i) (suc j) d (omega (arith, less)) (omega (arith, within))

at_most_once : (k : ℕ) (ks : List ℕ) → AreDistinct ks → times k ks ≤ 1
at_most_once k [] once = omega arith
at_most_once k (x ∷ ks) once = by (cases_eq x k) (at_most_once k ks (distinct_behind x ks once))
  where
    by : (x ≡ k) ⊎ (x ≡ k → ⊥) → times k ks ≤ 1 → times k (x ∷ ks) ≤ 1
    by (inl same) rest =
        let none : times k ks ≡ 0 = none_there k ks (λ i d less s. once 0 (suc i) d (omega (arith, less)) (omega (arith, less)) (same ∙ sym s)) in
        let here = times_here k x ks same in
        omega (arith, none, here)
    by (inr other) rest =
        let there = times_there k x ks other in
        omega (arith, there, rest)

pub once_of : (low high : ℕ) (ks : List ℕ) → AreDistinct ks → AreBetween low high ks → IsOnce low high ks
once_of low high ks once between k = record {
  most = at_most_once k ks once;
  from = λ less. none_there k ks (λ i d within e. let b = between i d within in let f = b.0 in omega (arith, f, less, e));
  below = λ le. none_there k ks (λ i d within e. let b = between i d within in let f = b.1 in omega (arith, f, le, e));
}

-- ---- and back

some_there : (k : ℕ) (ks : List ℕ) (i d : ℕ) → i < length ks → get_or ks i d ≡ k → 1 ≤ times k ks
some_there k [] i d less e = absurd (omega (arith, less))
some_there k (x ∷ ks) zero d less e = let h = times_here k x ks e in omega (arith, h)
some_there k (x ∷ ks) (suc i) d less e =
    let r = some_there k ks i d (omega (arith, less)) e in
    let m = times_more k x ks in
    omega (arith, r, m)

twice_there : (k : ℕ) (ks : List ℕ) (i j d : ℕ) → i < j → j < length ks → get_or ks i d ≡ k → get_or ks j d ≡ k → 2 ≤ times k ks
twice_there k [] i j d less within e f = absurd (omega (arith, within))
twice_there k (x ∷ ks) i zero d less within e f = absurd (omega (arith, less))
twice_there k (x ∷ ks) zero (suc j) d less within e f =
    let r = some_there k ks j d (omega (arith, within)) f in
    let h = times_here k x ks e in
    omega (arith, r, h)
twice_there k (x ∷ ks) (suc i) (suc j) d less within e f =
    let r = twice_there k ks i j d (omega (arith, less)) (omega (arith, within)) e f in
    let m = times_more k x ks in
    omega (arith, r, m)

pub distinct_of : (low high : ℕ) (ks : List ℕ) → IsOnce low high ks → AreDistinct ks
distinct_of low high ks once i j d less within same =
    let two = twice_there (get_or ks j d) ks i j d less within same refl in
    let o = once (get_or ks j d) in
    let most = o.most in
    omega (arith, two, most)

-- ---- one list behind another, in whatever order

pub once_none : (low : ℕ) → IsOnce low low []
once_none low k = record { most = omega arith; from = λ less. refl; below = λ le. refl }

pub once_join : (low mid high : ℕ) (xs ys zs : List ℕ) → low ≤ mid → mid ≤ high → IsOnce low mid xs → IsOnce mid high ys
    → ((k : ℕ) → times k zs ≡ times k xs + times k ys) → IsOnce low high zs
once_join low mid high xs ys zs l h x y e k = by (cases_lt k mid)
  where
    by : (k < mid) ⊎ (mid ≤ k) → IsOnceAt low high zs k
    by (inr le) =
        let a : times k xs ≡ 0 = (x k).below le in
        let b : times k ys ≤ 1 = (y k).most in
        let f = e k in
        record {
          most = omega (arith, a, b, f);
          from = λ less. absurd (omega (arith, less, le, l));
          below = λ above. let c : times k ys ≡ 0 = (y k).below above in omega (arith, a, c, f);
        }
    by (inl lt) =
        let a : times k xs ≤ 1 = (x k).most in
        let b : times k ys ≡ 0 = (y k).from lt in
        let f = e k in
        record {
          most = omega (arith, a, b, f);
          from = λ less. let c : times k xs ≡ 0 = (x k).from less in omega (arith, b, c, f);
          below = λ above. absurd (omega (arith, lt, above, h));
        }

-- in the order in which a unit lists what it names
pub times_mixed : (k : ℕ) (ws xs ys zs : List ℕ) → times k ((ws ++ xs) ++ (ys ++ zs)) ≡ times k (ws ++ ys) + times k (xs ++ zs)
times_mixed k ws xs ys zs =
    let a = times_append k (ws ++ xs) (ys ++ zs) in
    let b = times_append k ws xs in
    let c = times_append k ys zs in
    let d = times_append k ws ys in
    let e = times_append k xs zs in
    omega (arith, a, b, c, d, e)
