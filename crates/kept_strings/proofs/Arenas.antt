-- Items that stand in a list and name others of it, each of which is named once: what the items weigh is what the roots weigh with all
-- that they name.
use Rattle.std.proofs.Common.{◌≡◌, ◌⊎◌, inl, inr, ℕ, suc, zero, ◌+◌, ◌<◌, ◌≤◌, List, [], ◌∷◌, ◌++◌, length, Option, Some, None, slice_get, refl, ap, subst, ◌∙◌, arith}
use Rattle.std.specs.List.{AllByRecursion, flat_map, sum_by}
use Rattle.std.proofs.lemmas.Bool.{cases_lt}
use Rattle.std.proofs.lemmas.List.Sums.{sum_by-cons}
use Rattle.std.proofs.lemmas.Option.{slice_get_within}
use Rattle.expansion.specs.Counting.{EachOnce}
use Rattle.expansion.specs.Counting.{times as counted}
use Rattle.expand_laws.proofs.Counting.{times_count, times_append, times_same}
use Rattle.expand_laws.proofs.Once.{times}
use Rattle.expand_laws.proofs.Weights.{total, listed_total, once_in_both}

-- ---- sums over lists

pub listed_append : (f : ℕ → ℕ) (js ks : List ℕ) → listed_total f (js ++ ks) ≡ listed_total f js + listed_total f ks
unfolding listed_total
listed_append f [] ks = omega arith
listed_append f (j ∷ js) ks = let r = listed_append f js ks in omega (arith, r)

pub listed_flat : (A : Type 0) (f : ℕ → ℕ) (g : A → List ℕ) (xs : List A) → listed_total f (flat_map g xs) ≡ sum_by (λ x. listed_total f (g x)) xs
unfolding listed_total
listed_flat A f g [] = refl
listed_flat A f g (x ∷ xs) =
    let a = listed_append f (g x) (flat_map g xs) in
    let b = listed_flat A f g xs in
    let c = sum_by-cons (λ y. listed_total f (g y)) x xs in
    omega (arith, a, b, c)

pub sum_both : (A : Type 0) (f g : A → ℕ) (xs : List A) → sum_by f xs + sum_by g xs ≡ sum_by (λ x. f x + g x) xs
sum_both A f g [] = refl
sum_both A f g (x ∷ xs) =
    let a = sum_by-cons f x xs in
    let b = sum_by-cons g x xs in
    let c = sum_by-cons (λ y. f y + g y) x xs in
    let d = sum_both A f g xs in
    omega (arith, a, b, c, d)

-- ---- what is named once

module _ (n : ℕ) where
  all_low : (js : List ℕ) → ((k : ℕ) → n ≤ k → counted k js ≡ 0) → AllByRecursion (λ j. j < n) js
  all_low [] none = tt
  all_low (j ∷ js) none =
      by (cases_lt j n)
      (all_low js (λ k high. let here = none k high in let split = times_append k (j ∷ []) js in omega (arith, here, split)))
    where
      by : (j < n) ⊎ (n ≤ j) → AllByRecursion (λ k. k < n) js → AllByRecursion (λ k. k < n) (j ∷ js)
      by (inl low) rest = (low, rest)
      by (inr high) rest = absurd (let here = none j high in let one = times_same j j js refl in omega (arith, here, one))

-- two lists in which each number below a count stands once
pub record Parted (n : ℕ) (js ks : List ℕ) : Type 0 where
  pub first_low : AllByRecursion (λ j. j < n) js
  pub second_low : AllByRecursion (λ j. j < n) ks
  pub once : (k : ℕ) → k < n → times k js + times k ks ≡ 1

pub parted : (n : ℕ) (js ks : List ℕ) → EachOnce n (js ++ ks) → Parted n js ks
parted n js ks each = record {
  first_low = all_low n js (λ k high. let a = each.above k high in let b = times_append k js ks in omega (arith, a, b));
  second_low = all_low n ks (λ k high. let a = each.above k high in let b = times_append k js ks in omega (arith, a, b));
  once = λ k low. let a = each.within k low in let b = times_append k js ks in let c = times_count k js in let d = times_count k ks in omega (arith, a, b, c, d);
}

pub turned : (n : ℕ) (js ks : List ℕ) → EachOnce n (js ++ ks) → EachOnce n (ks ++ js)
turned n js ks each = record {
  within = λ k low. let a = each.within k low in let b = times_append k js ks in let c = times_append k ks js in omega (arith, a, b, c);
  above = λ k high. let a = each.above k high in let b = times_append k js ks in let c = times_append k ks js in omega (arith, a, b, c);
}

low_append : (n : ℕ) (js ks : List ℕ) → AllByRecursion (λ j. j < n) js → AllByRecursion (λ j. j < n) ks → AllByRecursion (λ j. j < n) (js ++ ks)
low_append n [] ks a b = b
low_append n (j ∷ js) ks a b = (a.0, low_append n js ks a.1 b)

low_more : (k n : ℕ) (js : List ℕ) → k ≤ n → AllByRecursion (λ j. j < k) js → AllByRecursion (λ j. j < n) js
low_more k n [] le a = tt
low_more k n (j ∷ js) le a = let b = a.0 in (omega (arith, le, b), low_more k n js le a.1)

same_total : (f g : ℕ → ℕ) (js : List ℕ) (k : ℕ) → AllByRecursion (λ j. j < k) js → ((j : ℕ) → j < k → f j ≡ g j) → listed_total f js ≡ listed_total g js
unfolding listed_total
same_total f g [] k below same = refl
same_total f g (j ∷ js) k below same = let h = same j below.0 in let r = same_total f g js k below.1 same in omega (arith, h, r)

-- ---- what an item weighs

module _ (A : Type 0) (own : A → ℕ) (children : A → List ℕ) (items : List A) where
  -- what an item names stands before it
  abbrev pub Ordered : Type 0
  Ordered = (k : ℕ) (x : A) → slice_get items k ≡ Some x → AllByRecursion (λ j. j < k) (children x)

  abbrev weigh_item : (ℕ → ℕ) → Option A → ℕ
  weigh_item f None = 0
  weigh_item f (Some x) = own x + listed_total f (children x)

  abbrev weigh : ℕ → ℕ → ℕ
  weigh zero k = 0
  weigh (suc depth) k = weigh_item (weigh depth) (slice_get items k)

  -- the item at a place, with all that it names
  abbrev pub weight : ℕ → ℕ
  weight k = weigh (length items) k

module _ (A : Type 0) (own : A → ℕ) (children : A → List ℕ) (items : List A) (ordered : Ordered A own children items) where
  same_item : (f g : ℕ → ℕ) (k : ℕ) (o : Option A) → slice_get items k ≡ o → ((j : ℕ) → j < k → f j ≡ g j)
      → weigh_item A own children items f o ≡ weigh_item A own children items g o
  same_item f g k None e same = refl
  same_item f g k (Some x) e same = ap (λ m. own x + m) (same_total f g (children x) k (ordered k x e) same)

  -- however deep, if deep enough
  deeper : (d e k : ℕ) → k < d → k < e → weigh A own children items d k ≡ weigh A own children items e k
  deeper zero e k l m = absurd (omega (arith, l))
  deeper (suc d) zero k l m = absurd (omega (arith, m))
  deeper (suc d) (suc e) k l m =
      same_item (weigh A own children items d) (weigh A own children items e) k (slice_get items k) refl
      (λ j less. deeper d e j (omega (arith, less, l)) (omega (arith, less, m)))

  pub weight_at : (k : ℕ) (x : A) → slice_get items k ≡ Some x
      → weight A own children items k ≡ own x + listed_total (weight A own children items) (children x)
  weight_at k x e =
      let within = slice_get_within items k x e in
      deeper (length items) (suc (length items)) k within (omega (arith, within)) ∙ ap (weigh_item A own children items (weight A own children items)) e

  all_weights : (k : ℕ) (xs : List A)
      → ((i : ℕ) (x : A) → slice_get xs i ≡ Some x → weight A own children items (k + i) ≡ own x + listed_total (weight A own children items) (children x))
      → total (weight A own children items) k (length xs) ≡ sum_by own xs + listed_total (weight A own children items) (flat_map children xs)
  unfolding total listed_total
  all_weights k [] e = refl
  all_weights k (x ∷ xs) e =
      let f = weight A own children items in
      let here = e 0 x refl in
      let same : f (k + 0) ≡ f k = ap f (omega arith) in
      let rest = all_weights (k + 1) xs (λ i y h. ap f (omega arith) ∙ e (suc i) y h) in
      let both = listed_append f (children x) (flat_map children xs) in
      let first = sum_by-cons own x xs in
      omega (arith, here, same, rest, both, first)

  -- the roots weigh what all items weigh by themselves
  pub weighed : (roots : List ℕ) → Parted (length items) roots (flat_map children items)
      → listed_total (weight A own children items) roots ≡ sum_by own items
  weighed roots p =
      let f = weight A own children items in
      let n = length items in
      let both : listed_total f roots + listed_total f (flat_map children items) ≡ total f 0 n =
      once_in_both f n roots (flat_map children items) p.first_low p.second_low p.once in
      let all = all_weights 0 items (λ i x e. ap f (omega arith) ∙ weight_at i x e) in
      omega (arith, both, all)

-- what items name is low, where it stands before them
pub children_low : (A : Type 0) (children : A → List ℕ) (k : ℕ) (xs : List A) (n : ℕ) → n ≡ k + length xs
    → ((i : ℕ) (x : A) → slice_get xs i ≡ Some x → AllByRecursion (λ j. j < k + i) (children x)) → AllByRecursion (λ j. j < n) (flat_map children xs)
children_low A children k [] n e below = tt
children_low A children k (x ∷ xs) n e below =
    low_append n (children x) (flat_map children xs) (low_more (k + 0) n (children x) (omega (arith, e)) (below 0 x refl))
    (children_low A children (k + 1) xs n (omega (arith, e))
    (λ i y h. let s : k + suc i ≡ (k + 1) + i = omega arith in subst (λ b. AllByRecursion (λ j. j < b) (children y)) s (below (suc i) y h)))
