-- The sum over the nodes of a tree is the sum over what its root is made of, since each node is part of one other at most.
use Rattle.std.proofs.Common.{◌≡◌, ℕ, zero, suc, ◌+◌, ◌*◌, ◌<◌, ◌≤◌, ◌==◌, Bool, true, false, cond, List, [], ◌∷◌, ◌++◌, length, slice_get, count_by, Option, Some, None, refl, sym, ap, ◌∙◌, subst, arith}
use Rattle.std.specs.List.{flat_map, sum_by, AllByRecursion}
use Rattle.std.proofs.lemmas.Bool.{eq-eqb, ne_eqb, eqb-true, eqb-false}
use Rattle.std.proofs.lemmas.List.Sums.{sum_by-cons, sum_by-append}
use Rattle.std.proofs.lemmas.List.Elements.{recursion_from_All}
use Rattle.std.proofs.lemmas.Option.{slice_get_within}
use Rattle.t_core.specs.declared.forms.Core.{Core}
use Rattle.t_core.specs.Nodes.{places_of}
use Rattle.t_core.specs.Whole.{IsTree}
use Rattle.expand_laws.proofs.Paired.{named}

-- ---- sums over places

-- the sum of the values at so many places from a first one on
abbrev span : (ℕ → ℕ) → ℕ → ℕ → ℕ
span f at zero = 0
span f at (suc m) = f at + span f (suc at) m

span_none : (f : ℕ → ℕ) (at m : ℕ) → ((k : ℕ) → f k ≡ 0) → span f at m ≡ 0
span_none f at zero none = refl
span_none f at (suc m) none =
    let a : f at ≡ 0 = none at in
    let b : span f (suc at) m ≡ 0 = span_none f (suc at) m none in
    omega arith

span_same : (f h : ℕ → ℕ) (m at : ℕ) → ((k : ℕ) → at ≤ k → k < at + m → f k ≡ h k) → span f at m ≡ span h at m
span_same f h zero at same = refl
span_same f h (suc m) at same =
    let a : f at ≡ h at = same at (omega arith) (omega arith) in
    let b : span f (suc at) m ≡ span h (suc at) m = span_same f h m (suc at) (λ k low high. same k (omega (arith, low)) (omega (arith, high))) in
    omega (arith, a, b)

-- a value more at one place
record IsMore (f h : ℕ → ℕ) (q v : ℕ) : Type 0 where
  here : h q ≡ v + f q
  elsewhere : (k : ℕ) → (q == k) ≡ false → h k ≡ f k

away : (q k : ℕ) → q < k → (q == k) ≡ false
away q k below = ne_eqb q k (λ (e : q ≡ k). absurd (omega (arith, below, e)))

away_below : (q k : ℕ) → k < q → (q == k) ≡ false
away_below q k below = ne_eqb q k (λ (e : q ≡ k). absurd (omega (arith, below, e)))

span_past : (f h : ℕ → ℕ) (q v m at : ℕ) → q < at → IsMore f h q v → span h at m ≡ span f at m
span_past f h q v m at past more = span_same h f m at (λ k low high. more.elsewhere k (away q k (omega (arith, low, past))))

span_step : (f h : ℕ → ℕ) (q v m at : ℕ) → (b : Bool) → (q == at) ≡ b → at ≤ q → IsMore f h q v → (suc at ≤ q → span h (suc at) m ≡ v + span f (suc at) m)
    → span h at (suc m) ≡ v + span f at (suc m)
span_step f h q v m at true e low more rest =
    let same : q ≡ at = eqb-true q at e in
    let first : h at ≡ v + f at = subst (λ (k : ℕ). h k ≡ v + f k) same more.here in
    let others : span h (suc at) m ≡ span f (suc at) m = span_past f h q v m (suc at) (omega (arith, same)) more in
    omega (arith, first, others)
span_step f h q v m at false e low more rest =
    let other = eqb-false q at e in
    let first : h at ≡ f at = more.elsewhere at e in
    let others : span h (suc at) m ≡ v + span f (suc at) m = rest (omega (arith, low, other)) in
    omega (arith, first, others)

span_more : (f h : ℕ → ℕ) (q v m at : ℕ) → at ≤ q → q < at + m → IsMore f h q v → span h at m ≡ v + span f at m
span_more f h q v zero at low high more = absurd (omega (arith, low, high))
span_more f h q v (suc m) at low high more = span_step f h q v m at (q == at) refl low more (λ past. span_more f h q v m (suc at) past (omega (arith, high)) more)

-- ---- sums over lists of places

abbrev count : List ℕ → ℕ → ℕ
count qs k = count_by (λ place. place == k) qs

count_cons : (q : ℕ) (qs : List ℕ) (k : ℕ) → count (q ∷ qs) k ≡ cond (q == k) 1 0 + count qs k
count_cons q qs k = sum_by-cons (λ (place : ℕ). cond (place == k) 1 0) q qs

times_more : (a b v : ℕ) → a ≡ 1 + b → a * v ≡ v + b * v
times_more a b v e = subst (λ (n : ℕ). n * v ≡ v + b * v) (sym e) (omega arith)

times_same : (a b v : ℕ) → a ≡ b → a * v ≡ b * v
times_same a b v e = ap (λ n. n * v) e

one_more : (w : ℕ → ℕ) (q : ℕ) (qs : List ℕ) → IsMore (λ k. count qs k * w k) (λ k. count (q ∷ qs) k * w k) q (w q)
one_more w q qs = record {
  here = times_more (count (q ∷ qs) q) (count qs q) (w q) (count_cons q qs q ∙ ap (λ (b : Bool). cond b 1 0 + count qs q) (eq-eqb q q refl));
  elsewhere = λ k e. times_same (count (q ∷ qs) k) (count qs k) (w k) (
      let a : count (q ∷ qs) k ≡ 0 + count qs k = count_cons q qs k ∙ ap (λ (b : Bool). cond b 1 0 + count qs k) e in omega (arith, a)
      );
}

-- the sum over the places, each as often as it stands there
exchange : (w : ℕ → ℕ) (n : ℕ) (qs : List ℕ) → AllByRecursion (λ q. q < n) qs → sum_by w qs ≡ span (λ k. count qs k * w k) 0 n
exchange w n [] below = sym (span_none (λ k. count [] k * w k) 0 n (λ k. omega arith))
exchange w n (q ∷ qs) below =
    let rest : sum_by w qs ≡ span (λ k. count qs k * w k) 0 n = exchange w n qs below.1 in
    let high : q < 0 + n = omega (arith, below.0) in
    sum_by-cons w q qs ∙ ap (λ s. w q + s) rest
    ∙ sym (span_more (λ k. count qs k * w k) (λ k. count (q ∷ qs) k * w k) q (w q) n 0 (omega arith) high (one_more w q qs))

sum_same : (f h : ℕ → ℕ) (xs : List ℕ) → AllByRecursion (λ x. f x ≡ h x) xs → sum_by f xs ≡ sum_by h xs
sum_same f h [] same = refl
sum_same f h (x ∷ xs) same =
    sum_by-cons f x xs ∙ ap (λ s. s + sum_by f xs) same.0 ∙ ap (λ s. h x + s) (sum_same f h xs same.1) ∙ sym (sum_by-cons h x xs)

-- ---- the nodes of a tree

below_append : (P : ℕ → Type 0) (ps qs : List ℕ) → AllByRecursion P ps → AllByRecursion P qs → AllByRecursion P (ps ++ qs)
below_append P [] qs h k = k
below_append P (p ∷ ps) qs h k = (h.0, below_append P ps qs h.1 k)

each_weaker : (P Q : ℕ → Type 0) (xs : List ℕ) → ((x : ℕ) → P x → Q x) → AllByRecursion P xs → AllByRecursion Q xs
each_weaker P Q [] k h = tt
each_weaker P Q (x ∷ xs) k h = (k x h.0, each_weaker P Q xs k h.1)

module _ (weight : Core → ℕ) (nodes : List Core) where
  abbrev size_of : (ℕ → ℕ) → Option Core → ℕ
  size_of f None = 0
  size_of f (Some c) = weight c + sum_by f (places_of c)

  abbrev size_at : ℕ → ℕ → ℕ
  size_at zero k = 0
  size_at (suc n) k = size_of (size_at n) (slice_get nodes k)

  -- the node at a place, and all that it is made of
  abbrev pub total : ℕ → ℕ
  total k = size_at (length nodes) k

module _ (weight : Core → ℕ) (nodes : List Core) (root : ℕ) (tree : IsTree nodes root) where
  places_below : (k : ℕ) (c : Core) → slice_get nodes k ≡ Some c → AllByRecursion (λ place. place < k) (places_of c)
  places_below k c h = recursion_from_All (λ place. place < k) (places_of c) (tree.parts_before k c h)

  sizes_same : (n m k : ℕ) → k ≤ n → k ≤ m → ((p : ℕ) → p < n → p < m → size_at weight nodes n p ≡ size_at weight nodes m p) → (o : Option Core) → slice_get nodes k ≡ o
      → size_of weight nodes (size_at weight nodes n) o ≡ size_of weight nodes (size_at weight nodes m) o
  sizes_same n m k low high before None e = refl
  sizes_same n m k low high before (Some c) e =
      ap (λ s. weight c + s)
      (sum_same (size_at weight nodes n) (size_at weight nodes m) (places_of c)
      (each_weaker (λ place. place < k) (λ p. size_at weight nodes n p ≡ size_at weight nodes m p) (places_of c)
      (λ p below. before p (omega (arith, below, low)) (omega (arith, below, high))) (places_below k c e)))

  -- more depth than the place changes nothing
  stable : (n m k : ℕ) → k < n → k < m → size_at weight nodes n k ≡ size_at weight nodes m k
  stable zero m k low high = absurd (omega (arith, low))
  stable (suc n) zero k low high = absurd (omega (arith, high))
  stable (suc n) (suc m) k low high = sizes_same n m k (omega (arith, low)) (omega (arith, high)) (λ p a b. stable n m p a b) (slice_get nodes k) refl

  pub total_is : (k : ℕ) (c : Core) → slice_get nodes k ≡ Some c → total weight nodes k ≡ weight c + sum_by (total weight nodes) (places_of c)
  total_is k c h =
      let below : k < length nodes = slice_get_within nodes k c h in
      stable (length nodes) (suc (length nodes)) k below (omega (arith, below)) ∙ ap (size_of weight nodes (size_at weight nodes (length nodes))) h

  all_nodes : (xs : List Core) (at : ℕ) → ((k : ℕ) → slice_get nodes (at + k) ≡ slice_get xs k)
      → span (total weight nodes) at (length xs) ≡ sum_by weight xs + sum_by (total weight nodes) (flat_map places_of xs)
  all_nodes [] at same = refl
  all_nodes (x ∷ xs) at same =
      let here : slice_get nodes at ≡ Some x = subst (λ (k : ℕ). slice_get nodes k ≡ Some x) (let i : at + 0 ≡ at = omega arith in i) (same 0) in
      let e : total weight nodes at ≡ weight x + sum_by (total weight nodes) (places_of x) = total_is at x here in
      let rest : span (total weight nodes) (suc at) (length xs) ≡ sum_by weight xs + sum_by (total weight nodes) (flat_map places_of xs) =
      all_nodes xs (suc at) (λ k. subst (λ (i : ℕ). slice_get nodes i ≡ slice_get xs k) (let i : at + suc k ≡ suc at + k = omega arith in i) (same (suc k)))
      in
      let both = sum_by-append (total weight nodes) (places_of x) (flat_map places_of xs) in
      let first = sum_by-cons weight x xs in
      omega (arith, e, rest, both, first)

  all_below : (xs : List Core) (at : ℕ) → ((k : ℕ) → slice_get nodes (at + k) ≡ slice_get xs k) → AllByRecursion (λ q. q < length nodes) (flat_map places_of xs)
  all_below [] at same = tt
  all_below (x ∷ xs) at same =
      let here : slice_get nodes at ≡ Some x = subst (λ (k : ℕ). slice_get nodes k ≡ Some x) (let i : at + 0 ≡ at = omega arith in i) (same 0) in
      let there : at < length nodes = slice_get_within nodes at x here in
      below_append (λ q. q < length nodes) (places_of x) (flat_map places_of xs)
      (each_weaker (λ place. place < at) (λ q. q < length nodes) (places_of x) (λ p low. omega (arith, low, there)) (places_below at x here))
      (all_below xs (suc at) (λ k. subst (λ (i : ℕ). slice_get nodes i ≡ slice_get xs k) (let i : at + suc k ≡ suc at + k = omega arith in i) (same (suc k))))

  once_by : (k : ℕ) → k < length nodes → (b : Bool) → (root == k) ≡ b → count (root ∷ flat_map places_of nodes) k ≡ 1
  once_by k below true e =
      let none : count (flat_map places_of nodes) k ≡ 0 = named nodes root k tree below true (eq-eqb k root (sym (eqb-true root k e))) in
      let all = count_cons root (flat_map places_of nodes) k ∙ ap (λ (b : Bool). cond b 1 0 + count (flat_map places_of nodes) k) e in
      omega (arith, none, all)
  once_by k below false e =
      let one : count (flat_map places_of nodes) k ≡ 1 = named nodes root k tree below false (ne_eqb k root (λ x. eqb-false root k e (sym x))) in
      let all = count_cons root (flat_map places_of nodes) k ∙ ap (λ (b : Bool). cond b 1 0 + count (flat_map places_of nodes) k) e in
      omega (arith, one, all)

  single : (k : ℕ) → k < length nodes → count (root ∷ flat_map places_of nodes) k * total weight nodes k ≡ total weight nodes k
  single k below =
      let e : count (root ∷ flat_map places_of nodes) k * total weight nodes k ≡ 1 * total weight nodes k =
      times_same (count (root ∷ flat_map places_of nodes) k) 1 (total weight nodes k) (once_by k below (root == k) refl)
      in
      omega (arith, e)

  pub total_of_root : total weight nodes root ≡ sum_by weight nodes
  total_of_root =
      let qs : List ℕ = flat_map places_of nodes in
      let same = λ (k : ℕ). ap (λ (i : ℕ). slice_get nodes i) (let i : 0 + k ≡ k = omega arith in i) in
      let whole : span (total weight nodes) 0 (length nodes) ≡ sum_by weight nodes + sum_by (total weight nodes) qs = all_nodes nodes 0 same in
      let parts : sum_by (total weight nodes) (root ∷ qs) ≡ span (λ k. count (root ∷ qs) k * total weight nodes k) 0 (length nodes) =
      exchange (total weight nodes) (length nodes) (root ∷ qs) (tree.root_there, all_below nodes 0 same)
      in
      let once : span (λ k. count (root ∷ qs) k * total weight nodes k) 0 (length nodes) ≡ span (total weight nodes) 0 (length nodes) =
      span_same (λ k. count (root ∷ qs) k * total weight nodes k) (total weight nodes) (length nodes) 0 (λ k low high. single k (omega (arith, high)))
      in
      let first = sum_by-cons (total weight nodes) root qs in
      omega (arith, whole, parts, once, first)
