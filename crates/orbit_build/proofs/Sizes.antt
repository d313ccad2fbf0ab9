-- A form's term has no more literals and sums than the form has nodes, since each node is part of one other at most.
use Rattle.std.proofs.Common.{◌≡◌, ℕ, zero, suc, ◌+◌, ◌*◌, ◌<◌, ◌≤◌, Bool, true, false, List, [], ◌∷◌, ◌++◌, length, slice_get, Option, Some, None, refl, sym, ap, ◌∙◌, subst, arith, le_trans, cond}
use Rattle.std.specs.Prelude.{◌==◌, All, EachIndex, sum_by, count_by, if◌then◌else◌}
use Rattle.std.specs.List.{flat_map, AllByRecursion}
use Rattle.std.proofs.Math.Nat.{mul-le-mul_right}
use Rattle.std.proofs.lemmas.Bool.{eq-eqb, ne_eqb, eqb-true, eqb-false}
use Rattle.std.proofs.lemmas.List.Sums.{sum_by-cons, sum_by-append}
use Rattle.std.proofs.lemmas.List.Elements.{recursion_from_All}
use Rattle.t_base.specs.declared.builtins.Builtin.TheVariants.{Add}
use Rattle.t_core.specs.declared.forms.Core.{Core}
use Rattle.t_core.specs.declared.forms.Core.TheVariants as Node
use Rattle.t_core.specs.Nodes.{places_of}
use Rattle.t_core.specs.Whole.{IsTree}
use Rattle.orbit_build.specs.Sums.{Term, Literal, Sum, IsTerm}

-- the literals and sums of a term
abbrev pub term_nodes : Term → ℕ
term_nodes (Literal v) = 1
term_nodes (Sum a b) = term_nodes a + term_nodes b + 1

below_append : (P : ℕ → Type 0) (ps qs : List ℕ) → AllByRecursion P ps → AllByRecursion P qs → AllByRecursion P (ps ++ qs)
below_append P [] qs h k = k
below_append P (p ∷ ps) qs h k = (h.0, below_append P ps qs h.1 k)

module _ (nodes : List Core) (before : (k : ℕ) (node : Core) → slice_get nodes k ≡ Some node → All (λ place. place < k) (places_of node))
    (terms : (k : ℕ) → k < length nodes → (t : Term) × IsTerm nodes k t) where
  abbrev size_of : (ℕ → ℕ) → Option Core → ℕ
  size_of f None = 1
  size_of f (Some node) = 1 + sum_by f (places_of node)

  abbrev size_at : ℕ → ℕ → ℕ
  size_at zero k = 0
  size_at (suc n) k = size_of (size_at n) (slice_get nodes k)

  size_term : (t : Term) (n k : ℕ) → IsTerm nodes k t → k < n → size_at n k ≡ term_nodes t
  size_term (Literal v) zero k h lt = absurd (omega arith)
  size_term (Sum a b) zero k h lt = absurd (omega arith)
  size_term (Literal v) (suc n) k h lt = ap (size_of (size_at n)) h
  size_term (Sum a b) (suc n) k h lt =
      let i = h.0 in
      let j = h.1 in
      let li = h.3 in
      let lj = h.4 in
      let x = size_term a n i h.5 (omega arith) in
      let y = size_term b n j h.6 (omega arith) in
      ap (size_of (size_at n)) h.2 ∙ omega (arith, x, y)

  abbrev w : ℕ → ℕ
  w k = size_at (length nodes) k

  closed_by : (k : ℕ) (t : Term) → k < length nodes → IsTerm nodes k t → w k ≡ size_of w (slice_get nodes k)
  closed_by k (Literal v) lt h = size_term (Literal v) (length nodes) k h lt ∙ ap (size_of w) (sym h)
  closed_by k (Sum a b) lt h =
      let i = h.0 in
      let j = h.1 in
      let li = h.3 in
      let lj = h.4 in
      let x = size_term a (length nodes) i h.5 (omega arith) in
      let y = size_term b (length nodes) j h.6 (omega arith) in
      let z = size_term (Sum a b) (length nodes) k h lt in
      let e : w k ≡ size_of w (Some (Node.Prim Add (i ∷ j ∷ []))) = omega (arith, x, y, z) in
      e ∙ ap (size_of w) (sym h.2)

  closed : (k : ℕ) → k < length nodes → w k ≡ size_of w (slice_get nodes k)
  closed k lt = let s = terms k lt in closed_by k s.0 lt s.1

  -- the sum of the values at so many places from a first one on
  abbrev span : (ℕ → ℕ) → ℕ → ℕ → ℕ
  span f at zero = 0
  span f at (suc m) = f at + span f (suc at) m

  all_nodes : (xs : List Core) (at : ℕ) → ((k : ℕ) → slice_get nodes (at + k) ≡ slice_get xs k) → at + length xs ≤ length nodes → span w at (length xs) ≡ length xs + sum_by w (flat_map places_of xs)
  all_nodes [] at same le = refl
  all_nodes (x ∷ xs) at same le =
      let here : slice_get nodes at ≡ Some x = subst (λ (k : ℕ). slice_get nodes k ≡ Some x) (let i : at + 0 ≡ at = omega arith in i) (same 0) in
      let e : w at ≡ 1 + sum_by w (places_of x) = closed at (omega (arith, le)) ∙ ap (size_of w) here in
      let rest = all_nodes xs (suc at) (λ k. subst (λ (i : ℕ). slice_get nodes i ≡ slice_get xs k) (let i : at + suc k ≡ suc at + k = omega arith in i) (same (suc k))) (omega (arith, le)) in
      let both = sum_by-append w (places_of x) (flat_map places_of xs) in
      omega (arith, e, rest, both)

  span_le : (f h : ℕ → ℕ) (m at : ℕ) → ((k : ℕ) → k < at + m → f k ≤ h k) → span f at m ≤ span h at m
  span_le f h zero at le = omega arith
  span_le f h (suc m) at le = let a = le at (omega arith) in let b = span_le f h m (suc at) (λ k lt. le k (omega (arith, lt))) in omega (arith, a, b)

  one_more : (f h : ℕ → ℕ) (q m at : ℕ) → at ≤ q → q < at + m → ((k : ℕ) → f k ≤ h k) → f q + w q ≤ h q → w q + span f at m ≤ span h at m
  one_more f h q zero at lo hi le more = absurd (omega (arith, lo, hi))
  one_more f h q (suc m) at lo hi le more = by_place (q == at) refl (λ past. one_more f h q m (suc at) past (omega (arith, hi)) le more)
    where
      by_place : (b : Bool) → (q == at) ≡ b → (suc at ≤ q → w q + span f (suc at) m ≤ span h (suc at) m) → w q + span f at (suc m) ≤ span h at (suc m)
      by_place true e rest =
          let same : q ≡ at = eqb-true q at e in
          let others = span_le f h m (suc at) (λ k lt. le k) in
          let first : f at + w q ≤ h at = subst (λ (k : ℕ). f k + w q ≤ h k) same more in
          omega (arith, others, first)
      by_place false e rest =
          let other = eqb-false q at e in
          let others = rest (omega (arith, lo, other)) in
          let first = le at in
          omega (arith, others, first)

  abbrev count : List ℕ → ℕ → ℕ
  count qs k = count_by (λ place. place == k) qs

  count_cons : (q : ℕ) (qs : List ℕ) (k : ℕ) → count (q ∷ qs) k ≡ cond (q == k) 1 0 + count qs k
  count_cons q qs k = sum_by-cons (λ (place : ℕ). cond (place == k) 1 0) q qs

  once_more : (c g v : ℕ) → c ≡ 1 + g → g * v + v ≤ c * v
  once_more c g v e = subst (λ (n : ℕ). g * v + v ≤ n * v) (sym e) (omega arith)

  -- the sum over places, each as often as it stands there
  exchange : (qs : List ℕ) → AllByRecursion (λ q. q < length nodes) qs → sum_by w qs ≤ span (λ k. count qs k * w k) 0 (length nodes)
  exchange [] below = omega arith
  exchange (q ∷ qs) below =
      let rest = exchange qs below.1 in
      let first = sum_by-cons w q qs in
      let step = one_more (λ k. count qs k * w k) (λ k. count (q ∷ qs) k * w k) q (length nodes) 0 (omega arith) (omega (arith, below.0))
      (λ k. let e = count_cons q qs k in mul-le-mul_right (w k) (omega (arith, e)))
      (once_more (count (q ∷ qs) q) (count qs q) (w q) (count_cons q qs q ∙ ap (λ (b : Bool). cond b 1 0 + count qs q) (eq-eqb q q refl))) in
      omega (arith, rest, first, step)

  all_below : (xs : List Core) (at : ℕ) → ((k : ℕ) → slice_get nodes (at + k) ≡ slice_get xs k) → at + length xs ≤ length nodes → AllByRecursion (λ q. q < length nodes) (flat_map places_of xs)
  all_below [] at same le = tt
  all_below (x ∷ xs) at same le =
      let here : slice_get nodes at ≡ Some x = subst (λ (k : ℕ). slice_get nodes k ≡ Some x) (let i : at + 0 ≡ at = omega arith in i) (same 0) in
      below_append (λ q. q < length nodes) (places_of x) (flat_map places_of xs) (below_more (places_of x) (recursion_from_All (λ place. place < at) (places_of x) (before at x here)))
      (all_below xs (suc at) (λ k. subst (λ (i : ℕ). slice_get nodes i ≡ slice_get xs k) (let i : at + suc k ≡ suc at + k = omega arith in i) (same (suc k))) (omega (arith, le)))
    where
      below_more : (ps : List ℕ) → AllByRecursion (λ place. place < at) ps → AllByRecursion (λ q. q < length nodes) ps
      below_more [] h = tt
      below_more (p ∷ ps) h = (omega (arith, h.0, le), below_more ps h.1)

  root_once : (root : ℕ) (qs : List ℕ) → EachIndex nodes (λ k. count qs k ≡ (if k == root then 0 else 1)) → (k : ℕ) → k < length nodes → count (root ∷ qs) k ≤ 1
  root_once root qs named k lt = by_place (root == k) refl
    where
      by_place : (b : Bool) → (root == k) ≡ b → count (root ∷ qs) k ≤ 1
      by_place true e =
          let none : count qs k ≡ 0 = named k lt ∙ ap (λ (b : Bool). if b then 0 else 1) (eq-eqb k root (sym (eqb-true root k e))) in
          let all = count_cons root qs k ∙ ap (λ (b : Bool). cond b 1 0 + count qs k) e in
          omega (arith, none, all)
      by_place false e =
          let one : count qs k ≡ 1 = named k lt ∙ ap (λ (b : Bool). if b then 0 else 1) (ne_eqb k root (λ x. eqb-false root k e (sym x))) in
          let all = count_cons root qs k ∙ ap (λ (b : Bool). cond b 1 0 + count qs k) e in
          omega (arith, one, all)

  -- a form's term has no more literals and sums than the form has nodes
  pub term_few : (root : ℕ) (t : Term) → IsTree nodes root → IsTerm nodes root t → term_nodes t ≤ length nodes
  term_few root t tree h =
      let qs = flat_map places_of nodes in
      let same = λ (k : ℕ). ap (λ (i : ℕ). slice_get nodes i) (let i : 0 + k ≡ k = omega arith in i) in
      let whole = all_nodes nodes 0 same (omega arith) in
      let parts = exchange (root ∷ qs) (tree.root_there, all_below nodes 0 same (omega arith)) in
      let once = span_le (λ k. count (root ∷ qs) k * w k) w (length nodes) 0 (λ k lt. let one = root_once root qs tree.named_once k (omega (arith, lt)) in single (count (root ∷ qs) k) (w k) one) in
      let first = sum_by-cons w root qs in
      let size = size_term t (length nodes) root h tree.root_there in
      omega (arith, whole, parts, once, first, size)
    where
      single : (c v : ℕ) → c ≤ 1 → c * v ≤ v
      single c v le = le_trans (mul-le-mul_right v le) (omega arith)
