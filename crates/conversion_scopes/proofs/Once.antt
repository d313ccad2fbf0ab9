-- Where terms stand in order, none is reached twice, and nothing that is bound once is bound twice there.
use Rattle.std.specs.Prelude.{◌≢◌, AllPairs, nat_lt}
use Rattle.std.specs.List.{AllByRecursion, flat_map}
use Rattle.std.specs.Option.{option_map_or}
use Rattle.std.proofs.Common.{◌≡◌, ℕ, zero, suc, ◌+◌, ◌≤◌, ◌<◌, ◌==◌, Bool, true, false, not, if◌then◌else◌, List, [], ◌∷◌, ◌++◌, length, take, Option, Some, None, slice_get, inl, inr, refl, sym, ap, ◌∙◌, arith}
use Rattle.std.proofs.lemmas.Bool.{eqb-true, ltb-true, ltb-false, cases_lt}
use Rattle.std.proofs.lemmas.List.Kept.{AllPairs-cons}
use Rattle.std.proofs.lemmas.Option.{slice_get_within}
use Rattle.cps_ir.specs.declared.terms.Lam.{Lam}
use Rattle.cps_ir.specs.declared.terms.Term.{Term}
use Rattle.cps_ir.specs.declared.terms.Cps.{Cps}
use Rattle.cps_ir.specs.Parts.{Part, lams_of, lambda_at, lambdas_of, parts_of, first_lams, root_parts, root_lams, depth_of, walked, walked_within, reached_terms, reached_lams, own_binders, lam_binders, binders}
use Rattle.cps_ir.proofs.ProperLists.{some_same, there_below, each_of}
use Rattle.cps_ir.proofs.Closed.{same_number, all_of_each}
use Rattle.cps_ir.proofs.Counts.{tot, tot_append, tot_each, tot_same, tot_map, count}
use Rattle.cps_ir.proofs.Listed.{once_weighs, past_weighs, found_tot, joined_tot}
use Rattle.cps_walk.specs.Walks.{part_places, root_places}
use Rattle.cps_walk.proofs.Walked.{parts_placed, roots_placed}
use Rattle.cps_order.specs.Order.{one, tally, named_by, IsOrdered}
use Rattle.cps_order.proofs.Reached.{below_tally}
use Rattle.conversion_laws.specs.Owed.{IsOwed, named_lams}

-- ---- tallies

pub tally_append : (xs ys : List ℕ) (n : ℕ) → tally (xs ++ ys) n ≡ tally xs n + tally ys n
tally_append [] ys n = omega arith
tally_append (x ∷ xs) ys n = let h = tally_append xs ys n in omega (arith, h)

pub tally_tot : (xs : List ℕ) (n : ℕ) → tot (λ m. one (m == n)) xs ≡ tally xs n
tally_tot [] n = refl
tally_tot (x ∷ xs) n = ap (λ k. one (x == n) + k) (tally_tot xs n)

pub tally_flat : {X : Type 0} (f : X → List ℕ) (xs : List X) (n : ℕ) → tally (flat_map f xs) n ≡ tot (λ x. tally (f x) n) xs
tally_flat f [] n = refl
tally_flat f (x ∷ xs) n = let a = tally_append (f x) (flat_map f xs) n in let h = tally_flat f xs n in omega (arith, a, h)

pub one_same : (n : ℕ) → one (n == n) ≡ 1
one_same n = ap one (same_number n n refl)

-- ---- lists in which nothing stands twice

apart : (x : ℕ) (xs : List ℕ) → tally xs x ≡ 0 → AllByRecursion (λ y. x ≢ y) xs
apart x [] h = tt
apart x (y ∷ xs) h = (λ e. let s = one_same x in let t : one (y == x) ≡ one (x == x) = ap (λ z. one (z == x)) (sym e) in omega (arith, h, s, t), apart x xs (omega (arith, h)))

pub pairs_of : (xs : List ℕ) → ((n : ℕ) → tally xs n ≤ 1) → AllPairs (λ x y. x ≢ y) xs
pairs_of [] h = λ i j d lt within. absurd (omega (arith, within))
pairs_of (x ∷ xs) h =
    let here = h x in
    let s = one_same x in
    AllPairs-cons (λ y z. y ≢ z) x xs (all_of_each (λ y. x ≢ y) xs (apart x xs (omega (arith, here, s)))) (pairs_of xs (λ n. let k = h n in omega (arith, k)))

-- ---- one of a list

record Taken (xs : List ℕ) (t : ℕ) : Type 0 where
  rest : List ℕ
  sums : (f : ℕ → ℕ) → tot f xs ≡ f t + tot f rest

taken : (xs : List ℕ) (t : ℕ) → 1 ≤ tally xs t → Taken xs t
taken [] t h = absurd (omega (arith, h))
taken (x ∷ xs) t h = by (x == t) refl h (taken xs t)
  where
    by : (b : Bool) → (x == t) ≡ b → 1 ≤ one b + tally xs t → (1 ≤ tally xs t → Taken xs t) → Taken (x ∷ xs) t
    by true e h go = record { rest = xs; sums = λ f. ap (λ y. f y + tot f xs) (eqb-true x t e) }
    by false e h go = let r = go (omega (arith, h)) in record { rest = x ∷ r.rest; sums = λ f. let s = r.sums f in omega (arith, s) }

edge : (m n : ℕ) → one (m == n) + one (nat_lt n m) ≤ one (nat_lt n (suc m))
edge m n = by (m == n) (nat_lt n m) (nat_lt n (suc m)) refl refl refl
  where
    by : (b c d : Bool) → (m == n) ≡ b → nat_lt n m ≡ c → nat_lt n (suc m) ≡ d → one b + one c ≤ one d
    by true true d e f g = let s = eqb-true m n e in let l = ltb-true n m f in absurd (omega (arith, s, l))
    by true false true e f g = omega arith
    by false true true e f g = omega arith
    by false false d e f g = omega arith
    by true false false e f g = let s = eqb-true m n e in let l = ltb-false n (suc m) g in absurd (omega (arith, s, l))
    by false true false e f g = let s = ltb-true n m f in let l = ltb-false n (suc m) g in absurd (omega (arith, s, l))

one_or_none : (b : Bool) → one b ≤ 1
one_or_none true = omega arith
one_or_none false = omega arith

-- ---- what is walked

module _ (cps : Cps) where
  -- how often a place is walked from another one, nested at most so deep
  times : ℕ → ℕ → ℕ → ℕ
  times depth n t = tally (walked_within cps depth t) n

  parts_tot : (f : ℕ → ℕ) (term : Term) → tot (λ (p : Part). f p.at) (parts_of cps [] term) ≡ tot f (part_places cps term)
  parts_tot f term = sym (tot_map f (λ (p : Part). p.at) (parts_of cps [] term)) ∙ ap (tot f) (parts_placed cps term)

  opens : (n depth t : ℕ) (term : Term) → slice_get cps.terms.items t ≡ Some term → times (suc depth) n t ≡ one (t == n) + tot (times depth n) (part_places cps term)
  unfolding walked_within times
  opens n depth t term e =
      ap (λ o. one (t == n) + tally (option_map_or (λ s. flat_map (λ p. walked_within cps depth p.at) (parts_of cps [] s)) o []) n) e
      ∙ ap (λ k. one (t == n) + k) (tally_flat (λ p. walked_within cps depth p.at) (parts_of cps [] term) n ∙ parts_tot (λ u. tally (walked_within cps depth u) n) term)

  more : (n depth t : ℕ) → times depth n t ≤ times (suc depth) n t
  unfolding walked_within times
  more n zero t = omega arith
  more n (suc depth) t = by (slice_get cps.terms.items t) (λ u. more n depth u)
    where
      by : (o : Option Term) → ((u : ℕ) → tally (walked_within cps depth u) n ≤ tally (walked_within cps (suc depth) u) n)
          → one (t == n) + tally (option_map_or (λ s. flat_map (λ p. walked_within cps depth p.at) (parts_of cps [] s)) o []) n
          ≤ one (t == n) + tally (option_map_or (λ s. flat_map (λ p. walked_within cps (suc depth) p.at) (parts_of cps [] s)) o []) n
      by None go = omega arith
      by (Some s) go =
          let a = tally_flat (λ p. walked_within cps depth p.at) (parts_of cps [] s) n in
          let b = tally_flat (λ p. walked_within cps (suc depth) p.at) (parts_of cps [] s) n in
          let c = tot_each (λ (p : Part). tally (walked_within cps depth p.at) n) (λ (p : Part). tally (walked_within cps (suc depth) p.at) n) (parts_of cps [] s) (λ p. go p.at) in
          omega (arith, a, b, c)

  named_more : (m n : ℕ) (term : Term) → slice_get cps.terms.items m ≡ Some term → tally (named_by cps (take (suc m) cps.terms.items)) n ≡ tally (named_by cps (take m cps.terms.items)) n + tally (part_places cps term) n
  named_more m n term e = by cps.terms.items m e
    where
      by : (xs : List Term) (m : ℕ) → slice_get xs m ≡ Some term → tally (named_by cps (take (suc m) xs)) n ≡ tally (named_by cps (take m xs)) n + tally (part_places cps term) n
      by [] m e = none e
        where
          none : None ≡ Some term → tally (named_by cps (take (suc m) [])) n ≡ tally (named_by cps (take m [])) n + tally (part_places cps term) n
          none e = cc
      by (x ∷ xs) zero e = let a = tally_append (part_places cps x) [] n in let b : tally (part_places cps x) n ≡ tally (part_places cps term) n = ap (λ s. tally (part_places cps s) n) (some_same x term e) in omega (arith, a, b)
      by (x ∷ xs) (suc m) e =
          let a = tally_append (part_places cps x) (named_by cps (take (suc m) xs)) n in
          let b = tally_append (part_places cps x) (named_by cps (take m xs)) n in
          let h = by xs m e in
          omega (arith, a, b, h)

  module _ (ordered : IsOrdered cps) where
    fewer : (m : ℕ) (places : List ℕ) → m ≤ length cps.terms.items → ((n : ℕ) → 1 ≤ tally places n → n < m) → ((n : ℕ) → n < m → tally places n + tally (named_by cps (take m cps.terms.items)) n ≤ 1)
        → (n : ℕ) → tot (times (depth_of cps) n) places ≤ one (nat_lt n m)
    fewer zero [] le below few n = omega arith
    fewer zero (p ∷ places) le below few n = let s = one_same p in let lt = below p (omega (arith, s)) in absurd (omega (arith, lt))
    fewer (suc m) places le below few n = elim (cases_lt 0 (tally places m)) [
      | inl has ↦ there (there_below cps.terms.items m (omega (arith, le))) (taken places m has) (λ ps. fewer m ps (omega (arith, le)))
      | inr none ↦
          let h = fewer m places (omega (arith, le)) (λ k has. let lt = below k has in elim (cases_lt k m) [ inl low ↦ low | inr high ↦ let e : k ≡ m = omega (arith, lt, high) in let z : tally places k ≡ tally places m = ap (tally places) e in absurd (omega (arith, z, none, has)) ])
          (λ k lt. let f = few k (omega (arith, lt)) in let t = there_below cps.terms.items m (omega (arith, le)) in let g = named_more m k t.0 t.1 in omega (arith, f, g)) n in
          let e = edge m n in
          omega (arith, h, e)
    ]
      where
        there : (x : Term) × (slice_get cps.terms.items m ≡ Some x) → Taken places m
            → ((ps : List ℕ) → ((k : ℕ) → 1 ≤ tally ps k → k < m) → ((k : ℕ) → k < m → tally ps k + tally (named_by cps (take m cps.terms.items)) k ≤ 1) → (k : ℕ) → tot (times (depth_of cps) k) ps ≤ one (nat_lt k m))
            → tot (times (depth_of cps) n) places ≤ one (nat_lt n (suc m))
        there t r go =
            let parts = part_places cps t.0 in
            let rest_tally : (k : ℕ) → tally places k ≡ one (m == k) + tally r.rest k = λ k. sym (tally_tot places k) ∙ r.sums (λ l. one (l == k)) ∙ ap (λ l. one (m == k) + l) (tally_tot r.rest k) in
            let once : tally places m ≤ 1 = let f = few m (omega arith) in omega (arith, f) in
            let low : (k : ℕ) → 1 ≤ tally (parts ++ r.rest) k → k < m = λ k h.
            let a = tally_append parts r.rest k in
            let b = rest_tally k in
            elim (cases_lt 0 (tally parts k)) [
              | inl here ↦ below_tally m parts k (ordered.lower m t.0 t.1) here
              | inr none ↦
                  let lt = below k (omega (arith, a, b, h, none)) in
                  elim (cases_lt k m) [
                    | inl low ↦ low
                    | inr high ↦ let e : m ≡ k = omega (arith, lt, high) in let s = one_same m in let z : one (m == k) ≡ one (m == m) = ap (λ l. one (m == l)) (sym e) in let y : tally places k ≡ tally places m = ap (tally places) (sym e) in absurd (omega (arith, a, b, h, none, s, z, y, once))
                  ]
            ] in
            let count : (k : ℕ) → k < m → tally (parts ++ r.rest) k + tally (named_by cps (take m cps.terms.items)) k ≤ 1 = λ k lt.
            let a = tally_append parts r.rest k in
            let b = rest_tally k in
            let f = few k (omega (arith, lt)) in
            let g = named_more m k t.0 t.1 in
            omega (arith, a, b, f, g) in
            let h = go (parts ++ r.rest) low count n in
            let s = r.sums (times (depth_of cps) n) in
            let o = opens n (length cps.terms.items) m t.0 t.1 in
            let w = tot_each (times (length cps.terms.items) n) (times (depth_of cps) n) parts (more n (length cps.terms.items)) in
            let a = tot_append (times (depth_of cps) n) parts r.rest in
            let e = edge m n in
            omega (arith, h, s, o, w, a, e)

    all_taken : (xs : List Term) → take (length xs) xs ≡ xs
    all_taken [] = refl
    all_taken (x ∷ xs) = ap (λ ys. x ∷ ys) (all_taken xs)

    pub walked_once : (n : ℕ) → tally (walked cps) n ≤ 1
    unfolding times
    walked_once n =
        let few = fewer (length cps.terms.items) (root_places cps) (omega arith) (λ k h. below_tally (length cps.terms.items) (root_places cps) k ordered.roots h)
        (λ k lt. let once = ordered.once k lt in let e : tally (named_by cps (take (length cps.terms.items) cps.terms.items)) k ≡ tally (named_by cps cps.terms.items) k = ap (λ xs. tally (named_by cps xs) k) (all_taken cps.terms.items) in omega (arith, once, e)) n in
        let most = one_or_none (nat_lt n (length cps.terms.items)) in
        let flat = tally_flat (λ (p : Part). walked_within cps (depth_of cps) p.at) (root_parts cps) n in
        let same = sym (tot_map (times (depth_of cps) n) (λ (p : Part). p.at) (root_parts cps)) ∙ ap (tot (times (depth_of cps) n)) (roots_placed cps) in
        omega (arith, few, most, flat, same)

    pub named_once : AllPairs (λ t u. t ≢ u) (walked cps)
    named_once = pairs_of (walked cps) walked_once

    -- ---- variables

    module _ (owed : IsOwed cps) (x : ℕ) where
      abbrev own : Term → ℕ
      own term = tally (own_binders term) x

      abbrev params : Lam → ℕ
      params lam = tally (lam_binders lam) x

      abbrev past : ℕ → ℕ
      past p = if nat_lt p (first_lams cps) then 0 else option_map_or params (slice_get cps.lams.items p) 0

      once_there : (k : ℕ) → count k (walked cps) ≤ 1
      once_there k = let e = tally_tot (walked cps) k in let h = walked_once k in omega (arith, e, h)

      once_named : (k : ℕ) (lam : Lam) → first_lams cps ≤ k → slice_get cps.lams.items k ≡ Some lam → count k (named_lams cps) ≤ 1
      once_named k lam le e =
          let t = tally_tot (named_lams cps) k in
          let h = owed.lams_once k (slice_get_within cps.lams.items k lam e) in
          let o = one_or_none (not (nat_lt k (first_lams cps))) in
          omega (arith, t, h, o)

      terms_fewer : (f : Term → ℕ) → tot f (reached_terms cps) ≤ tot f cps.terms.items
      terms_fewer f =
          let found = found_tot f (slice_get cps.terms.items) (walked cps) in
          let once = once_weighs f cps.terms.items (walked cps) (λ k t e. once_there k) in
          omega (arith, found, once)

      lambda_past : (k : ℕ) → option_map_or params (lambda_at cps k) 0 ≡ past k
      lambda_past k = by (nat_lt k (first_lams cps))
        where
          by : (c : Bool) → option_map_or params (if c then None else slice_get cps.lams.items k) 0 ≡ (if c then 0 else option_map_or params (slice_get cps.lams.items k) 0)
          by true = refl
          by false = refl

      lambdas_past : (term : Term) → tot params (lambdas_of cps term) ≡ tot past (lams_of term)
      lambdas_past term =
          found_tot params (lambda_at cps) (lams_of term)
          ∙ tot_same (λ k. option_map_or params (lambda_at cps k) 0) past (lams_of term) (each_of (λ k. option_map_or params (lambda_at cps k) 0 ≡ past k) (lams_of term) lambda_past)

      lams_fewer : tot params (reached_lams cps) ≤ tot params cps.lams.items
      lams_fewer =
          let two = tot_append params (root_lams cps) (flat_map (lambdas_of cps) (reached_terms cps)) in
          let joined = joined_tot params (lambdas_of cps) (reached_terms cps) in
          let fewer_terms = terms_fewer (λ term. tot params (lambdas_of cps term)) in
          let same = tot_same (λ term. tot params (lambdas_of cps term)) (λ term. tot past (lams_of term)) cps.terms.items
          (each_of (λ term. tot params (lambdas_of cps term) ≡ tot past (lams_of term)) cps.terms.items lambdas_past) in
          let names = joined_tot past lams_of cps.terms.items in
          let weighs = past_weighs params (first_lams cps) cps.lams.items (named_lams cps) once_named in
          omega (arith, two, joined, fewer_terms, same, names, weighs)

      pub variable_once : tally (binders cps) x ≤ 1
      variable_once =
          let two = tally_append (flat_map own_binders (reached_terms cps)) (flat_map lam_binders (reached_lams cps)) x in
          let a = tally_flat own_binders (reached_terms cps) x in
          let b = tally_flat lam_binders (reached_lams cps) x in
          let c = terms_fewer own in
          let d = lams_fewer in
          let e = tally_append (flat_map own_binders cps.terms.items) (flat_map lam_binders cps.lams.items) x in
          let f = tally_flat own_binders cps.terms.items x in
          let g = tally_flat lam_binders cps.lams.items x in
          let h = owed.bound_once x in
          omega (arith, two, a, b, c, d, e, f, g, h)

    pub bound_once : IsOwed cps → AllPairs (λ x y. x ≢ y) (binders cps)
    bound_once owed = pairs_of (binders cps) (variable_once owed)
