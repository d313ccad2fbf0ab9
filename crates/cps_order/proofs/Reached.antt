-- Where terms stand in order, each of them is reached.
use Rattle.std.proofs.Common.{◌≡◌, ℕ, zero, suc, ◌+◌, ◌<◌, ◌≤◌, ◌==◌, ◌||◌, Bool, true, false, List, [], ◌∷◌, Option, Some, None, length, slice_get, inl, inr, refl, sym, ap, ◌∙◌, subst, arith}
use Rattle.std.specs.List.{flat_map, filter_map, cons_option, list_any}
use Rattle.std.specs.Option.{option_map_or}
use Rattle.std.proofs.lemmas.Bool.{true≢false, eqb-true, cases_lt}
use Rattle.std.proofs.lemmas.List.Concat.{flat_map-cons}
use Rattle.std.proofs.lemmas.List.Folds.{list_any_at}
use Rattle.std.proofs.lemmas.Option.{slice_get_within, get_or_from_slice_get}
use Rattle.cps_ir.specs.declared.terms.Term.{Term}
use Rattle.cps_ir.specs.declared.terms.Cps.{Cps}
use Rattle.cps_ir.specs.Parts.{Part, parts_of, root_parts, depth_of, walked, walked_within, reached_terms}
use Rattle.cps_ir.proofs.Closed.{same_number}
use Rattle.cps_walk.specs.Walks.{places_of, part_places, root_places}
use Rattle.cps_walk.proofs.Walked.{parts_placed, roots_placed}
use Rattle.cps_order.specs.Order.{one, tally, AreBelow, IsOrdered}
use Rattle.cps_order.proofs.Names.{tally_append}

-- ---- what stands in lists

one_same : (n : ℕ) → one (n == n) ≡ 1
one_same n = ap one (same_number n n refl)

pub flat_some : {X : Type 0} (f : X → List ℕ) (xs : List X) (n : ℕ) → 1 ≤ tally (flat_map f xs) n → (i : ℕ) × (x : X) × (slice_get xs i ≡ Some x) × (1 ≤ tally (f x) n)
flat_some f [] n h = absurd (omega (arith, h))
flat_some f (x ∷ xs) n h =
    let e : tally (flat_map f (x ∷ xs)) n ≡ tally (f x) n + tally (flat_map f xs) n = ap (λ l. tally l n) (flat_map-cons f x xs) ∙ tally_append (f x) (flat_map f xs) n in
    elim (cases_lt 0 (tally (f x) n)) [
      | inl here ↦ (0, x, refl, omega (arith, here))
      | inr none ↦ let r = flat_some f xs n (omega (arith, h, e, none)) in (suc r.0, r.1, r.2, r.3)
    ]

pub flat_has : {X : Type 0} (f : X → List ℕ) (xs : List X) (n i : ℕ) (x : X) → slice_get xs i ≡ Some x → 1 ≤ tally (f x) n → 1 ≤ tally (flat_map f xs) n
flat_has f [] n i x e h = none e
  where
    none : slice_get [] i ≡ Some x → 1 ≤ tally (flat_map f []) n
    none e = cc
flat_has f (y ∷ xs) n zero x e h =
    let s : tally (flat_map f (y ∷ xs)) n ≡ tally (f y) n + tally (flat_map f xs) n = ap (λ l. tally l n) (flat_map-cons f y xs) ∙ tally_append (f y) (flat_map f xs) n in
    let same : tally (f y) n ≡ tally (f x) n = ap (λ z. tally (f z) n) (same_item e) in
    omega (arith, s, same, h)
  where
    same_item : Some y ≡ Some x → y ≡ x
    same_item e = cc
flat_has f (y ∷ xs) n (suc i) x e h =
    let s : tally (flat_map f (y ∷ xs)) n ≡ tally (f y) n + tally (flat_map f xs) n = ap (λ l. tally l n) (flat_map-cons f y xs) ∙ tally_append (f y) (flat_map f xs) n in
    let r = flat_has f xs n i x e h in
    omega (arith, s, r)

pub places_some : (ps : List Part) (n : ℕ) → 1 ≤ tally (places_of ps) n → (i : ℕ) × (p : Part) × (slice_get ps i ≡ Some p) × (p.at ≡ n)
places_some [] n h = absurd (omega (arith, h))
places_some (p ∷ ps) n h = by (p.at == n) refl h (places_some ps n)
  where
    by : (b : Bool) → (p.at == n) ≡ b → 1 ≤ one b + tally (places_of ps) n → (1 ≤ tally (places_of ps) n → (i : ℕ) × (q : Part) × (slice_get ps i ≡ Some q) × (q.at ≡ n)) → (i : ℕ) × (q : Part) × (slice_get (p ∷ ps) i ≡ Some q) × (q.at ≡ n)
    by true e h go = (0, p, refl, eqb-true p.at n e)
    by false e h go = let r = go (omega (arith, h)) in (suc r.0, r.1, r.2, r.3)

pub below_tally : (above : ℕ) (xs : List ℕ) (n : ℕ) → AreBelow above xs → 1 ≤ tally xs n → n < above
below_tally above [] n all h = absurd (omega (arith, h))
below_tally above (x ∷ xs) n all h = by (x == n) refl h (below_tally above xs n (λ k d lt. all (suc k) d (omega (arith, lt))))
  where
    by : (b : Bool) → (x == n) ≡ b → 1 ≤ one b + tally xs n → (1 ≤ tally xs n → n < above) → n < above
    by true e h go = subst (λ m. m < above) (eqb-true x n e) (all 0 x (omega arith))
    by false e h go = go (omega (arith, h))

-- ---- what is walked

module _ (cps : Cps) where
  -- what is reached from the term at a place is reached
  record Walked (t : ℕ) : Type 0 where
    depth : ℕ
    deep : t ≤ depth
    holds : (u : ℕ) → 1 ≤ tally (walked_within cps (suc depth) t) u → 1 ≤ tally (walked cps) u

  from_root : (t : ℕ) → AreBelow (length cps.terms.items) (root_places cps) → 1 ≤ tally (root_places cps) t → Walked t
  from_root t roots h =
      let r = places_some (root_parts cps) t (subst (λ l. 1 ≤ tally l t) (sym (roots_placed cps)) h) in
      let below : t < length cps.terms.items = below_tally (length cps.terms.items) (root_places cps) t roots h in
      record {
        depth = length cps.terms.items;
        deep = omega (arith, below);
        holds = λ u w. flat_has (λ p. walked_within cps (depth_of cps) p.at) (root_parts cps) u r.0 r.1 r.2 (subst (λ v. 1 ≤ tally (walked_within cps (depth_of cps) v) u) (sym r.3) w);
      }

  -- a part of a term at a deeper place
  from_term : (t u : ℕ) (term : Term) → slice_get cps.terms.items u ≡ Some term → t < u → 1 ≤ tally (part_places cps term) t → Walked u → Walked t
  unfolding walked_within
  from_term t u term there below h w = by w.depth w.deep w.holds
    where
      by : (depth : ℕ) → u ≤ depth → ((v : ℕ) → 1 ≤ tally (walked_within cps (suc depth) u) v → 1 ≤ tally (walked cps) v) → Walked t
      by zero deep holds = absurd (omega (arith, deep, below))
      by (suc depth) deep holds =
          let r = places_some (parts_of cps [] term) t (subst (λ l. 1 ≤ tally l t) (sym (parts_placed cps term)) h) in
          record {
            depth = depth;
            deep = omega (arith, deep, below);
            holds = λ v k.
                let inner : 1 ≤ tally (flat_map (λ p. walked_within cps (suc depth) p.at) (parts_of cps [] term)) v =
                flat_has (λ p. walked_within cps (suc depth) p.at) (parts_of cps [] term) v r.0 r.1 r.2 (subst (λ w. 1 ≤ tally (walked_within cps (suc depth) w) v) (sym r.3) k) in
                let e : tally (option_map_or (λ s. flat_map (λ p. walked_within cps (suc depth) p.at) (parts_of cps [] s)) (slice_get cps.terms.items u) []) v ≡ tally (flat_map (λ p. walked_within cps (suc depth) p.at) (parts_of cps [] term)) v =
                ap (λ o. tally (option_map_or (λ s. flat_map (λ p. walked_within cps (suc depth) p.at) (parts_of cps [] s)) o []) v) there in
                holds v (omega (arith, inner, e));
          }

  at_itself : (t : ℕ) → Walked t → 1 ≤ tally (walked cps) t
  unfolding walked_within
  at_itself t w = let e = one_same t in w.holds t (omega (arith, e))

  all_from : (ordered : IsOrdered cps) (fuel t : ℕ) → length cps.terms.items ≤ t + fuel → t < length cps.terms.items → Walked t
  all_from ordered zero t le lt = absurd (omega (arith, le, lt))
  all_from ordered (suc fuel) t le lt =
      let once = ordered.once t lt in
      elim (cases_lt 0 (tally (root_places cps) t)) [
        | inl root ↦ from_root t ordered.roots root
        | inr none ↦
            let r = flat_some (part_places cps) cps.terms.items t (omega (arith, once, none)) in
            let below : t < r.0 = below_tally r.0 (part_places cps r.1) t (ordered.lower r.0 r.1 r.2) r.3 in
            let there : r.0 < length cps.terms.items = slice_get_within cps.terms.items r.0 r.1 r.2 in
            from_term t r.0 r.1 r.2 below r.3 (all_from ordered fuel r.0 (omega (arith, le, below)) there)
      ]

  -- each term that is there is reached
  pub all_walked : IsOrdered cps → (t : ℕ) → t < length cps.terms.items → 1 ≤ tally (walked cps) t
  all_walked ordered t lt = at_itself t (all_from ordered (length cps.terms.items) t (omega arith) lt)

  -- ---- a test of all terms

  listed_any : {X : Type 0} (p : X → Bool) (xs : List X) (i : ℕ) (x : X) → slice_get xs i ≡ Some x → p x ≡ true → list_any p xs ≡ true
  listed_any p xs i x e is = list_any_at p xs i x (slice_get_within xs i x e) (subst (λ y. p y ≡ true) (sym (get_or_from_slice_get xs i x x e)) is)

  found_any : {X : Type 0} (p : X → Bool) (xs : List X) → list_any p xs ≡ true → (i : ℕ) × (x : X) × (slice_get xs i ≡ Some x) × (p x ≡ true)
  found_any p [] e = absurd (true≢false (sym e))
  found_any {X} p (x ∷ xs) e = by (p x) refl e (found_any p xs)
    where
      by : (b : Bool) → p x ≡ b → (b || list_any p xs) ≡ true → (list_any p xs ≡ true → (i : ℕ) × (y : X) × (slice_get xs i ≡ Some y) × (p y ≡ true)) → (i : ℕ) × (y : X) × (slice_get (x ∷ xs) i ≡ Some y) × (p y ≡ true)
      by true q e go = (0, x, refl, q)
      by false q e go = let r = go e in (suc r.0, r.1, r.2, r.3)

  any_kept : (p : Term → Bool) (ts : List ℕ) → list_any p (filter_map (slice_get cps.terms.items) ts) ≡ true → list_any p cps.terms.items ≡ true
  any_kept p [] e = absurd (true≢false (sym e))
  any_kept p (t ∷ ts) e = by (slice_get cps.terms.items t) refl e (any_kept p ts)
    where
      by : (o : Option Term) → slice_get cps.terms.items t ≡ o → list_any p (cons_option o (filter_map (slice_get cps.terms.items) ts)) ≡ true
          → (list_any p (filter_map (slice_get cps.terms.items) ts) ≡ true → list_any p cps.terms.items ≡ true) → list_any p cps.terms.items ≡ true
      by None q e go = go e
      by (Some term) q e go = then_by (p term) refl e
        where
          then_by : (b : Bool) → p term ≡ b → (b || list_any p (filter_map (slice_get cps.terms.items) ts)) ≡ true → list_any p cps.terms.items ≡ true
          then_by true is e = listed_any p cps.terms.items t term q is
          then_by false is e = go e

  any_reached : (p : Term → Bool) (ts : List ℕ) (t : ℕ) (term : Term) → 1 ≤ tally ts t → slice_get cps.terms.items t ≡ Some term → p term ≡ true → list_any p (filter_map (slice_get cps.terms.items) ts) ≡ true
  any_reached p [] t term h there is = absurd (omega (arith, h))
  any_reached p (u ∷ ts) t term h there is = by (u == t) refl h (λ k. any_reached p ts t term k there is)
    where
      rest : (o : Option Term) → list_any p (filter_map (slice_get cps.terms.items) ts) ≡ true → list_any p (cons_option o (filter_map (slice_get cps.terms.items) ts)) ≡ true
      rest None e = e
      rest (Some s) e = either (p s) e
        where
          either : (b : Bool) {c : Bool} → c ≡ true → (b || c) ≡ true
          either true e = refl
          either false e = e

      by : (b : Bool) → (u == t) ≡ b → 1 ≤ one b + tally ts t → (1 ≤ tally ts t → list_any p (filter_map (slice_get cps.terms.items) ts) ≡ true) → list_any p (cons_option (slice_get cps.terms.items u) (filter_map (slice_get cps.terms.items) ts)) ≡ true
      by true e h go =
          subst (λ o. list_any p (cons_option o (filter_map (slice_get cps.terms.items) ts)) ≡ true) (sym (ap (slice_get cps.terms.items) (eqb-true u t e) ∙ there))
          (subst (λ b. (b || list_any p (filter_map (slice_get cps.terms.items) ts)) ≡ true) (sym is) refl)
      by false e h go = rest (slice_get cps.terms.items u) (go (omega (arith, h)))

  pub same_any : IsOrdered cps → (p : Term → Bool) → list_any p (reached_terms cps) ≡ list_any p cps.terms.items
  same_any ordered p = by (list_any p (reached_terms cps)) (list_any p cps.terms.items) refl refl
    where
      by : (a b : Bool) → list_any p (reached_terms cps) ≡ a → list_any p cps.terms.items ≡ b → a ≡ b
      by true true e f = refl
      by false false e f = refl
      by true false e f = absurd (true≢false (sym (any_kept p (walked cps) e) ∙ f))
      by false true e f =
          let r = found_any p cps.terms.items f in
          absurd (true≢false (sym (any_reached p (walked cps) r.0 r.1 (all_walked ordered r.0 (slice_get_within cps.terms.items r.0 r.1 r.2)) r.2 r.3) ∙ e))
