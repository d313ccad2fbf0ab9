-- As many rounds as there are known procedures are enough: then what is free in a known procedure that is reached is reached.
use Rattle.std.specs.List.{filter, list_any}
use Rattle.std.proofs.Common.{◌≡◌, ℕ, zero, suc, ◌≤◌, ◌<◌, ◌==◌, Bool, true, false, ◌&&◌, ◌||◌, cond, List, [], ◌∷◌, length, ◌⊎◌, inl, inr, refl, sym, ◌∙◌, subst, arith}
use Rattle.std.proofs.lemmas.Bool.{true≢false, false≢true, eqb-true, and_parts}
use Rattle.cps_ir.specs.Reaches.{is_in, Known, reached_within}
use Rattle.cps_ir.proofs.Closed.{or_left, or_right}
use Rattle.cps_ir.proofs.Apart.{any_or}

pub in_filtered : (test : ℕ → Bool) (xs : List ℕ) (x : ℕ) → is_in xs x ≡ true → test x ≡ true → is_in (filter test xs) x ≡ true
in_filtered test [] x i e = i
in_filtered test (y ∷ xs) x i e = by_test (test y) refl i (λ r. in_filtered test xs x r e)
  where
    by_test : (b : Bool) → test y ≡ b → ((y == x) || is_in xs x) ≡ true → (is_in xs x ≡ true → is_in (filter test xs) x ≡ true) → is_in (cond b (y ∷ filter test xs) (filter test xs)) x ≡ true
    by_test true q j go = any_or (y == x) (is_in xs x) (λ a. or_left (y == x) _ a) (λ r. or_right (y == x) _ (go r)) j
    by_test false q j go = any_or (y == x) (is_in xs x) (λ a. absurd (true≢false (sym e ∙ subst (λ z. test z ≡ false) (eqb-true y x a) q))) go j

pub of_filtered : (test : ℕ → Bool) (xs : List ℕ) (x : ℕ) → is_in (filter test xs) x ≡ true → (is_in xs x ≡ true) × (test x ≡ true)
of_filtered test [] x i = absurd (false≢true i)
of_filtered test (y ∷ xs) x i = by_test (test y) refl i (λ r. of_filtered test xs x r)
  where
    by_test : (b : Bool) → test y ≡ b → is_in (cond b (y ∷ filter test xs) (filter test xs)) x ≡ true → (is_in (filter test xs) x ≡ true → (is_in xs x ≡ true) × (test x ≡ true)) → (((y == x) || is_in xs x) ≡ true) × (test x ≡ true)
    by_test true q j go = any_or (y == x) (is_in (filter test xs) x) (λ a. (or_left (y == x) _ a, subst (λ z. test z ≡ true) (eqb-true y x a) q)) (λ r. let g = go r in (or_right (y == x) _ g.0, g.1)) j
    by_test false q j go = let g = go j in (or_right (y == x) _ g.0, g.1)

module _ {X : Type 0} (p q : X → Bool) (more : (x : X) → p x ≡ true → q x ≡ true) where
  pub fewer : (xs : List X) → length (filter p xs) ≤ length (filter q xs)
  fewer [] = omega arith
  fewer (x ∷ xs) = by_tests (p x) (q x) refl refl (fewer xs)
    where
      by_tests : (b c : Bool) → p x ≡ b → q x ≡ c → length (filter p xs) ≤ length (filter q xs) → length (cond b (x ∷ filter p xs) (filter p xs)) ≤ length (cond c (x ∷ filter q xs) (filter q xs))
      by_tests true true e f le = omega (arith, le)
      by_tests true false e f le = absurd (true≢false (sym (more x e) ∙ f))
      by_tests false true e f le = omega (arith, le)
      by_tests false false e f le = le

  -- where no more pass the second test, what passes it passes the first one; so of any list of them
  pub as_many : (r : X → Bool) (xs : List X) → length (filter q xs) ≤ length (filter p xs) → list_any (λ x. q x && r x) xs ≡ true → list_any (λ x. p x && r x) xs ≡ true
  as_many r [] le h = absurd (false≢true h)
  as_many r (x ∷ xs) le h = by_tests (p x) (q x) refl refl le h (fewer xs) (λ a b. as_many r xs a b)
    where
      by_tests : (b c : Bool) → p x ≡ b → q x ≡ c → length (cond c (x ∷ filter q xs) (filter q xs)) ≤ length (cond b (x ∷ filter p xs) (filter p xs)) → ((c && r x) || list_any (λ y. q y && r y) xs) ≡ true
          → length (filter p xs) ≤ length (filter q xs) → (length (filter q xs) ≤ length (filter p xs) → list_any (λ y. q y && r y) xs ≡ true → list_any (λ y. p y && r y) xs ≡ true) → ((b && r x) || list_any (λ y. p y && r y) xs) ≡ true
      by_tests true true e f le h few go = any_or (r x) _ (λ a. or_left (r x) _ a) (λ b. or_right (r x) _ (go (omega (arith, le)) b)) h
      by_tests true false e f le h few go = absurd (true≢false (sym (more x e) ∙ f))
      by_tests false true e f le h few go = absurd (omega (arith, le, few))
      by_tests false false e f le h few go = go le h

filter_short : {X : Type 0} (p : X → Bool) (xs : List X) → length (filter p xs) ≤ length xs
filter_short p [] = omega arith
filter_short p (x ∷ xs) = by_test (p x) (filter_short p xs)
  where
    by_test : (b : Bool) → length (filter p xs) ≤ length xs → length (cond b (x ∷ filter p xs) (filter p xs)) ≤ suc (length xs)
    by_test true le = omega (arith, le)
    by_test false le = omega (arith, le)

module _ (known : List Known) (names free : List ℕ) where
  abbrev at_round : ℕ → List ℕ
  at_round n = reached_within known names free n

  -- a known procedure that is reached, and what is free in one
  abbrev is_met : ℕ → Known → Bool
  is_met n k = is_in (at_round n) k.name

  abbrev is_free_in_met : ℕ → ℕ → Bool
  is_free_in_met n x = list_any (λ k. is_met n k && is_in k.free x) known

  -- what one round more reaches
  next : (n x : ℕ) → is_in (at_round (suc n)) x ≡ true → (is_in names x ≡ true) × ((is_in (at_round n) x || is_free_in_met n x) ≡ true)
  unfolding reached_within
  next n x h = of_filtered (λ y. is_in (at_round n) y || is_free_in_met n y) names x h

  onward : (n x : ℕ) → is_in names x ≡ true → (is_in (at_round n) x || is_free_in_met n x) ≡ true → is_in (at_round (suc n)) x ≡ true
  unfolding reached_within
  onward n x i h = in_filtered (λ y. is_in (at_round n) y || is_free_in_met n y) names x i h

  pub named : (n x : ℕ) → is_in (at_round n) x ≡ true → is_in names x ≡ true
  unfolding reached_within
  named zero x h = (of_filtered (λ y. is_in free y) names x h).0
  named (suc n) x h = (next n x h).0

  stays : (n x : ℕ) → is_in (at_round n) x ≡ true → is_in (at_round (suc n)) x ≡ true
  stays n x h = onward n x (named n x h) (or_left (is_in (at_round n) x) _ h)

  abbrev Stable : ℕ → Type 0
  Stable n = (x : ℕ) → is_in (at_round (suc n)) x ≡ true → is_in (at_round n) x ≡ true

  any_met : (n m x : ℕ) → ((k : Known) → is_met n k ≡ true → is_met m k ≡ true) → (ks : List Known) → list_any (λ k. is_met n k && is_in k.free x) ks ≡ true → list_any (λ k. is_met m k && is_in k.free x) ks ≡ true
  any_met n m x f [] h = h
  any_met n m x f (k ∷ ks) h =
      any_or (is_met n k && is_in k.free x) _ (λ e. let b = and_parts (is_met n k) _ e in or_left (is_met m k && is_in k.free x) _ (both (is_met m k) _ (f k b.0) b.1)) (λ e. or_right (is_met m k && is_in k.free x) _ (any_met n m x f ks e)) h
    where
      both : (a b : Bool) → a ≡ true → b ≡ true → (a && b) ≡ true
      both true b e g = g
      both false b e g = absurd (false≢true e)

  stable_on : (n : ℕ) → Stable n → Stable (suc n)
  stable_on n s x h = let t = next (suc n) x h in any_or (is_in (at_round (suc n)) x) _ (λ e. e) (λ e. onward n x t.0 (or_right (is_in (at_round n) x) _ (any_met (suc n) n x (λ k. s k.name) known e))) t.1

  abbrev count_met : ℕ → ℕ
  count_met n = length (filter (is_met n) known)

  by_count : (n : ℕ) → (suc n ≤ count_met n) ⊎ Stable n
  by_count zero = first (filter (is_met 0) known) refl
    where
      none_met : (x : ℕ) (ks : List Known) → length (filter (is_met 0) ks) ≤ 0 → list_any (λ k. is_met 0 k && is_in k.free x) ks ≡ true → ⊥
      none_met x [] le h = false≢true h
      none_met x (k ∷ ks) le h = by_test (is_met 0 k) le h (λ a b. none_met x ks a b)
        where
          by_test : (b : Bool) → length (cond b (k ∷ filter (is_met 0) ks) (filter (is_met 0) ks)) ≤ 0 → ((b && is_in k.free x) || list_any (λ j. is_met 0 j && is_in j.free x) ks) ≡ true
              → (length (filter (is_met 0) ks) ≤ 0 → list_any (λ j. is_met 0 j && is_in j.free x) ks ≡ true → ⊥) → ⊥
          by_test true le h go = omega (arith, le)
          by_test false le h go = go le h

      first : (ms : List Known) → filter (is_met 0) known ≡ ms → (1 ≤ count_met 0) ⊎ Stable 0
      first [] e = inr (λ x h. any_or (is_in (at_round 0) x) _ (λ q. q) (λ q. absurd (none_met x known (subst (λ z. length z ≤ 0) (sym e) (omega arith)) q)) (next 0 x h).1)
      first (m ∷ ms) e = inl (subst (λ z. 1 ≤ length z) (sym e) (omega arith))
  by_count (suc n) = from (by_count n)
    where
      more : (k : Known) → is_met n k ≡ true → is_met (suc n) k ≡ true
      more k h = stays n k.name h

      same : count_met (suc n) ≤ count_met n → Stable (suc n)
      same le x h =
          let t = next (suc n) x h in
          any_or (is_in (at_round (suc n)) x) _ (λ e. e) (λ e. onward n x t.0 (or_right (is_in (at_round n) x) _ (as_many (is_met n) (is_met (suc n)) more (λ k. is_in k.free x) known le e))) t.1

      from : (suc n ≤ count_met n) ⊎ Stable n → (suc (suc n) ≤ count_met (suc n)) ⊎ Stable (suc n)
      from (inr s) = inr (stable_on n s)
      from (inl le) = by_order (count_met (suc n)) (count_met n) refl refl
        where
          by_order : (a b : ℕ) → count_met (suc n) ≡ a → count_met n ≡ b → (suc (suc n) ≤ count_met (suc n)) ⊎ Stable (suc n)
          by_order a b e f = decide (nat_le_or a b)
            where
              nat_le_or : (a b : ℕ) → (a ≤ b) ⊎ (b < a)
              nat_le_or zero b = inl (omega arith)
              nat_le_or (suc a) zero = inr (omega arith)
              nat_le_or (suc a) (suc b) = up (nat_le_or a b)
                where
                  up : (a ≤ b) ⊎ (b < a) → (suc a ≤ suc b) ⊎ (suc b < suc a)
                  up (inl h) = inl (omega (arith, h))
                  up (inr h) = inr (omega (arith, h))

              decide : (a ≤ b) ⊎ (b < a) → (suc (suc n) ≤ count_met (suc n)) ⊎ Stable (suc n)
              decide (inl h) = inr (same (omega (arith, h, e, f)))
              decide (inr h) = inl (omega (arith, h, e, f, le))

  stable : Stable (length known)
  stable = from (by_count (length known))
    where
      from : (suc (length known) ≤ count_met (length known)) ⊎ Stable (length known) → Stable (length known)
      from (inr s) = s
      from (inl le) = let few = filter_short (is_met (length known)) known in absurd (omega (arith, le, few))

  -- what is free in a known procedure that is reached is reached
  pub closed : (x : ℕ) → is_in names x ≡ true → is_free_in_met (length known) x ≡ true → is_in (at_round (length known)) x ≡ true
  closed x i h = stable x (onward (length known) x i (or_right (is_in (at_round (length known)) x) _ h))

  pub free_in_rounds : (n x : ℕ) → is_in names x ≡ true → is_in free x ≡ true → is_in (at_round n) x ≡ true
  unfolding reached_within
  free_in_rounds zero x i f = in_filtered (is_in free) names x i f
  free_in_rounds (suc n) x i f = stays n x (free_in_rounds n x i f)
