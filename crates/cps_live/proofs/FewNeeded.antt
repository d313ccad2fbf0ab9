-- What a term needs is reached, so it needs few variables.
use Rattle.std.specs.Prelude.{IsSomeAnd}
use Rattle.std.specs.List.{filter_map, flat_map, cons_option}
use Rattle.std.proofs.Common.{◌≡◌, ℕ, ◌+◌, ◌≤◌, ◌==◌, Bool, true, false, not, ◌&&◌, ◌||◌, List, [], ◌∷◌, length, slice_get, Option, Some, None, inl, inr, refl, sym, ap, ◌∙◌, subst, arith}
use Rattle.std.proofs.lemmas.Bool.{true≢false, false≢true, eqb-true}
use Rattle.t_base.specs.declared.basics.Var.{Var}
use Rattle.cps_ir.specs.declared.terms.Term.{Term}
use Rattle.cps_ir.specs.declared.terms.Term.TheVariants as Node
use Rattle.cps_ir.specs.declared.terms.Cps.{Cps}
use Rattle.cps_ir.specs.Parts.{walked, reached_terms, reached_lams, own_binders, lam_binders, binders}
use Rattle.cps_ir.specs.Reaches.{is_in, without, free_at, known_by, known_of, reached_from, term_reach}
use Rattle.cps_ir.specs.Whole.{IsFormed}
use Rattle.cps_ir.proofs.ProperLists.{some_same, none_some, each_of_all}
use Rattle.cps_ir.proofs.Closed.{or_left, same_number}
use Rattle.cps_ir.proofs.Apart.{Distinct, left_part, right_part, any_left, any_or, unless, distinct_binders, distinct_of}
use Rattle.cps_ir.proofs.Inside.{in_each}
use Rattle.cps_known.specs.LiveVariables.{continuations}
use Rattle.cps_live.specs.Gathered.{numbers}
use Rattle.cps_live.specs.LiveLaws.{FewAreNeeded}
use Rattle.cps_live.specs.Needs.{IsJoin, IsNeeded, lives, joined, AreNeeded}
use Rattle.cps_live.proofs.Fewness.{free_is_bound, and_first, few_reached, numbered}
use Rattle.cps_live.proofs.LiveLemmas.{contains_in}
use Rattle.cps_live.proofs.Unfolds.{IsFreeBy, walked_free}
use Rattle.cps_live.proofs.NeedLemmas.{in_terms, one_place, binds_k, body_walked}
use Rattle.cps_reach.proofs.Members.{In, in_flat, in_found, any_in}
use Rattle.cps_reach.proofs.Rounds.{closed, free_in_rounds, in_filtered}

-- ---- what one term binds

own_distinct : (xs : List Term) (ts : List ℕ) → Distinct (flat_map own_binders (filter_map (slice_get xs) ts)) → (t : ℕ) (term : Term) → is_in ts t ≡ true → slice_get xs t ≡ Some term → Distinct (own_binders term)
own_distinct xs [] d t term i e = absurd (false≢true i)
own_distinct xs (s ∷ ts) d t term i e = by_option (slice_get xs s) refl d (λ dd j. own_distinct xs ts dd t term j e)
  where
    by_option : (o : Option Term) → slice_get xs s ≡ o → Distinct (flat_map own_binders (cons_option o (filter_map (slice_get xs) ts))) → (Distinct (flat_map own_binders (filter_map (slice_get xs) ts)) → is_in ts t ≡ true → Distinct (own_binders term)) → Distinct (own_binders term)
    by_option None q dd go = any_or (s == t) (is_in ts t) (λ same. none_some term (sym q ∙ ap (slice_get xs) (eqb-true s t same) ∙ e)) (λ j. go dd j) i
    by_option (Some c) q dd go =
        any_or (s == t) (is_in ts t)
        (λ same. subst (λ y. Distinct (own_binders y)) (some_same c term (sym q ∙ ap (slice_get xs) (eqb-true s t same) ∙ e)) (left_part (own_binders c) (flat_map own_binders (filter_map (slice_get xs) ts)) dd))
        (λ j. go (right_part (own_binders c) (flat_map own_binders (filter_map (slice_get xs) ts)) dd) j) i

pub stands : (x : ℕ) (xs : List ℕ) → is_in xs x ≡ true → In x xs
stands x [] i = absurd (false≢true i)
stands x (y ∷ xs) i = any_or (y == x) (is_in xs x) (λ e. inl (eqb-true y x e)) (λ j. inr (stands x xs j)) i

pub in_without : (x p : ℕ) (xs : List ℕ) → is_in xs x ≡ true → (x == p) ≡ false → is_in (without (p ∷ []) xs) x ≡ true
in_without x p xs i e =
    in_filtered (λ y. not (is_in (p ∷ []) y)) xs x i
    (ap not (unless ((p == x) || false) (λ q. any_or (p == x) false (λ r. true≢false (sym (same_number x p (sym (eqb-true p x r))) ∙ e)) (λ r. false≢true r) q)))

module _ (u : Cps) (formed : IsFormed u) where
  -- ---- the parameter of a Join is no k of a Join

  terms_distinct : Distinct (flat_map own_binders (reached_terms u))
  terms_distinct = left_part (flat_map own_binders (reached_terms u)) (flat_map lam_binders (reached_lams u)) (distinct_binders u formed)

  binds_param : (k param : Var) (body rest : ℕ) (x : ℕ) → param.0 ≡ x → is_in (own_binders (Node.Join k param body rest)) x ≡ true
  binds_param k param body rest x e = or_left (param.0 == x) _ (same_number param.0 x e)

  pub param_is_no_k : (k param body other value second : ℕ) → IsJoin u k param body → IsJoin u other value second → (k == value) ≡ false
  param_is_no_k k param body other value second a b = unless (k == value) (λ e. by (eqb-true k value e))
    where
      by : k ≡ value → ⊥
      by same =
          let at : a.at ≡ b.at =
          one_place u.terms.items (walked u) terms_distinct k a.at b.at _ _ a.reached b.reached a.is b.is (binds_k u formed a.var a.value body a.rest k a.k_is)
          (binds_param b.var b.value second b.rest k (b.param_is ∙ sym same)) in
          let is = some_same _ _ (sym a.is ∙ ap (slice_get u.terms.items) at ∙ b.is) in
          let once = own_distinct u.terms.items (walked u) terms_distinct b.at _ b.reached b.is in
          true≢false (sym (or_left (b.var.0 == b.value.0) false (same_number b.var.0 b.value.0 (vars a.var b.var a.value b.value body second a.rest b.rest is ∙ a.k_is ∙ same ∙ sym b.param_is))) ∙ once.0)
        where
          vars : (j k2 v w : Var) (x y r s : ℕ) → Node.Join j v x r ≡ Node.Join k2 w y s → k2.0 ≡ j.0
          vars j k2 v w x y r s e = let same_k : j ≡ k2 = cc in ap (λ (z : Var). z.0) (sym same_k)

  -- ---- what is needed is reached

  join_known : (k param body : ℕ) → IsJoin u k param body → In (record { name = k; free = without (param ∷ []) (free_at u body) }) (known_of u)
  join_known k param body j = by j.k_is j.param_is
    where
      there : In (Node.Join j.var j.value body j.rest) (reached_terms u)
      there = in_found (slice_get u.terms.items) j.at (Node.Join j.var j.value body j.rest) (walked u) (stands j.at (walked u) j.reached) j.is

      by : j.var.0 ≡ k → j.value.0 ≡ param → In (record { name = k; free = without (param ∷ []) (free_at u body) }) (known_of u)
      by e f = subst (λ n. In (record { name = n; free = without (param ∷ []) (free_at u body) }) (known_of u)) e
          (subst (λ p. In (record { name = j.var.0; free = without (p ∷ []) (free_at u body) }) (known_of u)) f
          (in_flat (known_by u) (Node.Join j.var j.value body j.rest) _ (reached_terms u) there (inl refl)))

  join_bound : (k param body : ℕ) → IsJoin u k param body → is_in (binders u) k ≡ true
  join_bound k param body j =
      any_left (λ y. y == k) (flat_map own_binders (reached_terms u)) (flat_map lam_binders (reached_lams u))
      (in_terms own_binders u.terms.items (walked u) j.at k _ j.reached j.is (binds_k u formed j.var j.value body j.rest k j.k_is))

  module _ (free : List ℕ) where
    abbrev IsReached : ℕ → Type 0
    IsReached x = is_in (reached_from u free) x ≡ true

    -- of the variables that are free in a term all are reached but for some, among which there is no k of a Join
    pub needed_is_reached : (t x : ℕ) (skips : ℕ → Bool) → ((k param body : ℕ) → IsJoin u k param body → skips k ≡ false) → ((y : ℕ) → is_in (free_at u t) y ≡ true → skips y ≡ false → IsReached y) → IsNeeded u t x → skips x ≡ false → IsReached x
    needed_is_reached t x skips no_k all (lives s y live) e = all y (and_first (is_in (free_at u s) y) (not (is_in (continuations u) y)) live) e
    needed_is_reached t x skips no_k all (joined s y k param body j i apart_from needed) e =
        needed_is_reached body y (λ z. z == param) (λ k2 p2 b2 h. param_is_no_k k2 p2 b2 k param body h j)
        (λ z f g. closed (known_of u) (binders u) free z (free_is_bound u formed body (body_walked u formed j.at j.var j.value body j.rest j.reached j.is) z f)
        (any_in _ _ (known_of u) (join_known k param body j) (met (is_in (reached_from u free) k) (is_in (without (param ∷ []) (free_at u body)) z) (all k i (no_k k param body j)) (in_without z param (free_at u body) f g)))) needed apart_from
      where
        met : (a b : Bool) → a ≡ true → b ≡ true → (a && b) ≡ true
        met true b p q = q
        met false b p q = absurd (false≢true p)

  pub need_is_reached : (t x : ℕ) → is_in (walked u) t ≡ true → IsNeeded u t x → is_in (reached_from u (free_at u t)) x ≡ true
  need_is_reached t x i needed =
      needed_is_reached (free_at u t) t x (λ y. false) (λ k param body j. refl) (λ y f e. free_in_rounds (known_of u) (binders u) (free_at u t) (length (known_of u)) y (free_is_bound u formed t i y f) f) needed refl

pub few_are_needed : FewAreNeeded
few_are_needed cps needs whole has t c = at_option (slice_get needs.at.items t) (has.reached t c)
  where
    reached : is_in (walked cps) t ≡ true
    reached = contains_in (walked cps) t c.0 c.1 c.2

    by : IsFreeBy cps t
    by = in_each (IsFreeBy cps) (walked cps) t (walked_free cps whole.formed) reached

    fits : term_reach cps t ≤ cps.shared.size + 2
    fits = in_each (λ r. term_reach cps r ≤ cps.shared.size + 2) (walked cps) t (each_of_all (λ r. term_reach cps r ≤ cps.shared.size + 2) (walked cps) whole.fits.terms) reached

    at_option : (o : Option (List Var)) → IsSomeAnd o (AreNeeded cps t) → IsSomeAnd o (λ xs. length xs ≤ cps.shared.size + 2)
    at_option None h = absurd h
    at_option (Some xs) h =
        let n = numbered xs in
        let f = few_reached cps t by.term (numbers xs) by.is fits (distinct_of (numbers xs) h.once) (λ x i. need_is_reached cps whole.formed t x reached (h.each x i)) in
        omega (arith, n, f)
