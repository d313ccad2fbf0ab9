-- What is free in a term is bound somewhere, so it is reached, and what is reached is within the bound of the program.
use Rattle.std.specs.Prelude.{IsSomeAnd, sum_by}
use Rattle.std.specs.List.{AllByRecursion, flat_map, filter, list_any}
use Rattle.std.specs.Option.{option_map_or}
use Rattle.std.proofs.Common.{◌≡◌, ℕ, zero, suc, ◌+◌, ◌*◌, ◌≤◌, ◌==◌, Bool, true, false, not, ◌&&◌, ◌||◌, cond, List, [], ◌∷◌, ◌++◌, length, map, slice_get, Option, Some, None, refl, sym, ap, ◌∙◌, subst, arith}
use Rattle.std.proofs.lemmas.Bool.{false≢true, eqb-true, true≢false}
use Rattle.t_base.specs.declared.basics.Var.{Var}
use Rattle.cps_ir.specs.declared.terms.Lam.{Lam}
use Rattle.cps_ir.specs.declared.terms.Term.{Term}
use Rattle.cps_ir.specs.declared.terms.Cps.{Cps}
use Rattle.cps_ir.specs.Parts.{Name, variable_of, Part, own_parts, lambdas_of, around, lambda_part, parts_of, procs_of, root_lams, root_parts, depth_of, walked, walked_within, reached_terms, reached_lams, own_binders, lam_binders, binders}
use Rattle.cps_ir.specs.Reaches.{is_in, binds_of, free_within, free_at, Known, known_of, reached_within, reached_from, words_of, term_reach}
use Rattle.cps_ir.specs.Whole.{UsesVariables, LeadsOn, HoldsWithin, IsFormed}
use Rattle.cps_ir.proofs.ProperLists.{each_more, each_of_two, each_joined, each_append, each_left, each_right, each_of_all, each_unjoined}
use Rattle.cps_ir.proofs.Counts.{tot, sum_tot, tot_each, tot_among}
use Rattle.cps_ir.proofs.Closed.{or_left, or_right, parts_same, map_joins, free_around}
use Rattle.cps_ir.proofs.Apart.{Distinct, distinct_of, any_left, any_right, any_or, either_in, inside, of_each}
use Rattle.cps_ir.proofs.Inside.{in_each, free_stable, around_own, lam_bound}
use Rattle.cps_ir.proofs.Held.{words_least}
use Rattle.cps_known.specs.LiveVariables.{AreLive, continuations}
use Rattle.cps_live.specs.Gathered.{numbers}
use Rattle.cps_live.specs.LiveLaws.{FewAreLive}
use Rattle.cps_live.proofs.LiveLemmas.{contains_in}
use Rattle.cps_live.proofs.Unfolds.{IsFreeBy, walked_free}

-- ---- what a term binds is bound in the program

abbrev pub Within : List ℕ → List ℕ → Type 0
Within xs all = (x : ℕ) → is_in xs x ≡ true → is_in all x ≡ true

module _ (u : Cps) where
  abbrev Bound : Term → Type 0
  Bound term = Within (own_binders term) (binders u) × AllByRecursion (λ lam. Within (lam_binders lam) (binders u)) (lambdas_of u term)

  terms_bound : AllByRecursion Bound (reached_terms u)
  terms_bound =
      let ts = reached_terms u in
      let lams = reached_lams u in
      let inner = flat_map lam_binders lams in
      each_of_two (λ t. Within (own_binders t) (flat_map own_binders ts)) (λ t. AllByRecursion (λ lam. Within (lam_binders lam) inner) (lambdas_of u t)) Bound ts
      (λ t a b. (λ x i. any_left (λ z. z == x) (flat_map own_binders ts) inner (a x i), each_more (λ lam. Within (lam_binders lam) inner) (λ lam. Within (lam_binders lam) (binders u)) (lambdas_of u t) (λ lam h x i. any_right (λ z. z == x) (flat_map own_binders ts) inner (h x i)) b))
      (inside own_binders ts)
      (each_unjoined (lambdas_of u) (λ lam. Within (lam_binders lam) inner) ts (each_right (λ lam. Within (lam_binders lam) inner) (root_lams u) (flat_map (lambdas_of u) ts) (inside lam_binders lams)))

  -- what a part binds
  lambdas_bound : (term : Term) (lams : List Lam) → Within (own_binders term) (binders u) → AllByRecursion (λ lam. Within (lam_binders lam) (binders u)) lams → AllByRecursion (λ x. Within (binds_of x) (binders u)) (map (lambda_part (around term)) lams)
  lambdas_bound term [] own h = tt
  lambdas_bound term (lam ∷ lams) own h = (
    λ x i. lam_bound u lam.params lam.k.0 (around term) x (λ a. h.0 x a) (λ b. own x (around_own u term x b)) i,
    lambdas_bound term lams own h.1,
  )

  parts_bound : (term : Term) → Bound term → AllByRecursion (λ x. Within (binds_of x) (binders u)) (parts_of u [] term)
  parts_bound term h =
      each_append (λ x. Within (binds_of x) (binders u)) (map (lambda_part (around term)) (lambdas_of u term)) (own_parts [] term) (lambdas_bound term (lambdas_of u term) h.0 h.1)
      (each_more (λ x. Within (binds_of x) (own_binders term)) (λ x. Within (binds_of x) (binders u)) (own_parts [] term) (λ x f y i. h.0 y (f y i)) (inside binds_of (own_parts [] term)))

  -- ---- what is free is bound in the program

  abbrev Q : List Name → List ℕ → Term → Type 0
  Q names cs term = UsesVariables names cs term × Bound term

  abbrev FreeIsBound : ℕ → Type 0
  FreeIsBound t = Within (free_at u t) (binders u)

  abbrev Uses : ℕ → List Name → Part → Type 0
  Uses k names x = HoldsWithin UsesVariables u k (x.binds ++ names) x.catches x.at

  abbrev Leads : ℕ → List Name → Part → Type 0
  Leads k names x = HoldsWithin LeadsOn u k (x.binds ++ names) x.catches x.at

  abbrev Binds : ℕ → List Name → Part → Type 0
  Binds k names x = HoldsWithin Q u k (x.binds ++ names) x.catches x.at

  more_around : (binds names : List Name) → Within (map variable_of binds) (binders u) → Within (map variable_of names) (binders u) → Within (map variable_of (binds ++ names)) (binders u)
  more_around binds names a b = λ x i. either_in (map variable_of binds) (map variable_of names) x (λ l. a x l) (λ r. b x r) (subst (λ zs. is_in zs x ≡ true) (map_joins binds names) i)

  here : (k : ℕ) (names : List Name) (cs : List ℕ) (t : ℕ) → HoldsWithin UsesVariables u k names cs t → HoldsWithin LeadsOn u k names cs t → k ≤ depth_of u → Within (map variable_of names) (binders u) → FreeIsBound t
  here k names cs t h g le w = λ x i.
      w x (in_each (λ y. is_in (map variable_of names) y ≡ true) (free_within u k t) x (free_around u k names cs t h g) (subst (λ zs. is_in zs x ≡ true) (sym (free_stable u UsesVariables k names cs t h k (depth_of u) (omega arith) le)) i))

  free_bound : (k : ℕ) (names : List Name) (cs : List ℕ) (t : ℕ) → HoldsWithin UsesVariables u k names cs t → HoldsWithin LeadsOn u k names cs t → HoldsWithin Q u k names cs t → k ≤ depth_of u → Within (map variable_of names) (binders u)
      → AllByRecursion FreeIsBound (walked_within u k t)
  unfolding HoldsWithin walked_within
  free_bound zero names cs t h g q le w = absurd h
  free_bound (suc k) names cs t h g q le w = at_option (slice_get u.terms.items t) (here (suc k) names cs t h g le w) (λ ns ds r a b c v. free_bound k ns ds r a b c (omega (arith, le)) v) h g q
    where
      at_option : (o : Option Term) → FreeIsBound t
          → ((ns : List Name) (ds : List ℕ) (r : ℕ) → HoldsWithin UsesVariables u k ns ds r → HoldsWithin LeadsOn u k ns ds r → HoldsWithin Q u k ns ds r → Within (map variable_of ns) (binders u) → AllByRecursion FreeIsBound (walked_within u k r))
          → IsSomeAnd o (λ term. UsesVariables names cs term × AllByRecursion (Uses k names) (parts_of u cs term)) → IsSomeAnd o (λ term. LeadsOn names cs term × AllByRecursion (Leads k names) (parts_of u cs term))
          → IsSomeAnd o (λ term. Q names cs term × AllByRecursion (Binds k names) (parts_of u cs term))
          → AllByRecursion FreeIsBound (t ∷ option_map_or (λ term. flat_map (λ p. walked_within u k p.at) (parts_of u [] term)) o [])
      at_option None f go h g q = absurd h
      at_option (Some term) f go h g q =
          let Z = λ (x : Part). AllByRecursion FreeIsBound (walked_within u k x.at) in (
            f,
            each_joined (λ p. walked_within u k p.at) FreeIsBound (parts_of u [] term)
                (each_of_two (λ x. Within (binds_of x) (binders u)) (λ x. Within (binds_of x) (binders u) → Z x) Z (parts_of u [] term) (λ x a b. b a) (parts_bound term q.0.1)
                (parts_same (λ bound at. Within bound (binders u) → AllByRecursion FreeIsBound (walked_within u k at)) u cs [] term
                (each_of_two (λ x. Uses k names x × Leads k names x) (Binds k names) (λ x. Within (binds_of x) (binders u) → Z x) (parts_of u cs term)
                (λ x ab c v. go (x.binds ++ names) x.catches x.at ab.0 ab.1 c (more_around x.binds names v w))
                (each_of_two (Uses k names) (Leads k names) (λ x. Uses k names x × Leads k names x) (parts_of u cs term) (λ x a b. (a, b)) h.1 g.1) q.1))),
          )

  -- ---- what is free and bound is reached

  in_filter : (test : ℕ → Bool) (xs : List ℕ) (x : ℕ) → is_in xs x ≡ true → test x ≡ true → is_in (filter test xs) x ≡ true
  in_filter test [] x i e = i
  in_filter test (y ∷ xs) x i e = by_test (test y) refl i (λ r. in_filter test xs x r e)
    where
      by_test : (b : Bool) → test y ≡ b → ((y == x) || is_in xs x) ≡ true → (is_in xs x ≡ true → is_in (filter test xs) x ≡ true) → is_in (cond b (y ∷ filter test xs) (filter test xs)) x ≡ true
      by_test true q j go = any_or (y == x) (is_in xs x) (λ a. or_left (y == x) _ a) (λ r. or_right (y == x) _ (go r)) j
      by_test false q j go = any_or (y == x) (is_in xs x) (λ a. absurd (true≢false (sym e ∙ subst (λ z. test z ≡ false) (eqb-true y x a) q))) go j

  free_reached : (known : List Known) (names free : List ℕ) (x : ℕ) → is_in names x ≡ true → is_in free x ≡ true → (rounds : ℕ) → is_in (reached_within known names free rounds) x ≡ true
  unfolding reached_within
  free_reached known names free x n f zero = in_filter (is_in free) names x n f
  free_reached known names free x n f (suc rounds) =
      let before = reached_within known names free rounds in
      in_filter (λ y. is_in before y || list_any (λ k. is_in before k.name && is_in k.free y) known) names x n (or_left (is_in before x) _ (free_reached known names free x n f rounds))

  -- ---- so few are live

  ones : (xs : List ℕ) → length xs ≡ tot (λ x. 1) xs
  ones [] = refl
  ones (x ∷ xs) = let e = ones xs in omega (arith, e)

  pub few_reached : (t : ℕ) (term : Term) (xs : List ℕ) → slice_get u.terms.items t ≡ Some term → term_reach u t ≤ u.shared.size + 2 → Distinct xs → Within xs (reached_from u (free_at u t)) → length xs ≤ u.shared.size + 2
  few_reached t term xs is fits distinct all =
      let reached = reached_from u (free_at u t) in
      let a = ones xs in
      let b = tot_among (λ x. 1) xs reached distinct all in
      let c = tot_each (λ x. 1) (words_of u) reached (words_least u) in
      let d = sum_tot (words_of u) reached in
      let e : term_reach u t ≡ sum_by (words_of u) reached + 2 * length (procs_of term) = ap (λ o. option_map_or (λ r. sum_by (words_of u) (reached_from u (free_at u t)) + 2 * length (procs_of r)) o 0) is in
      omega (arith, a, b, c, d, e, fits)

  few : (t : ℕ) (term : Term) (xs : List ℕ) → slice_get u.terms.items t ≡ Some term → term_reach u t ≤ u.shared.size + 2 → FreeIsBound t → Distinct xs → Within xs (free_at u t) → length xs ≤ u.shared.size + 2
  few t term xs is fits bound distinct free =
      few_reached t term xs is fits distinct (λ x i. free_reached (known_of u) (binders u) (free_at u t) x (bound x (free x i)) (free x i) (length (known_of u)))

  -- as many as are reached by a LAMBDA
  pub few_in_lambda : (xs free : List ℕ) → Distinct xs → Within xs (reached_from u free) → length xs ≤ length (reached_from u free)
  few_in_lambda xs free distinct all =
      let a = ones xs in
      let b = tot_among (λ x. 1) xs (reached_from u free) distinct all in
      let c = ones (reached_from u free) in
      omega (arith, a, b, c)

pub numbered : (xs : List Var) → length (numbers xs) ≡ length xs
numbered [] = refl
numbered (x ∷ xs) = ap suc (numbered xs)

pub and_first : (a b : Bool) → (a && b) ≡ true → a ≡ true
and_first true b e = refl
and_first false b e = e

pub free_is_bound : (cps : Cps) → IsFormed cps → (t : ℕ) → is_in (walked cps) t ≡ true → Within (free_at cps t) (binders cps)
free_is_bound cps formed t reached = in_each (FreeIsBound cps) (walked cps) t (each_joined (λ p. walked_within cps (depth_of cps) p.at) (FreeIsBound cps) (root_parts cps) roots) reached
  where
    roots : AllByRecursion (λ p. AllByRecursion (FreeIsBound cps) (walked_within cps (depth_of cps) p.at)) (root_parts cps)
    roots =
        each_of_two (λ p. HoldsWithin UsesVariables cps (depth_of cps) p.binds p.catches p.at × HoldsWithin LeadsOn cps (depth_of cps) p.binds p.catches p.at) (λ p. HoldsWithin (Q cps) cps (depth_of cps) p.binds p.catches p.at × Within (binds_of p) (binders cps))
        (λ p. AllByRecursion (FreeIsBound cps) (walked_within cps (depth_of cps) p.at)) (root_parts cps) (λ p ab cd. free_bound cps (depth_of cps) p.binds p.catches p.at ab.0 ab.1 cd.0 (omega arith) cd.1)
        (each_of_two (λ p. HoldsWithin UsesVariables cps (depth_of cps) p.binds p.catches p.at) (λ p. HoldsWithin LeadsOn cps (depth_of cps) p.binds p.catches p.at)
        (λ p. HoldsWithin UsesVariables cps (depth_of cps) p.binds p.catches p.at × HoldsWithin LeadsOn cps (depth_of cps) p.binds p.catches p.at) (root_parts cps) (λ p a b. (a, b)) formed.scopes.used formed.ways)
        (each_of_two (λ p. HoldsWithin (Q cps) cps (depth_of cps) p.binds p.catches p.at) (λ p. Within (binds_of p) (binders cps)) (λ p. HoldsWithin (Q cps) cps (depth_of cps) p.binds p.catches p.at × Within (binds_of p) (binders cps)) (root_parts cps) (λ p a b. (a, b))
        (of_each cps (Bound cps) formed.scopes.used (terms_bound cps)) (λ x i. absurd (false≢true i), roots_bound (root_lams cps) outer))
      where
        inner : List ℕ
        inner = flat_map lam_binders (reached_lams cps)

        outer : AllByRecursion (λ lam. Within (lam_binders lam) (binders cps)) (root_lams cps)
        outer =
            each_more (λ lam. Within (lam_binders lam) inner) (λ lam. Within (lam_binders lam) (binders cps)) (root_lams cps) (λ lam h x i. any_right (λ z. z == x) (flat_map own_binders (reached_terms cps)) inner (h x i))
            (each_left (λ lam. Within (lam_binders lam) inner) (root_lams cps) (flat_map (lambdas_of cps) (reached_terms cps)) (inside lam_binders (reached_lams cps)))

        roots_bound : (lams : List Lam) → AllByRecursion (λ lam. Within (lam_binders lam) (binders cps)) lams → AllByRecursion (λ p. Within (binds_of p) (binders cps)) (map (lambda_part []) lams)
        roots_bound [] h = tt
        roots_bound (lam ∷ lams) h = (λ x i. lam_bound cps lam.params lam.k.0 [] x (λ a. h.0 x a) (λ b. absurd (false≢true b)) i, roots_bound lams h.1)

pub few_are_live : FewAreLive
few_are_live cps live whole is t c = at_option (slice_get live.at.items t) (is.reached t c)
  where
    reached : is_in (walked cps) t ≡ true
    reached = contains_in (walked cps) t c.0 c.1 c.2

    formed : IsFormed cps
    formed = whole.formed

    bound : FreeIsBound cps t
    bound = free_is_bound cps formed t reached

    by : IsFreeBy cps t
    by = in_each (IsFreeBy cps) (walked cps) t (walked_free cps formed) reached

    fits : term_reach cps t ≤ cps.shared.size + 2
    fits = in_each (λ r. term_reach cps r ≤ cps.shared.size + 2) (walked cps) t (each_of_all (λ r. term_reach cps r ≤ cps.shared.size + 2) (walked cps) whole.fits.terms) reached

    at_option : (o : Option (List Var)) → IsSomeAnd o (AreLive cps t) → IsSomeAnd o (λ xs. length xs ≤ cps.shared.size + 2)
    at_option None h = absurd h
    at_option (Some xs) h =
        let n = numbered xs in
        let f = few cps t by.term (numbers xs) by.is fits bound (distinct_of (numbers xs) h.once) (λ x i. and_first (is_in (free_at cps t) x) (not (is_in (continuations cps) x)) (sym (h.exact x) ∙ i)) in
        omega (arith, n, f)
