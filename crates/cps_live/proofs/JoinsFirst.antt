-- In the order of the walk a Join stands before each term in which its k is free.
use Rattle.std.specs.Prelude.{IsSomeAnd}
use Rattle.std.specs.List.{AllByRecursion, flat_map}
use Rattle.std.specs.Option.{option_map_or}
use Rattle.std.proofs.Common.{◌≡◌, ℕ, zero, suc, ◌≤◌, ◌==◌, true, List, [], ◌∷◌, ◌++◌, map, slice_get, Option, Some, None, refl, sym, ap, ◌∙◌, subst, arith}
use Rattle.std.proofs.lemmas.Bool.{false≢true}
use Rattle.cps_ir.specs.declared.terms.Lam.{Lam}
use Rattle.cps_ir.specs.declared.terms.Term.{Term}
use Rattle.cps_ir.specs.declared.terms.Cps.{Cps}
use Rattle.cps_ir.specs.Parts.{Name, variable_of, Part, around, own_parts, parts_of, lambda_part, lambdas_of, root_lams, root_parts, depth_of, walked, walked_within, reached_terms, reached_lams, own_binders, lam_binders}
use Rattle.cps_ir.specs.Reaches.{is_in, binds_of, free_within, free_at}
use Rattle.cps_ir.specs.Whole.{UsesVariables, LeadsOn, HoldsWithin, IsFormed}
use Rattle.cps_ir.proofs.ProperLists.{each_more, each_of_two, each_append}
use Rattle.cps_ir.proofs.Closed.{or_left, or_right, same_number, parts_same, map_joins, free_around}
use Rattle.cps_ir.proofs.Apart.{any_or, apart, distinct_binders, either_in, inside, left_part}
use Rattle.cps_ir.proofs.Inside.{in_each, free_stable, around_own, lam_bound}
use Rattle.cps_walk.specs.Walks.{places_of, part_places, places_under}
use Rattle.cps_walk.proofs.Walked.{parts_placed}
use Rattle.cps_live.specs.LiveLaws.{JoinsAreBefore, JoinsComeFirst}
use Rattle.cps_live.specs.Needs.{IsJoin}
use Rattle.cps_live.proofs.Behind.{walk_is_behind, roots_walked}
use Rattle.cps_live.proofs.FewInside.{each_at}
use Rattle.cps_live.proofs.FewNeeded.{stands}
use Rattle.cps_live.proofs.NeedLemmas.{in_terms, one_place, binds_k, part_walked}
use Rattle.cps_reach.proofs.Members.{In, each_there, in_left, in_right, in_flat, in_found, at_in}

module _ (u : Cps) (formed : IsFormed u) where
  abbrev IsWalked : ℕ → Type 0
  IsWalked t = is_in (walked u) t ≡ true

  -- ---- more that stands before

  abbrev More : List ℕ → List ℕ → Type 0
  More xs ys = (t : ℕ) → is_in xs t ≡ true → is_in ys t ≡ true

  more_before : (xs ys ts : List ℕ) → More xs ys → JoinsAreBefore u xs ts → JoinsAreBefore u ys ts
  more_before xs ys [] m h = tt
  more_before xs ys (t ∷ ts) m h = (λ k param body j i. m j.at (h.0 k param body j i), more_before (t ∷ xs) (t ∷ ys) ts (λ s i. any_or (t == s) (is_in xs s) (λ a. or_left (t == s) _ a) (λ b. or_right (t == s) _ (m s b)) i) h.1)

  before_all : (xs : List ℕ) (f : Part → List ℕ) (ps : List Part) → AllByRecursion (λ p. JoinsAreBefore u xs (f p)) ps → JoinsAreBefore u xs (flat_map f ps)
  before_all xs f [] h = tt
  before_all xs f (p ∷ ps) h = both xs (f p) (flat_map f ps) h.0 (before_all xs f ps h.1)
    where
      both : (xs ts ss : List ℕ) → JoinsAreBefore u xs ts → JoinsAreBefore u xs ss → JoinsAreBefore u xs (ts ++ ss)
      both xs [] ss a b = b
      both xs (t ∷ ts) ss a b = (a.0, both (t ∷ xs) ts ss a.1 (more_before xs (t ∷ xs) ss (λ s i. or_right (t == s) _ i) b))

  -- ---- the Joins whose k is a name there

  abbrev Seen : List ℕ → List Name → Type 0
  Seen xs names = (k param body : ℕ) (j : IsJoin u k param body) → is_in (map variable_of names) k ≡ true → is_in xs j.at ≡ true

  -- a k that a part binds is that of the term, if it is a Join's
  abbrev BindsHere : ℕ → Part → Type 0
  BindsHere t p = (k param body : ℕ) (j : IsJoin u k param body) → is_in (binds_of p) k ≡ true → j.at ≡ t

  of_term : (t : ℕ) (term : Term) → IsWalked t → slice_get u.terms.items t ≡ Some term → (k param body : ℕ) (j : IsJoin u k param body) → is_in (own_binders term) k ≡ true → j.at ≡ t
  of_term t term i e k param body j h = one_place u.terms.items (walked u) (left_part (flat_map own_binders (reached_terms u)) (flat_map lam_binders (reached_lams u)) (distinct_binders u formed)) k j.at t _ term j.reached i j.is e
      (binds_k u formed j.var j.value body j.rest k j.k_is) h

  of_lambda : (lam : Lam) → In lam (reached_lams u) → (k param body : ℕ) → IsJoin u k param body → is_in (lam_binders lam) k ≡ true → ⊥
  of_lambda lam listed k param body j h =
      apart (flat_map own_binders (reached_terms u)) (flat_map lam_binders (reached_lams u)) k (distinct_binders u formed) (in_terms own_binders u.terms.items (walked u) j.at k _ j.reached j.is (binds_k u formed j.var j.value body j.rest k j.k_is))
      (at_in (λ z. (y : ℕ) → is_in (lam_binders z) y ≡ true → is_in (flat_map lam_binders (reached_lams u)) y ≡ true) lam (reached_lams u) (inside lam_binders (reached_lams u)) listed k h)

  lambdas_here : (t : ℕ) (term : Term) → IsWalked t → slice_get u.terms.items t ≡ Some term → (lams : List Lam) → AllByRecursion (λ lam. In lam (reached_lams u)) lams → AllByRecursion (BindsHere t) (map (lambda_part (around term)) lams)
  lambdas_here t term i e [] h = tt
  lambdas_here t term i e (lam ∷ lams) h = (
    λ k param body j b. lam_bound u lam.params lam.k.0 (around term) k (λ a. absurd (of_lambda lam h.0 k param body j a)) (λ a. of_term t term i e k param body j (around_own u term k a)) b,
    lambdas_here t term i e lams h.1,
  )

  parts_here : (t : ℕ) (term : Term) → IsWalked t → slice_get u.terms.items t ≡ Some term → AllByRecursion (BindsHere t) (parts_of u [] term)
  parts_here t term i e =
      each_append (BindsHere t) (map (lambda_part (around term)) (lambdas_of u term)) (own_parts [] term)
      (lambdas_here t term i e (lambdas_of u term)
      (each_more (λ lam. In lam (lambdas_of u term)) (λ lam. In lam (reached_lams u)) (lambdas_of u term)
      (λ lam h. in_right lam (root_lams u) (flat_map (lambdas_of u) (reached_terms u)) (in_flat (lambdas_of u) term lam (reached_terms u) (in_found (slice_get u.terms.items) t term (walked u) (stands t (walked u) i) e) h)) (each_there (lambdas_of u term))))
      (each_more (λ p. (x : ℕ) → is_in (binds_of p) x ≡ true → is_in (own_binders term) x ≡ true) (BindsHere t) (own_parts [] term) (λ p f k param body j b. of_term t term i e k param body j (f k b)) (inside binds_of (own_parts [] term)))

  parts_walked : (t : ℕ) (term : Term) → IsWalked t → slice_get u.terms.items t ≡ Some term → AllByRecursion (λ p. IsWalked p.at) (parts_of u [] term)
  parts_walked t term i e =
      let ps = parts_of u [] term in
      let under : places_under u t ≡ places_of ps = ap (λ o. option_map_or (part_places u) o []) e ∙ sym (parts_placed u term) in
      each_at IsWalked ps (subst (AllByRecursion IsWalked) under (part_walked u formed (walked u) t (walk_is_behind u formed) i))

  -- ---- the walk

  abbrev Uses : ℕ → List Name → Part → Type 0
  Uses d names x = HoldsWithin UsesVariables u d (x.binds ++ names) x.catches x.at

  abbrev Leads : ℕ → List Name → Part → Type 0
  Leads d names x = HoldsWithin LeadsOn u d (x.binds ++ names) x.catches x.at

  more_seen : (t : ℕ) (xs : List ℕ) (p : Part) (names : List Name) → BindsHere t p → Seen xs names → Seen (t ∷ xs) (p.binds ++ names)
  more_seen t xs p names here s k param body j i =
      either_in (binds_of p) (map variable_of names) k (λ a. or_left (t == j.at) _ (same_number t j.at (sym (here k param body j a)))) (λ b. or_right (t == j.at) _ (s k param body j b))
      (subst (λ zs. is_in zs k ≡ true) (map_joins p.binds names) i)

  abbrev Walks : ℕ → List Name → ℕ → Type 0
  Walks d names t = (xs : List ℕ) → Seen xs names → JoinsAreBefore u xs (walked_within u d t)

  head : (d : ℕ) (names : List Name) (cs : List ℕ) (t : ℕ) → HoldsWithin UsesVariables u d names cs t → HoldsWithin LeadsOn u d names cs t → d ≤ depth_of u → (xs : List ℕ) → Seen xs names
      → (k param body : ℕ) (j : IsJoin u k param body) → is_in (free_at u t) k ≡ true → is_in xs j.at ≡ true
  head d names cs t h g le xs s k param body j i = s k param body j
      (in_each (λ y. is_in (map variable_of names) y ≡ true) (free_within u d t) k (free_around u d names cs t h g) (subst (λ zs. is_in zs k ≡ true) (sym (free_stable u UsesVariables d names cs t h d (depth_of u) (omega arith) le)) i))

  walks : (d : ℕ) (names : List Name) (cs : List ℕ) (t : ℕ) → HoldsWithin UsesVariables u d names cs t → HoldsWithin LeadsOn u d names cs t → d ≤ depth_of u → IsWalked t → Walks d names t
  unfolding HoldsWithin walked_within
  walks zero names cs t h g le w xs s = absurd h
  walks (suc d) names cs t h g le w xs s =
      at_option (slice_get u.terms.items t) refl (head (suc d) names cs t h g le xs s) (λ ns ds r a b v. walks d ns ds r a b (omega (arith, le)) v) h g
    where
      at_option : (o : Option Term) → slice_get u.terms.items t ≡ o → ((k param body : ℕ) (j : IsJoin u k param body) → is_in (free_at u t) k ≡ true → is_in xs j.at ≡ true)
          → ((ns : List Name) (ds : List ℕ) (r : ℕ) → HoldsWithin UsesVariables u d ns ds r → HoldsWithin LeadsOn u d ns ds r → IsWalked r → Walks d ns r)
          → IsSomeAnd o (λ term. UsesVariables names cs term × AllByRecursion (Uses d names) (parts_of u cs term)) → IsSomeAnd o (λ term. LeadsOn names cs term × AllByRecursion (Leads d names) (parts_of u cs term))
          → JoinsAreBefore u xs (t ∷ option_map_or (λ term. flat_map (λ p. walked_within u d p.at) (parts_of u [] term)) o [])
      at_option None e f go h g = absurd h
      at_option (Some term) e f go h g =
          let Z = λ (x : Part). JoinsAreBefore u (t ∷ xs) (walked_within u d x.at) in
          let Free = λ (bound : List ℕ) (at : ℕ). ((k param body : ℕ) (j : IsJoin u k param body) → is_in bound k ≡ true → j.at ≡ t) → IsWalked at → JoinsAreBefore u (t ∷ xs) (walked_within u d at) in (
            f,
            before_all (t ∷ xs) (λ p. walked_within u d p.at) (parts_of u [] term)
                (each_of_two (λ x. BindsHere t x × IsWalked x.at) (λ x. Free (binds_of x) x.at) Z (parts_of u [] term) (λ x a b. b a.0 a.1)
                (each_of_two (BindsHere t) (λ x. IsWalked x.at) (λ x. BindsHere t x × IsWalked x.at) (parts_of u [] term) (λ x a b. (a, b)) (parts_here t term w e) (parts_walked t term w e))
                (parts_same Free u cs [] term
                (each_of_two (Uses d names) (Leads d names) (λ x. Free (binds_of x) x.at) (parts_of u cs term) (λ x a b here v. go (x.binds ++ names) x.catches x.at a b v (t ∷ xs) (more_seen t xs x names here s)) h.1 g.1))),
          )

  -- ---- from the roots

  lambda_roots : (lams : List Lam) → AllByRecursion (λ lam. In lam (reached_lams u)) lams → AllByRecursion (λ p. Seen [] p.binds) (map (lambda_part []) lams)
  lambda_roots [] h = tt
  lambda_roots (lam ∷ lams) h = (λ k param body j b. lam_bound u lam.params lam.k.0 [] k (λ a. absurd (of_lambda lam h.0 k param body j a)) (λ a. absurd (false≢true a)) b, lambda_roots lams h.1)

  roots_listed : AllByRecursion (λ lam. In lam (reached_lams u)) (root_lams u)
  roots_listed = each_more (λ lam. In lam (root_lams u)) (λ lam. In lam (reached_lams u)) (root_lams u) (λ lam h. in_left lam (root_lams u) (flat_map (lambdas_of u) (reached_terms u)) h) (each_there (root_lams u))

  pub joins_before : JoinsAreBefore u [] (walked u)
  joins_before =
      before_all [] (λ p. walked_within u (depth_of u) p.at) (root_parts u)
      (each_of_two (λ p. HoldsWithin UsesVariables u (depth_of u) p.binds p.catches p.at × HoldsWithin LeadsOn u (depth_of u) p.binds p.catches p.at) (λ p. IsWalked p.at × Seen [] p.binds) (λ p. JoinsAreBefore u [] (walked_within u (depth_of u) p.at)) (root_parts u)
      (λ p a b. walks (depth_of u) p.binds p.catches p.at a.0 a.1 (omega arith) b.0 [] b.1)
      (each_of_two (λ p. HoldsWithin UsesVariables u (depth_of u) p.binds p.catches p.at) (λ p. HoldsWithin LeadsOn u (depth_of u) p.binds p.catches p.at) _ (root_parts u) (λ p a b. (a, b)) formed.scopes.used formed.ways)
      (each_of_two (λ p. IsWalked p.at) (λ p. Seen [] p.binds) (λ p. IsWalked p.at × Seen [] p.binds) (root_parts u) (λ p a b. (a, b)) (roots_walked u formed) (λ k param body j b. absurd (false≢true b), lambda_roots (root_lams u) roots_listed)))

pub joins_come_first : JoinsComeFirst
joins_come_first cps whole = joins_before cps whole.formed
