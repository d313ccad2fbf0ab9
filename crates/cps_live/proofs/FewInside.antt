-- What a LAMBDA needs is reached from what is free in it, and what the methods of an object need from what is free in them: so it is little.
use Rattle.std.specs.List.{AllByRecursion, filter_map, flat_map, cons_option}
use Rattle.std.specs.Option.{option_map_or}
use Rattle.std.proofs.Common.{◌≡◌, ℕ, ◌==◌, ◌≤◌, nat_lt, Bool, true, false, not, if◌then◌else◌, List, [], ◌∷◌, length, map, slice_get, Option, Some, None, refl, sym, ap, ◌∙◌, subst, arith}
use Rattle.std.proofs.lemmas.Bool.{false≢true, eqb-true}
use Rattle.std.proofs.lemmas.List.Elements.{All-from_recursion}
use Rattle.cps_ir.specs.declared.terms.Lam.{Lam}
use Rattle.cps_ir.specs.declared.terms.Term.{Term}
use Rattle.cps_ir.specs.declared.terms.Term.TheVariants as Node
use Rattle.cps_ir.specs.declared.terms.Cps.{Cps}
use Rattle.cps_ir.specs.Parts.{Name, Part, first_lams, proc_of, lams_of, lambda_at, around, own_parts, parts_of, lambda_part, lambdas_of, root_lams, walked, reached_terms, reached_lams, own_binders, lam_binders, binders}
use Rattle.cps_ir.specs.Reaches.{is_in, free_at, free_in, known_of, reached_from, lam_reach, free_in_lams, methods_of, methods_reach}
use Rattle.cps_ir.specs.Whole.{IsFormed}
use Rattle.cps_ir.proofs.ProperLists.{each_append, each_joined, each_left, each_of_two, each_of_all, none_some}
use Rattle.cps_ir.proofs.Closed.{or_left, or_right, same_number}
use Rattle.cps_ir.proofs.Apart.{apart, distinct_binders, distinct_of, inside, unless, any_left, any_right, any_or}
use Rattle.cps_walk.specs.Walks.{places_of, part_places, places_under}
use Rattle.cps_walk.proofs.Walked.{parts_placed}
use Rattle.cps_live.specs.LiveLaws.{NeedsFew, LambdasNeedFew, IsMethodNeed, MethodsNeedFew, ObjectsNeedFew}
use Rattle.cps_live.specs.Needs.{IsJoin}
use Rattle.cps_live.proofs.Behind.{walk_is_behind, roots_walked}
use Rattle.cps_live.proofs.Fewness.{free_is_bound, few_in_lambda}
use Rattle.cps_live.proofs.NeedLemmas.{in_terms, binds_k, part_walked}
use Rattle.cps_live.proofs.FewNeeded.{needed_is_reached, stands}
use Rattle.cps_reach.proofs.Members.{In, each_there, in_right, in_flat, in_found, at_in}
use Rattle.cps_reach.proofs.Rounds.{free_in_rounds, in_filtered}

pub each_at : (P : ℕ → Type 0) (ps : List Part) → AllByRecursion P (places_of ps) → AllByRecursion (λ p. P p.at) ps
each_at P [] h = tt
each_at P (p ∷ ps) h = (h.0, each_at P ps h.1)

each_body : (P : ℕ → Type 0) (names : List Name) (lams : List Lam) → AllByRecursion (λ p. P p.at) (map (lambda_part names) lams) → AllByRecursion (λ lam. P lam.body) lams
each_body P names [] h = tt
each_body P names (lam ∷ lams) h = (h.0, each_body P names lams h.1)

-- the methods of an object are among the procedures that it names
method_listed : (term : Term) (l : ℕ) → In l (methods_of term) → In l (lams_of term)
method_listed (Node.Object proc ops methods k) l h = in_right l (filter_map proc_of (proc ∷ [])) methods h
method_listed (Node.Call f args k) l h = absurd h
method_listed (Node.Prim p args k) l h = absurd h
method_listed (Node.If test a b) l h = absurd h
method_listed (Node.Labels vars lams body) l h = absurd h
method_listed (Node.Join k param body rest) l h = absurd h
method_listed (Node.Give k value) l h = absurd h
method_listed (Node.Set x value k) l h = absurd h
method_listed (Node.Cell x value rest) l h = absurd h
method_listed (Node.CellGet x k) l h = absurd h
method_listed (Node.CellSet x value k) l h = absurd h
method_listed (Node.GlobalGet g k) l h = absurd h
method_listed (Node.GlobalInit g value k) l h = absurd h
method_listed (Node.GlobalSet g value k) l h = absurd h
method_listed (Node.Catch x body k) l h = absurd h
method_listed (Node.Uncatch k value) l h = absurd h
method_listed (Node.Halt value) l h = absurd h

flat_has : (f : ℕ → List ℕ) (ls : List ℕ) (l y : ℕ) → is_in ls l ≡ true → is_in (f l) y ≡ true → is_in (flat_map f ls) y ≡ true
flat_has f [] l y i h = absurd (false≢true i)
flat_has f (m ∷ ls) l y i h =
    any_or (m == l) (is_in ls l) (λ e. any_left (λ z. z == y) (f m) (flat_map f ls) (subst (λ k. is_in (f k) y ≡ true) (sym (eqb-true m l e)) h))
    (λ j. any_right (λ z. z == y) (f m) (flat_map f ls) (flat_has f ls l y j h)) i

module _ (u : Cps) (formed : IsFormed u) where
  abbrev IsWalked : ℕ → Type 0
  IsWalked t = is_in (walked u) t ≡ true

  -- ---- the bodies of LAMBDAs are walked

  inner_bodies : (t : ℕ) (term : Term) → IsWalked t → slice_get u.terms.items t ≡ Some term → AllByRecursion (λ lam. IsWalked lam.body) (lambdas_of u term)
  inner_bodies t term i e =
      let ps = parts_of u [] term in
      let under : places_under u t ≡ places_of ps = ap (λ o. option_map_or (part_places u) o []) e ∙ sym (parts_placed u term) in
      each_body IsWalked (around term) (lambdas_of u term)
      (each_left (λ p. IsWalked p.at) (map (lambda_part (around term)) (lambdas_of u term)) (own_parts [] term)
      (each_at IsWalked ps (subst (AllByRecursion IsWalked) under (part_walked u formed (walked u) t (walk_is_behind u formed) i))))

  found : (ts : List ℕ) → ((t : ℕ) → is_in ts t ≡ true → IsWalked t) → AllByRecursion (λ term. AllByRecursion (λ lam. IsWalked lam.body) (lambdas_of u term)) (filter_map (slice_get u.terms.items) ts)
  found [] all = tt
  found (t ∷ ts) all = at_option (slice_get u.terms.items t) refl (found ts (λ s i. all s (or_right (t == s) _ i)))
    where
      at_option : (o : Option Term) → slice_get u.terms.items t ≡ o → AllByRecursion (λ term. AllByRecursion (λ lam. IsWalked lam.body) (lambdas_of u term)) (filter_map (slice_get u.terms.items) ts)
          → AllByRecursion (λ term. AllByRecursion (λ lam. IsWalked lam.body) (lambdas_of u term)) (cons_option o (filter_map (slice_get u.terms.items) ts))
      at_option None e h = h
      at_option (Some term) e h = (inner_bodies t term (all t (or_left (t == t) _ (same_number t t refl))) e, h)

  bodies_walked : AllByRecursion (λ lam. IsWalked lam.body) (reached_lams u)
  bodies_walked =
      each_append (λ lam. IsWalked lam.body) (root_lams u) (flat_map (lambdas_of u) (reached_terms u)) (each_body IsWalked [] (root_lams u) (roots_walked u formed).1)
      (each_joined (lambdas_of u) (λ lam. IsWalked lam.body) (reached_terms u) (found (walked u) (λ t i. i)))

  -- ---- what a LAMBDA needs

  no_join : (lam : Lam) → ((x : ℕ) → is_in (lam_binders lam) x ≡ true → is_in (flat_map lam_binders (reached_lams u)) x ≡ true) → (k param body : ℕ) → IsJoin u k param body → is_in (lam_binders lam) k ≡ false
  no_join lam within k param body j = unless (is_in (lam_binders lam) k)
      (λ e. apart (flat_map own_binders (reached_terms u)) (flat_map lam_binders (reached_lams u)) k (distinct_binders u formed)
      (in_terms own_binders u.terms.items (walked u) j.at k _ j.reached j.is (binds_k u formed j.var j.value body j.rest k j.k_is)) (within k e))

  needs_few : (lam : Lam) → IsWalked lam.body → ((x : ℕ) → is_in (lam_binders lam) x ≡ true → is_in (flat_map lam_binders (reached_lams u)) x ≡ true) → lam_reach u lam ≤ u.shared.size → NeedsFew u lam
  needs_few lam body within fits xs once each =
      let free = free_in u lam in
      let few = few_in_lambda u xs free (distinct_of xs once)
      (λ x i. needed_is_reached u formed free lam.body x (is_in (lam_binders lam)) (no_join lam within)
      (λ y f e. free_in_rounds (known_of u) (binders u) free (length (known_of u)) y (free_is_bound u formed lam.body body y f) (in_filtered (λ z. not (is_in (lam_binders lam) z)) (free_at u lam.body) y f (ap not e))) (each x i).0 (each x i).1) in
      omega (arith, few, fits)

  -- ---- what the methods of an object need

  at_items : (l : ℕ) (lam : Lam) → lambda_at u l ≡ Some lam → slice_get u.lams.items l ≡ Some lam
  at_items l lam e = by (nat_lt l (first_lams u)) e
    where
      by : (b : Bool) → (if b then None else slice_get u.lams.items l) ≡ Some lam → slice_get u.lams.items l ≡ Some lam
      by true q = none_some lam q
      by false q = q

  methods_need_few : (term : Term) → In term (reached_terms u) → methods_reach u term ≤ u.shared.size → MethodsNeedFew u term
  methods_need_few term there fits xs once each =
      let few = few_in_lambda u xs (free_in_lams u (methods_of term)) (distinct_of xs once) (λ x i. one x (each x i)) in omega (arith, few, fits)
    where
      one : (x : ℕ) → IsMethodNeed u (methods_of term) x → is_in (reached_from u (free_in_lams u (methods_of term))) x ≡ true
      one x m =
          let free = free_in_lams u (methods_of term) in
          let lam = m.lam in
          let listed : In lam (reached_lams u) =
          in_right lam (root_lams u) (flat_map (lambdas_of u) (reached_terms u))
          (in_flat (lambdas_of u) term lam (reached_terms u) there (in_found (lambda_at u) m.place lam (lams_of term) (method_listed term m.place (stands m.place (methods_of term) m.among)) m.is)) in
          let body = at_in (λ z. IsWalked z.body) lam (reached_lams u) bodies_walked listed in
          let within = at_in (λ z. (y : ℕ) → is_in (lam_binders z) y ≡ true → is_in (flat_map lam_binders (reached_lams u)) y ≡ true) lam (reached_lams u) (inside lam_binders (reached_lams u)) listed in
          needed_is_reached u formed free lam.body x (is_in (lam_binders lam)) (no_join lam within)
          (λ y f e. free_in_rounds (known_of u) (binders u) free (length (known_of u)) y (free_is_bound u formed lam.body body y f)
          (flat_has (λ l. option_map_or (free_in u) (slice_get u.lams.items l) []) (methods_of term) m.place y m.among
          (subst (λ zs. is_in zs y ≡ true) (sym (ap (λ o. option_map_or (free_in u) o []) (at_items m.place lam m.is))) (in_filtered (λ z. not (is_in (lam_binders lam) z)) (free_at u lam.body) y f (ap not e))))) m.needed m.other

pub lambdas_need_few : LambdasNeedFew
lambdas_need_few cps whole =
    All-from_recursion (NeedsFew cps) (reached_lams cps)
    (each_of_two (λ lam. (is_in (walked cps) lam.body ≡ true) × ((x : ℕ) → is_in (lam_binders lam) x ≡ true → is_in (flat_map lam_binders (reached_lams cps)) x ≡ true)) (λ lam. lam_reach cps lam ≤ cps.shared.size) (NeedsFew cps) (reached_lams cps)
    (λ lam a b. needs_few cps whole.formed lam a.0 a.1 b)
    (each_of_two (λ lam. is_in (walked cps) lam.body ≡ true) (λ lam. (x : ℕ) → is_in (lam_binders lam) x ≡ true → is_in (flat_map lam_binders (reached_lams cps)) x ≡ true) _ (reached_lams cps) (λ lam a b. (a, b)) (bodies_walked cps whole.formed) (inside lam_binders (reached_lams cps)))
    (each_of_all (λ lam. lam_reach cps lam ≤ cps.shared.size) (reached_lams cps) whole.fits.lambdas))

pub objects_need_few : ObjectsNeedFew
objects_need_few cps whole =
    All-from_recursion (MethodsNeedFew cps) (reached_terms cps)
    (each_of_two (λ term. In term (reached_terms cps)) (λ term. methods_reach cps term ≤ cps.shared.size) (MethodsNeedFew cps) (reached_terms cps) (λ term a b. methods_need_few cps whole.formed term a b) (each_there (reached_terms cps))
    (each_of_all (λ term. methods_reach cps term ≤ cps.shared.size) (reached_terms cps) whole.fits.objects))
