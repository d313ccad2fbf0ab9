-- What the loops of the choice keep, and what holds of each plan.
use Rattle.std.specs.Prelude.{nat_lt, IsSomeAnd}
use Rattle.std.specs.List.{AllByRecursion, filter_map, flat_map, cons_option}
use Rattle.std.proofs.Common.{◌≡◌, ℕ, zero, suc, ◌+◌, ◌<◌, ◌≤◌, ◌==◌, Bool, true, false, ◌||◌, if◌then◌else◌, List, [], ◌∷◌, ◌++◌, length, take, map, get_or, slice_get, Some, refl, sym, ap, ◌∙◌, subst, arith, ◌⊎◌, inl, inr, ⊎_elim}
use Rattle.std.proofs.lemmas.Bool.{ltb-true, ltb-false}
use Rattle.std.proofs.lemmas.List.{take_more}
use Rattle.std.proofs.lemmas.List.Elements.{filter_map-append}
use Rattle.std.proofs.lemmas.List.Folds.{list_any-append}
use Rattle.std.proofs.lemmas.Grind.{flat_map-append}
use Rattle.cps_ir.specs.declared.terms.Lam.{Lam}
use Rattle.cps_ir.specs.declared.terms.Term.{Term}
use Rattle.cps_ir.specs.declared.terms.Cps.{Cps}
use Rattle.cps_ir.specs.Parts.{first_lams, root_lams}
use Rattle.cps_ir.specs.Reaches.{is_in, free_in, methods_of}
use Rattle.cps_ir.specs.Whole.{IsWhole}
use Rattle.cps_ir.proofs.ProperLists.{some_same, none_some, each_of_all, each_taken, there_below}
use Rattle.cps_ir.proofs.Closed.{whole_is_closed}
use Rattle.cps_walk.specs.Marked.{is_marked}
use Rattle.cps_walk.proofs.MarkLemmas.{or_nothing}
use Rattle.closure_strategy.specs.declared.plans.Strategy.{Strategy}
use Rattle.closure_strategy.specs.declared.plans.Strategy.TheVariants.{Label, Heap, Static}
use Rattle.closure_strategy.specs.declared.plans.Plan.{Plan}
use Rattle.closure_strategy.specs.Plans.{chosen, is_method, IsPlan, IsSound, PlansAreSound}

-- ---- marks

or_grouped : (x y z : Bool) → ((x || y) || z) ≡ (x || (y || z))
or_grouped true y z = refl
or_grouped false y z = refl

-- one place more
pub marked_more : (places : List ℕ) (i d : ℕ) (first old new : List Bool) → i < length places → ((l : ℕ) → is_marked old l ≡ (is_marked first l || is_in (take i places) l))
    → ((l : ℕ) → is_marked new l ≡ (is_marked old l || get_or places i d == l)) → (l : ℕ) → is_marked new l ≡ (is_marked first l || is_in (take (i + 1) places) l)
marked_more places i d first old new lt h g l =
    g l ∙ ap (λ b. b || get_or places i d == l) (h l) ∙ or_grouped (is_marked first l) (is_in (take i places) l) (get_or places i d == l)
    ∙ ap (λ b. is_marked first l || (is_in (take i places) l || b)) (or_nothing (get_or places i d == l))
    ∙ ap (λ b. is_marked first l || b) (sym (list_any-append (λ y. y == l) (take i places) (get_or places i d ∷ [])) ∙ ap (λ ps. is_in ps l) (sym (take_more places i d lt)))

-- the methods of the terms at some places
abbrev pub methods_at : List Term → List ℕ → List ℕ
methods_at terms places = flat_map methods_of (filter_map (slice_get terms) places)

one_term : (terms : List Term) (i : ℕ) (d : Term) → i < length terms → flat_map methods_of (cons_option (slice_get terms i) []) ≡ methods_of (get_or terms i d)
one_term [] i d lt = absurd (omega (arith, lt))
one_term (t ∷ terms) zero d lt = no_more (methods_of t)
  where
    no_more : (xs : List ℕ) → xs ++ [] ≡ xs
    no_more [] = refl
    no_more (x ∷ xs) = ap (λ ys. x ∷ ys) (no_more xs)
one_term (t ∷ terms) (suc i) d lt = one_term terms i d (omega (arith, lt))

-- one term more
pub methods_more : (terms : List Term) (places : List ℕ) (i d : ℕ) (e : Term) (old new : List Bool) → i < length places → get_or places i d < length terms
    → ((l : ℕ) → is_marked old l ≡ is_in (methods_at terms (take i places)) l) → ((l : ℕ) → is_marked new l ≡ (is_marked old l || is_in (methods_of (get_or terms (get_or places i d) e)) l))
    → (l : ℕ) → is_marked new l ≡ is_in (methods_at terms (take (i + 1) places)) l
methods_more terms places i d e old new lt there h g l =
    g l ∙ ap (λ b. b || is_in (methods_of (get_or terms (get_or places i d) e)) l) (h l)
    ∙ ap (λ ms. is_in (methods_at terms (take i places)) l || is_in ms l) (sym (one_term terms (get_or places i d) e there))
    ∙ sym (list_any-append (λ y. y == l) (methods_at terms (take i places)) (methods_at terms (get_or places i d ∷ [])))
    ∙ ap (λ ms. is_in ms l) (sym (flat_map-append methods_of (filter_map (slice_get terms) (take i places)) (filter_map (slice_get terms) (get_or places i d ∷ [])))
    ∙ ap (flat_map methods_of) (sym (filter_map-append (slice_get terms) (take i places) (get_or places i d ∷ []))) ∙ ap (methods_at terms) (sym (take_more places i d lt)))

-- ---- plans

-- as many as there are so far, each what a function gives at its place
pub record IsMade {X : Type 0} (make : ℕ → X) (count : ℕ) (xs : List X) : Type 0 where
  pub counted : length xs ≡ count
  pub each : (l : ℕ) → l < count → slice_get xs l ≡ Some (make l)

pub none_made : {X : Type 0} (make : ℕ → X) (xs : List X) → xs ≡ [] → IsMade make 0 xs
none_made make xs e = record { counted = ap length e; each = λ l lt. absurd (omega (arith, lt)) }

pushed : {X : Type 0} (xs : List X) (x : X) (n : ℕ) → length xs ≡ n → slice_get (xs ++ x ∷ []) n ≡ Some x
pushed [] x zero e = refl
pushed [] x (suc n) e = absurd (omega (arith, e))
pushed (y ∷ xs) x zero e = absurd (omega (arith, e))
pushed (y ∷ xs) x (suc n) e = pushed xs x n (omega (arith, e))

kept : {X : Type 0} (xs : List X) (x : X) (l : ℕ) → l < length xs → slice_get (xs ++ x ∷ []) l ≡ slice_get xs l
kept [] x l lt = absurd (omega (arith, lt))
kept (y ∷ xs) x zero lt = refl
kept (y ∷ xs) x (suc l) lt = kept xs x l (omega (arith, lt))

pub one_made : {X : Type 0} (make : ℕ → X) (count : ℕ) (xs ys : List X) (x : X) → IsMade make count xs → ys ≡ xs ++ x ∷ [] → x ≡ make count → IsMade make (count + 1) ys
one_made {X = X} make count xs ys x h e q = record {
  counted = ap length e ∙ by_length xs ∙ ap (λ n. n + 1) h.counted;
  each = λ l lt. ap (λ zs. slice_get zs l) e ∙ by_place l (cases l count (omega (arith, lt)));
}
  where
    by_length : (zs : List X) → length (zs ++ x ∷ []) ≡ length zs + 1
    by_length [] = omega arith
    by_length (z ∷ zs) = let r = by_length zs in omega (arith, r)

    cases : (l n : ℕ) → l ≤ n → (l < n) ⊎ (l ≡ n)
    cases l n le = by_test (nat_lt l n) refl
      where
        by_test : (c : Bool) → nat_lt l n ≡ c → (l < n) ⊎ (l ≡ n)
        by_test true t = inl (ltb-true l n t)
        by_test false t = let ge = ltb-false l n t in inr (omega (arith, ge, le))

    by_place : (l : ℕ) → (l < count) ⊎ (l ≡ count) → slice_get (xs ++ x ∷ []) l ≡ Some (make l)
    by_place l c = ⊎_elim (λ lt. let n = h.counted in kept xs x l (omega (arith, lt, n)) ∙ h.each l lt) (λ same. subst (λ m. slice_get (xs ++ x ∷ []) m ≡ Some (make m)) (sym same) (pushed xs x count h.counted ∙ ap Some q)) c

pub chosen_same : (first : ℕ) (f g : ℕ → Bool) (l : ℕ) → f l ≡ g l → chosen first f l ≡ chosen first g l
chosen_same first f g l e = ap (λ b. if nat_lt l first then Static else if b then Label else Heap) e

-- ---- what holds of each plan

module _ (cps : Cps) (plan : Plan) (whole : IsWhole cps) (h : IsPlan cps plan) where
  there : (l : ℕ) (s : Strategy) → slice_get plan.of.items l ≡ Some s → l < length cps.lams.items
  there l s e = subst (λ n. l < n) h.counted (below plan.of.items l e)
    where
      below : (xs : List Strategy) (i : ℕ) → slice_get xs i ≡ Some s → i < length xs
      below [] i q = none_some s q
      below (x ∷ xs) zero q = omega arith
      below (x ∷ xs) (suc i) q = let lt = below xs i q in omega (arith, lt)

  static_first : (l : ℕ) → slice_get plan.of.items l ≡ Some Static → l < first_lams cps
  static_first l e = by_test (nat_lt l (first_lams cps)) refl (some_same _ _ (sym (h.strategies l (there l Static e)) ∙ e))
    where
      by_method : (c : Bool) → (if c then Label else Heap) ≡ Static → ⊥
      by_method true q = cc
      by_method false q = cc

      by_test : (c : Bool) → nat_lt l (first_lams cps) ≡ c → (if c then Static else if is_method cps l then Label else Heap) ≡ Static → l < first_lams cps
      by_test true t q = ltb-true _ _ t
      by_test false t q = absurd (by_method (is_method cps l) q)

  pub sound : IsSound cps plan
  sound = record {
    first = static_first;
    none_free = λ l e. let lam = there_below cps.lams.items l (there l Static e) in
        subst (λ o. IsSomeAnd o (λ lam. free_in cps lam ≡ [])) (sym lam.1)
        (each_taken (λ lam. free_in cps lam ≡ []) (λ x. x) (first_lams cps) cps.lams.items l lam.0 (same_map (root_lams cps) (each_of_all (λ lam. free_in cps lam ≡ []) (root_lams cps) (whole_is_closed cps whole).procedures)) (static_first l e) lam.1);
    apart = λ l m lt less e. let same = some_same _ _ (sym (h.templates l lt) ∙ e ∙ h.templates m less) in ap (slice_get plan.of.items) same;
  }
    where
      same_map : (xs : List Lam) → AllByRecursion (λ lam. free_in cps lam ≡ []) xs → AllByRecursion (λ lam. free_in cps lam ≡ []) (map (λ x. x) xs)
      same_map [] h = tt
      same_map (x ∷ xs) h = (h.0, same_map xs h.1)

pub plans_are_sound : PlansAreSound
plans_are_sound cps plan whole h = sound cps plan whole h
