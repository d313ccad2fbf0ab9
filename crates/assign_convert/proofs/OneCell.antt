-- Each assigned variable of a program has one Cell in the same with cells: it is bound once, by a Give.
use Rattle.std.specs.Prelude.{filter}
use Rattle.std.specs.List.{AllByRecursion, filter_map, flat_map, cons_option, list_any}
use Rattle.std.specs.Option.{option_map_or}
use Rattle.std.proofs.Common.{◌≡◌, ℕ, zero, suc, ◌+◌, ◌==◌, ◌||◌, ◌⊎◌, inl, inr, ⊎_elim, Bool, true, false, cond, List, [], ◌∷◌, ◌++◌, length, map, slice_get, Option, Some, None, refl, sym, ap, ◌∙◌, subst, arith}
use Rattle.std.proofs.lemmas.Bool.{eqb-true, true≢false, false≢true}
use Rattle.std.proofs.lemmas.List.Folds.{list_any-append}
use Rattle.std.proofs.lemmas.List.Elements.{filter_map-append}
use Rattle.cps_ir.specs.declared.terms.Cont.{Cont}
use Rattle.cps_ir.specs.declared.terms.Cont.TheVariants as Continuation
use Rattle.cps_ir.specs.declared.terms.Lam.{Lam}
use Rattle.cps_ir.specs.declared.terms.Term.{Term}
use Rattle.cps_ir.specs.declared.terms.Term.TheVariants as Node
use Rattle.cps_ir.specs.declared.terms.Cps.{Cps}
use Rattle.cps_ir.specs.Parts.{assigns, is_assigned, Part, lambda_part, parts_of, own_parts, lambdas_of, around, root_lams, depth_of, walked_within, reached_terms, reached_lams, own_binders, lam_binders, binders, arg_variables, cont_variable, used_by}
use Rattle.cps_ir.specs.Reaches.{is_in, without, binds_of, free_within, free_at, free_in}
use Rattle.cps_ir.specs.Loads.{one_if, HasLoads}
use Rattle.cps_ir.specs.Whole.{IsWhole}
use Rattle.cps_ir.proofs.ProperLists.{each_append, each_left, each_right, each_more, each_of_all}
use Rattle.cps_ir.proofs.Closed.{or_left, whole_is_closed}
use Rattle.cps_ir.proofs.Apart.{any_left, any_right, inside, distinct_of}
use Rattle.cps_ir.proofs.Inside.{in_without, around_own, lam_bound}
use Rattle.cps_ir.proofs.Counts.{tot, count, count_in, distinct_count, tot_append}
use Rattle.assign_convert.specs.AssignedCells.{celled}
use Rattle.assign_convert.specs.CellLaws.{makes_cell}
use Rattle.assign_convert.proofs.Ruled.{LamAlone, Alone, reached_alone}
use Rattle.assign_convert.proofs.Steps.{IsFree}
use Rattle.assign_convert.proofs.Shapes.{StaysCont, Stays, of_celled, b, f, reached_same}
use Rattle.assign_convert.proofs.Wholes.{stays_own}

-- ---- what is assigned is bound

set_used : (x : ℕ) (t : Term) → assigns x t ≡ true → is_in (used_by t) x ≡ true
set_used x (Node.Set y value k) e = any_left (λ z. z == x) (arg_variables (value ∷ []) ++ y.0 ∷ []) (cont_variable (Some k)) (any_right (λ z. z == x) (arg_variables (value ∷ [])) (y.0 ∷ []) (or_left (y.0 == x) false e))
set_used x (Node.Give k value) e = absurd (false≢true e)
set_used x (Node.Call g args k) e = absurd (false≢true e)
set_used x (Node.Prim c args k) e = absurd (false≢true e)
set_used x (Node.If test y z) e = absurd (false≢true e)
set_used x (Node.Labels vars lams body) e = absurd (false≢true e)
set_used x (Node.Join k param body rest) e = absurd (false≢true e)
set_used x (Node.Cell y value rest) e = absurd (false≢true e)
set_used x (Node.CellGet y k) e = absurd (false≢true e)
set_used x (Node.CellSet y value k) e = absurd (false≢true e)
set_used x (Node.GlobalGet i k) e = absurd (false≢true e)
set_used x (Node.GlobalInit i value k) e = absurd (false≢true e)
set_used x (Node.GlobalSet i value k) e = absurd (false≢true e)
set_used x (Node.Catch escape inner k) e = absurd (false≢true e)
set_used x (Node.Uncatch k value) e = absurd (false≢true e)
set_used x (Node.Object proc ops methods k) e = absurd (false≢true e)
set_used x (Node.Halt value) e = absurd (false≢true e)

module _ (a : Cps) (x : ℕ) where
  abbrev Found : List ℕ → List Term
  Found ps = filter_map (slice_get a.terms.items) ps

  abbrev IsBound : Type 0
  IsBound = is_in (binders a) x ≡ true

  -- the variables that a term binds, and those of its LAMBDAs, are among the binders
  pub record Within (t : Term) : Type 0 where
    pub own : is_in (own_binders t) x ≡ true → IsBound
    pub lams : AllByRecursion (λ lam. is_in (lam_binders lam) x ≡ true → IsBound) (lambdas_of a t)

  lambdas_bind : (t : Term) → (is_in (own_binders t) x ≡ true → IsBound) → (lams : List Lam) → AllByRecursion (λ lam. is_in (lam_binders lam) x ≡ true → IsBound) lams → AllByRecursion (λ p. is_in (binds_of p) x ≡ true → IsBound) (map (lambda_part (around t)) lams)
  lambdas_bind t own [] h = tt
  lambdas_bind t own (lam ∷ lams) h = (λ e. lam_bound a lam.params lam.k.0 (around t) x h.0 (λ r. own (around_own a t x r)) e, lambdas_bind t own lams h.1)

  parts_bind : (t : Term) → Within t → AllByRecursion (λ p. is_in (binds_of p) x ≡ true → IsBound) (parts_of a [] t)
  parts_bind t h =
      each_append (λ p. is_in (binds_of p) x ≡ true → IsBound) (map (lambda_part (around t)) (lambdas_of a t)) (own_parts [] t) (lambdas_bind t h.own (lambdas_of a t) h.lams)
      (each_more (λ p. (y : ℕ) → is_in (binds_of p) y ≡ true → is_in (own_binders t) y ≡ true) (λ p. is_in (binds_of p) x ≡ true → IsBound) (own_parts [] t) (λ p into e. h.own (into x e)) (inside binds_of (own_parts [] t)))

  found_each : (P : Term → Type 0) (xs ys : List ℕ) → AllByRecursion P (Found (xs ++ ys)) → AllByRecursion P (Found xs) × AllByRecursion P (Found ys)
  found_each P xs ys h =
      let r = subst (AllByRecursion P) (filter_map-append (slice_get a.terms.items) xs ys) h in
      (each_left P (Found xs) (Found ys) r, each_right P (Found xs) (Found ys) r)

  or_split : (p q : Bool) {Q : Type 0} → (p ≡ true → Q) → (q ≡ true → Q) → (p || q) ≡ true → Q
  or_split true q g h e = g refl
  or_split false q g h e = h e

  abbrev part_free : ℕ → Part → List ℕ
  part_free depth p = without (binds_of p) (free_within a depth p.at)

  -- where a Set of the variable is reached below a term, the variable is free there or bound
  bound_under : (depth t : ℕ) → AllByRecursion Within (Found (walked_within a depth t)) → list_any (assigns x) (Found (walked_within a depth t)) ≡ true → (is_in (free_within a depth t) x ≡ true) ⊎ IsBound
  unfolding walked_within free_within
  bound_under zero t h e = absurd (false≢true e)
  bound_under (suc depth) t h e = by_option (slice_get a.terms.items t) h e (λ r g i. bound_under depth r g i)
    where
      by_bind : (p : Part) → (is_in (binds_of p) x ≡ true → IsBound) → is_in (free_within a depth p.at) x ≡ true → (is_in (part_free depth p) x ≡ true) ⊎ IsBound
      by_bind p bind i = by_test (is_in (binds_of p) x) refl
        where
          by_test : (c : Bool) → is_in (binds_of p) x ≡ c → (is_in (part_free depth p) x ≡ true) ⊎ IsBound
          by_test true q = inr (bind q)
          by_test false q = inl (in_without (binds_of p) (free_within a depth p.at) x i q)

      by_parts : (ps : List Part) → ((r : ℕ) → AllByRecursion Within (Found (walked_within a depth r)) → list_any (assigns x) (Found (walked_within a depth r)) ≡ true → (is_in (free_within a depth r) x ≡ true) ⊎ IsBound)
          → AllByRecursion (λ p. is_in (binds_of p) x ≡ true → IsBound) ps → AllByRecursion Within (Found (flat_map (λ p. walked_within a depth p.at) ps))
          → list_any (assigns x) (Found (flat_map (λ p. walked_within a depth p.at) ps)) ≡ true → (is_in (flat_map (part_free depth) ps) x ≡ true) ⊎ IsBound
      by_parts [] go binds h e = absurd (false≢true e)
      by_parts (p ∷ ps) go binds h e =
          let here = walked_within a depth p.at in
          let rest = flat_map (λ p. walked_within a depth p.at) ps in
          let each = found_each Within here rest h in
          or_split (list_any (assigns x) (Found here)) (list_any (assigns x) (Found rest))
          (λ i. ⊎_elim (λ j. ⊎_elim (λ k. inl (any_left (λ z. z == x) (part_free depth p) (flat_map (part_free depth) ps) k)) (λ k. inr k) (by_bind p binds.0 j)) (λ j. inr j) (go p.at each.0 i))
          (λ i. ⊎_elim (λ j. inl (any_right (λ z. z == x) (part_free depth p) (flat_map (part_free depth) ps) j)) (λ j. inr j) (by_parts ps go binds.1 each.1 i))
          (sym (ap (list_any (assigns x)) (filter_map-append (slice_get a.terms.items) here rest) ∙ list_any-append (assigns x) (Found here) (Found rest)) ∙ e)

      by_option : (o : Option Term) → AllByRecursion Within (cons_option o (Found (option_map_or (λ term. flat_map (λ p. walked_within a depth p.at) (parts_of a [] term)) o [])))
          → list_any (assigns x) (cons_option o (Found (option_map_or (λ term. flat_map (λ p. walked_within a depth p.at) (parts_of a [] term)) o []))) ≡ true
          → ((r : ℕ) → AllByRecursion Within (Found (walked_within a depth r)) → list_any (assigns x) (Found (walked_within a depth r)) ≡ true → (is_in (free_within a depth r) x ≡ true) ⊎ IsBound)
          → (is_in (option_map_or (λ term. used_by term ++ flat_map (part_free depth) (parts_of a [] term)) o []) x ≡ true) ⊎ IsBound
      by_option None h e go = absurd (false≢true e)
      by_option (Some term) h e go =
          or_split (assigns x term) (list_any (assigns x) (Found (flat_map (λ p. walked_within a depth p.at) (parts_of a [] term))))
          (λ i. inl (any_left (λ z. z == x) (used_by term) (flat_map (part_free depth) (parts_of a [] term)) (set_used x term i)))
          (λ i. ⊎_elim (λ j. inl (any_right (λ z. z == x) (used_by term) (flat_map (part_free depth) (parts_of a [] term)) j)) (λ j. inr j) (by_parts (parts_of a [] term) go (parts_bind term h.0) h.1 i)) e

  -- ---- the whole

  within_all : (ts : List Term) → AllByRecursion (λ t. (y : ℕ) → is_in (own_binders t) y ≡ true → is_in (flat_map own_binders (reached_terms a)) y ≡ true) ts → AllByRecursion (λ lam. is_in (lam_binders lam) x ≡ true → IsBound) (flat_map (lambdas_of a) ts) → AllByRecursion Within ts
  within_all [] h k = tt
  within_all (t ∷ ts) h k = (
    record { own = λ e. any_left (λ z. z == x) (flat_map own_binders (reached_terms a)) (flat_map lam_binders (reached_lams a)) (h.0 x e); lams = each_left (λ lam. is_in (lam_binders lam) x ≡ true → IsBound) (lambdas_of a t) (flat_map (lambdas_of a) ts) k },
    within_all ts h.1 (each_right (λ lam. is_in (lam_binders lam) x ≡ true → IsBound) (lambdas_of a t) (flat_map (lambdas_of a) ts) k),
  )

  lams_within : AllByRecursion (λ lam. is_in (lam_binders lam) x ≡ true → IsBound) (reached_lams a)
  lams_within =
      each_more (λ lam. (y : ℕ) → is_in (lam_binders lam) y ≡ true → is_in (flat_map lam_binders (reached_lams a)) y ≡ true) (λ lam. is_in (lam_binders lam) x ≡ true → IsBound) (reached_lams a)
      (λ lam into e. any_right (λ z. z == x) (flat_map own_binders (reached_terms a)) (flat_map lam_binders (reached_lams a)) (into x e)) (inside lam_binders (reached_lams a))

  all_within : AllByRecursion Within (reached_terms a)
  all_within = within_all (reached_terms a) (inside own_binders (reached_terms a)) (each_right (λ lam. is_in (lam_binders lam) x ≡ true → IsBound) (root_lams a) (flat_map (lambdas_of a) (reached_terms a)) lams_within)

  module _ (whole : IsWhole a) where
    none_free : (xs : List ℕ) → xs ≡ [] → is_in xs x ≡ true → ⊥
    none_free xs e i = false≢true (subst (λ zs. is_in zs x ≡ true) e i)

    by_lams : (lams : List Lam) → AllByRecursion (λ lam. free_in a lam ≡ []) lams → AllByRecursion (λ lam. is_in (lam_binders lam) x ≡ true → IsBound) lams
        → AllByRecursion Within (Found (flat_map (λ p. walked_within a (depth_of a) p.at) (map (lambda_part []) lams))) → list_any (assigns x) (Found (flat_map (λ p. walked_within a (depth_of a) p.at) (map (lambda_part []) lams))) ≡ true → IsBound
    by_lams [] closed bind h e = absurd (false≢true e)
    by_lams (lam ∷ lams) closed bind h e =
        let here = walked_within a (depth_of a) lam.body in
        let rest = flat_map (λ p. walked_within a (depth_of a) p.at) (map (lambda_part []) lams) in
        let each = found_each Within here rest h in
        or_split (list_any (assigns x) (Found here)) (list_any (assigns x) (Found rest)) (λ i. ⊎_elim (λ j. by_test (is_in (lam_binders lam) x) refl j) (λ j. j) (bound_under (depth_of a) lam.body each.0 i)) (λ i. by_lams lams closed.1 bind.1 each.1 i)
        (sym (ap (list_any (assigns x)) (filter_map-append (slice_get a.terms.items) here rest) ∙ list_any-append (assigns x) (Found here) (Found rest)) ∙ e)
      where
        by_test : (c : Bool) → is_in (lam_binders lam) x ≡ c → is_in (free_at a lam.body) x ≡ true → IsBound
        by_test true q j = bind.0 q
        by_test false q j = absurd (none_free (free_in a lam) closed.0 (in_without (lam_binders lam) (free_at a lam.body) x j q))

    -- an assigned variable is bound
    pub assigned_bound : is_assigned a x ≡ true → IsBound
    assigned_bound e =
        let here = walked_within a (depth_of a) a.entry in
        let rest = flat_map (λ p. walked_within a (depth_of a) p.at) (map (lambda_part []) (root_lams a)) in
        let each = found_each Within here rest all_within in
        let closed = whole_is_closed a whole in
        or_split (list_any (assigns x) (Found here)) (list_any (assigns x) (Found rest)) (λ i. ⊎_elim (λ j. absurd (none_free (free_at a a.entry) closed.entry j)) (λ j. j) (bound_under (depth_of a) a.entry each.0 i))
        (λ i. by_lams (root_lams a) (each_of_all (λ lam. free_in a lam ≡ []) (root_lams a) closed.procedures) (each_left (λ lam. is_in (lam_binders lam) x ≡ true → IsBound) (root_lams a) (flat_map (lambdas_of a) (reached_terms a)) lams_within) each.1 i)
        (sym (ap (list_any (assigns x)) (filter_map-append (slice_get a.terms.items) here rest) ∙ list_any-append (assigns x) (Found here) (Found rest)) ∙ e)

-- ---- how often

count_flat : {X : Type 0} (x : ℕ) (g : X → List ℕ) (xs : List X) → count x (flat_map g xs) ≡ tot (λ y. count x (g y)) xs
count_flat x g [] = refl
count_flat x g (y ∷ ys) = let h = count_flat x g ys in let q = tot_append (λ z. one_if (z == x)) (g y) (flat_map g ys) in omega (arith, h, q)

length_filter : (test : Term → Bool) (ts : List Term) → length (filter test ts) ≡ tot (λ t. one_if (test t)) ts
length_filter test [] = refl
length_filter test (t ∷ ts) = by_test (test t) (length_filter test ts)
  where
    by_test : (c : Bool) → length (filter test ts) ≡ tot (λ t. one_if (test t)) ts → length (cond c (t ∷ filter test ts) (filter test ts)) ≡ one_if c + tot (λ t. one_if (test t)) ts
    by_test true h = omega (arith, h)
    by_test false h = omega (arith, h)

module _ (a d : Cps) (terms : d.terms.items ≡ map (celled (is_assigned a)) a.terms.items) (x : ℕ) (assigned : is_assigned a x ≡ true) where
  abbrev g : ℕ → Bool
  g = f a d terms

  other : (y : ℕ) → IsFree a y → (y == x) ≡ false
  other y h = by_test (y == x) refl
    where
      by_test : (c : Bool) → (y == x) ≡ c → c ≡ false
      by_test true q = absurd (true≢false (sym assigned ∙ ap (is_assigned a) (sym (eqb-true y x q)) ∙ h))
      by_test false q = refl

  free_count : (xs : List ℕ) → AllByRecursion (IsFree a) xs → count x xs ≡ 0
  free_count [] h = refl
  free_count (y ∷ ys) h = let r = free_count ys h.1 in let q = ap one_if (other y h.0) in omega (arith, r, q)

  abbrev makes : Term → ℕ
  makes t = one_if (makes_cell x t)

  makes_none : (t : Term) → Stays g t → AllByRecursion (IsFree a) (own_binders t) → makes t ≡ 0
  makes_none (Node.Cell y value rest) s h = ap one_if (other y.0 h.0)
  makes_none (Node.Give k value) s h = refl
  makes_none (Node.Set y value k) s h = refl
  makes_none (Node.Call z args k) s h = refl
  makes_none (Node.Prim c args k) s h = refl
  makes_none (Node.If test y z) s h = refl
  makes_none (Node.Labels vars lams body) s h = refl
  makes_none (Node.Join k param body rest) s h = refl
  makes_none (Node.CellGet y k) s h = refl
  makes_none (Node.CellSet y value k) s h = refl
  makes_none (Node.GlobalGet i k) s h = refl
  makes_none (Node.GlobalInit i value k) s h = refl
  makes_none (Node.GlobalSet i value k) s h = refl
  makes_none (Node.Catch escape inner k) s h = refl
  makes_none (Node.Uncatch k value) s h = refl
  makes_none (Node.Object proc ops methods k) s h = refl
  makes_none (Node.Halt value) s h = refl

  cont_count : (k : Cont) → StaysCont g k → count x (own_binders (Node.CellGet (record { 0 = x }) k)) ≡ 0
  cont_count (Continuation.Var k) s = refl
  cont_count (Continuation.Lam param body) s = let q = ap one_if (other param.0 s) in omega (arith, q)

  -- a term makes a cell of the variable as often as it bound the variable
  as_often : (t : Term) → Alone a t → makes (celled g t) ≡ count x (own_binders t)
  as_often t h =
      of_celled g (λ t u. Alone a t → makes u ≡ count x (own_binders t))
      (λ t s h. let own = stays_own a d terms t s h.assigns in makes_none t s own ∙ sym (free_count (own_binders t) own)) (λ k y s e h. sym (cont_count k s))
      (λ param body value e h. omega arith)
      (λ y value k h. sym (free_count (own_binders (Node.Set y value k)) (each_of_all (IsFree a) (own_binders (Node.Set y value k)) h.assigns.0))) t h

  all_often : (ts : List Term) → AllByRecursion (Alone a) ts → tot makes (map (celled g) ts) ≡ tot (λ t. count x (own_binders t)) ts
  all_often [] h = refl
  all_often (t ∷ ts) h = let r = all_often ts h.1 in let q = as_often t h.0 in omega (arith, r, q)

  lams_none : (lams : List Lam) → AllByRecursion (LamAlone a) lams → tot (λ lam. count x (lam_binders lam)) lams ≡ 0
  lams_none [] h = refl
  lams_none (lam ∷ lams) h = let r = lams_none lams h.1 in let q = free_count (lam_binders lam) (each_of_all (IsFree a) (lam_binders lam) h.0) in omega (arith, r, q)

  pub one_cell : IsWhole a → HasLoads a → length (filter (makes_cell x) (reached_terms (b a d terms))) ≡ 1
  one_cell whole loads =
      let cells = length_filter (makes_cell x) (reached_terms (b a d terms)) ∙ ap (tot makes) (reached_same a d terms) ∙ all_often (reached_terms a) (reached_alone a whole.formed loads) in
      let owns = count_flat x own_binders (reached_terms a) in
      let lams = count_flat x lam_binders (reached_lams a) ∙ lams_none (reached_lams a) (each_of_all (LamAlone a) (reached_lams a) loads.parameters) in
      let both = tot_append (λ z. one_if (z == x)) (flat_map own_binders (reached_terms a)) (flat_map lam_binders (reached_lams a)) in
      let least = count_in x (binders a) (assigned_bound a x whole assigned) in
      let most = distinct_count x (binders a) (distinct_of (binders a) whole.formed.scopes.bound_once) in
      omega (arith, cells, owns, lams, both, least, most)
