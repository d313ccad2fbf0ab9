-- What the rule on assigned variables says of a term and of all that it is made of.
use Rattle.std.specs.Prelude.{nat_lt, IsSomeAnd}
use Rattle.std.specs.List.{AllByRecursion, filter_map, flat_map, cons_option, list_any}
use Rattle.std.specs.Option.{option_map_or}
use Rattle.std.proofs.Common.{◌≡◌, ℕ, zero, suc, ◌<◌, List, [], ◌∷◌, ◌++◌, take, map, Option, Some, None, Bool, true, false, if◌then◌else◌, slice_get, refl, sym, ◌∙◌, subst}
use Rattle.std.proofs.lemmas.Bool.{ltb-true}
use Rattle.cps_ir.specs.declared.terms.Lam.{Lam}
use Rattle.cps_ir.specs.declared.terms.Term.{Term}
use Rattle.cps_ir.specs.declared.terms.Term.TheVariants as Node
use Rattle.cps_ir.specs.declared.terms.Cps.{Cps}
use Rattle.cps_ir.specs.Terms.{cont_of}
use Rattle.cps_ir.specs.Parts.{first_lams, assigns, is_assigned, Name, Part, behind, term_parts, cont_parts, own_parts, lams_of, lambda_at, lambdas_of, around, lambda_part, parts_of, root_lams, root_parts, depth_of, walked, walked_within, reached_terms, reached_lams, lam_binders}
use Rattle.cps_ir.specs.Loads.{Unassigned, AssignsAlone, HasLoads}
use Rattle.cps_ir.specs.Whole.{UsesVariables, HoldsWithin, IsFormed}
use Rattle.cps_ir.proofs.ProperLists.{some_same, none_some, each_left, each_right, each_more, each_of_all, each_joined, each_taken}
use Rattle.cps_ir.proofs.Closed.{parts_same, or_left, or_right, same_number}

-- ---- terms

-- the parameters and the k of a LAMBDA aren't assigned
abbrev pub LamAlone : Cps → Lam → Type 0
LamAlone a lam = Unassigned a (lam_binders lam)

-- what a Set names is assigned
abbrev pub SetsAssigned : Cps → Term → Type 0
SetsAssigned a (Node.Set x value k) = is_assigned a x.0 ≡ true
SetsAssigned a _ = Unit {0}

-- the rule, at a term and its LAMBDAs
pub record Alone (a : Cps) (term : Term) : Type 0 where
  pub set : SetsAssigned a term
  pub assigns : AssignsAlone a term
  pub lams : AllByRecursion (LamAlone a) (lambdas_of a term)

-- at a term and all that it is made of, nested at most so deep
unfoldable pub RuledWithin : Cps → ℕ → ℕ → Type 0
RuledWithin a zero t = ⊥
RuledWithin a (suc depth) t = IsSomeAnd (slice_get a.terms.items t) (λ term. Alone a term × AllByRecursion (λ p. RuledWithin a depth p.at) (parts_of a [] term))

abbrev pub Ruled : Cps → ℕ → Type 0
Ruled a t = (depth : ℕ) × RuledWithin a depth t

pub record LamRuled (a : Cps) (lam : Lam) : Type 0 where
  pub alone : LamAlone a lam
  pub body : Ruled a lam.body

-- the procedure at a place
abbrev pub LamAt : Cps → ℕ → Type 0
LamAt a l = (lam : Lam) → slice_get a.lams.items l ≡ Some lam → LamRuled a lam

-- what a ruled term has: its LAMBDAs, and the terms that it names
pub record Has (a : Cps) (term : Term) : Type 0 where
  pub alone : AssignsAlone a term
  pub lams : AllByRecursion (LamAt a) (lams_of term)
  pub terms : AllByRecursion (λ p. Ruled a p.at) (term_parts [] term)
  pub conts : AllByRecursion (λ p. Ruled a p.at) (cont_parts (behind [] term) (cont_of term))

-- ---- what is reached is so

module _ (a : Cps) where
  abbrev Each : List Term → Type 0
  Each ts = AllByRecursion (Alone a) ts

  abbrev reached_by : ℕ → ℕ → List Term
  reached_by depth t = filter_map (slice_get a.terms.items) (walked_within a depth t)

  option_each : (P : Term → Type 0) (o : Option Term) (ts : List Term) → AllByRecursion P (cons_option o ts) → ((t : Term) → o ≡ Some t → P t) × AllByRecursion P ts
  option_each P None ts h = (λ t e. none_some t e, h)
  option_each P (Some x) ts h = (λ t e. subst P (some_same _ _ e) h.0, h.1)

  found_append : (P : Term → Type 0) (xs ys : List ℕ) → AllByRecursion P (filter_map (slice_get a.terms.items) (xs ++ ys)) → AllByRecursion P (filter_map (slice_get a.terms.items) xs) × AllByRecursion P (filter_map (slice_get a.terms.items) ys)
  found_append P [] ys h = (tt, h)
  found_append P (x ∷ xs) ys h = by_option (slice_get a.terms.items x) (λ r. found_append P xs ys r) h
    where
      by_option : (o : Option Term) → (AllByRecursion P (filter_map (slice_get a.terms.items) (xs ++ ys)) → AllByRecursion P (filter_map (slice_get a.terms.items) xs) × AllByRecursion P (filter_map (slice_get a.terms.items) ys))
          → AllByRecursion P (cons_option o (filter_map (slice_get a.terms.items) (xs ++ ys))) → AllByRecursion P (cons_option o (filter_map (slice_get a.terms.items) xs)) × AllByRecursion P (filter_map (slice_get a.terms.items) ys)
      by_option None go h = go h
      by_option (Some t) go h = let r = go h.1 in ((h.0, r.0), r.1)

  found_parts : (depth : ℕ) (ps : List Part) → Each (filter_map (slice_get a.terms.items) (flat_map (λ p. walked_within a depth p.at) ps)) → AllByRecursion (λ p. Each (reached_by depth p.at)) ps
  found_parts depth [] h = tt
  found_parts depth (p ∷ ps) h = let r = found_append (Alone a) (walked_within a depth p.at) (flat_map (λ p. walked_within a depth p.at) ps) h in (r.0, found_parts depth ps r.1)

  both : {A B C : Part → Type 0} (xs : List Part) → ((x : Part) → A x → B x → C x) → AllByRecursion A xs → AllByRecursion B xs → AllByRecursion C xs
  both [] f h k = tt
  both (x ∷ xs) f h k = (f x h.0 k.0, both xs f h.1 k.1)

  -- where a term and what it is made of are there, and the rule holds of all of these, it is ruled
  ruled : (depth : ℕ) (names : List Name) (cs : List ℕ) (t : ℕ) → HoldsWithin UsesVariables a depth names cs t → Each (reached_by depth t) → RuledWithin a depth t
  unfolding HoldsWithin walked_within RuledWithin
  ruled zero names cs t h e = absurd h
  ruled (suc depth) names cs t h e = by_option (slice_get a.terms.items t) h e (λ ns ds r g f. ruled depth ns ds r g f)
    where
      by_option : (o : Option Term) → IsSomeAnd o (λ term. UsesVariables names cs term × AllByRecursion (λ x. HoldsWithin UsesVariables a depth (x.binds ++ names) x.catches x.at) (parts_of a cs term))
          → Each (cons_option o (filter_map (slice_get a.terms.items) (option_map_or (λ term. flat_map (λ p. walked_within a depth p.at) (parts_of a [] term)) o [])))
          → ((ns : List Name) (ds : List ℕ) (r : ℕ) → HoldsWithin UsesVariables a depth ns ds r → Each (reached_by depth r) → RuledWithin a depth r)
          → IsSomeAnd o (λ term. Alone a term × AllByRecursion (λ p. RuledWithin a depth p.at) (parts_of a [] term))
      by_option None h e go = absurd h
      by_option (Some term) h e go = (
        e.0,
        both (parts_of a [] term) (λ x g f. g f)
            (parts_same (λ bound at. Each (reached_by depth at) → RuledWithin a depth at) a cs [] term
            (each_more (λ x. HoldsWithin UsesVariables a depth (x.binds ++ names) x.catches x.at) (λ x. Each (reached_by depth x.at) → RuledWithin a depth x.at) (parts_of a cs term) (λ x g f. go (x.binds ++ names) x.catches x.at g f) h.1))
            (found_parts depth (parts_of a [] term) e.1),
      )

  -- of each term that is reached, from the rule
  each_alone : (ts : List Term) → AllByRecursion (SetsAssigned a) ts → AllByRecursion (AssignsAlone a) ts → AllByRecursion (LamAlone a) (flat_map (lambdas_of a) ts) → Each ts
  each_alone [] s h k = tt
  each_alone (t ∷ ts) s h k =
      (record { set = s.0; assigns = h.0; lams = each_left (LamAlone a) (lambdas_of a t) (flat_map (lambdas_of a) ts) k }, each_alone ts s.1 h.1 (each_right (LamAlone a) (lambdas_of a t) (flat_map (lambdas_of a) ts) k))

  set_found : (t : Term) → ((x : ℕ) → assigns x t ≡ true → is_assigned a x ≡ true) → SetsAssigned a t
  set_found (Node.Set x value k) h = h x.0 (same_number x.0 x.0 refl)
  set_found (Node.Give k value) h = tt
  set_found (Node.Call g args k) h = tt
  set_found (Node.Prim b args k) h = tt
  set_found (Node.If test s t) h = tt
  set_found (Node.Labels vars lams body) h = tt
  set_found (Node.Join k param body rest) h = tt
  set_found (Node.Cell y value k) h = tt
  set_found (Node.CellGet y k) h = tt
  set_found (Node.CellSet y value k) h = tt
  set_found (Node.GlobalGet i k) h = tt
  set_found (Node.GlobalInit i value k) h = tt
  set_found (Node.GlobalSet i value k) h = tt
  set_found (Node.Catch escape body k) h = tt
  set_found (Node.Uncatch k value) h = tt
  set_found (Node.Object proc ops methods k) h = tt
  set_found (Node.Halt value) h = tt

  sets_found : (ts : List Term) → ((x : ℕ) → list_any (assigns x) ts ≡ true → is_assigned a x ≡ true) → AllByRecursion (SetsAssigned a) ts
  sets_found [] h = tt
  sets_found (t ∷ ts) h = (set_found t (λ x e. h x (or_left (assigns x t) (list_any (assigns x) ts) e)), sets_found ts (λ x e. h x (or_right (assigns x t) (list_any (assigns x) ts) e)))

  -- a term that is ruled reaches ruled terms alone
  reach_ruled : (k t : ℕ) → RuledWithin a k t → (depth : ℕ) → AllByRecursion (Ruled a) (walked_within a depth t)
  unfolding walked_within RuledWithin
  reach_ruled zero t h depth = absurd h
  reach_ruled (suc k) t h zero = tt
  reach_ruled (suc k) t h (suc depth) = ((suc k, h), by_option (slice_get a.terms.items t) h (λ r g. reach_ruled k r g depth))
    where
      by_option : (o : Option Term) → IsSomeAnd o (λ term. Alone a term × AllByRecursion (λ p. RuledWithin a k p.at) (parts_of a [] term)) → ((r : ℕ) → RuledWithin a k r → AllByRecursion (Ruled a) (walked_within a depth r))
          → AllByRecursion (Ruled a) (option_map_or (λ term. flat_map (λ p. walked_within a depth p.at) (parts_of a [] term)) o [])
      by_option None h go = absurd h
      by_option (Some term) h go =
          each_joined (λ p. walked_within a depth p.at) (Ruled a) (parts_of a [] term) (each_more (λ p. RuledWithin a k p.at) (λ p. AllByRecursion (Ruled a) (walked_within a depth p.at)) (parts_of a [] term) (λ p g. go p.at g) h.1)

module _ (a : Cps) (formed : IsFormed a) (loads : HasLoads a) where
  pub reached_alone : AllByRecursion (Alone a) (reached_terms a)
  reached_alone = each_alone a (reached_terms a) (sets_found a (reached_terms a) (λ x e. e)) (each_of_all (AssignsAlone a) (reached_terms a) loads.assigned)
      (each_right (LamAlone a) (root_lams a) (flat_map (lambdas_of a) (reached_terms a)) (each_of_all (LamAlone a) (reached_lams a) loads.parameters))

  pub roots_ruled : AllByRecursion (λ p. RuledWithin a (depth_of a) p.at) (root_parts a)
  roots_ruled = both a (root_parts a) (λ x h e. ruled a (depth_of a) x.binds x.catches x.at h e) formed.scopes.used (found_parts a (depth_of a) (root_parts a) reached_alone)

  pub walked_ruled : AllByRecursion (Ruled a) (walked a)
  walked_ruled =
      each_joined (λ p. walked_within a (depth_of a) p.at) (Ruled a) (root_parts a)
      (each_more (λ p. RuledWithin a (depth_of a) p.at) (λ p. AllByRecursion (Ruled a) (walked_within a (depth_of a) p.at)) (root_parts a) (λ p h. reach_ruled a (depth_of a) p.at h (depth_of a)) roots_ruled)

  pub lams_of_roots : AllByRecursion (LamRuled a) (root_lams a)
  lams_of_roots = by_list (root_lams a) roots_ruled.1 (each_left (LamAlone a) (root_lams a) (flat_map (lambdas_of a) (reached_terms a)) (each_of_all (LamAlone a) (reached_lams a) loads.parameters))
    where
      by_list : (ls : List Lam) → AllByRecursion (λ p. RuledWithin a (depth_of a) p.at) (map (lambda_part []) ls) → AllByRecursion (LamAlone a) ls → AllByRecursion (LamRuled a) ls
      by_list [] h k = tt
      by_list (l ∷ ls) h k = (record { alone = k.0; body = (depth_of a, h.0) }, by_list ls h.1 k.1)

  pub entry_ruled : Ruled a a.entry
  entry_ruled = (depth_of a, roots_ruled.0)

  pub root_at : (l : ℕ) → l < first_lams a → LamAt a l
  root_at l lt lam e = record {
    alone = each_taken (LamAlone a) (λ x. x) (first_lams a) a.lams.items l lam
        (same_map (take (first_lams a) a.lams.items) (each_left (LamAlone a) (root_lams a) (flat_map (lambdas_of a) (reached_terms a)) (each_of_all (LamAlone a) (reached_lams a) loads.parameters))) lt e;
    body = (depth_of a, each_taken (λ x. RuledWithin a (depth_of a) x.at) (lambda_part []) (first_lams a) a.lams.items l lam roots_ruled.1 lt e);
  }
    where
      same_map : (xs : List Lam) → AllByRecursion (LamAlone a) xs → AllByRecursion (LamAlone a) (map (λ x. x) xs)
      same_map [] h = tt
      same_map (x ∷ xs) h = (h.0, same_map xs h.1)

  -- ---- the parts of a ruled term

  one_lam : (depth : ℕ) (r : List Name) (l : ℕ) (b : Bool) (o : Option Lam) (lams : List Lam) → nat_lt l (first_lams a) ≡ b → slice_get a.lams.items l ≡ o
      → AllByRecursion (λ p. RuledWithin a depth p.at) (map (lambda_part r) (cons_option (if b then None else o) lams)) → AllByRecursion (LamAlone a) (cons_option (if b then None else o) lams)
      → LamAt a l × AllByRecursion (λ p. RuledWithin a depth p.at) (map (lambda_part r) lams) × AllByRecursion (LamAlone a) lams
  one_lam depth r l true o lams e q h k = (root_at l (ltb-true _ _ e), h, k)
  one_lam depth r l false None lams e q h k = (λ lam f. none_some lam (sym q ∙ f), h, k)
  one_lam depth r l false (Some lam) lams e q h k =
      (λ other f. subst (LamRuled a) (some_same lam other (sym q ∙ f)) (record { alone = k.0; body = (depth, h.0) }), h.1, k.1)

  lams_ruled : (depth : ℕ) (r : List Name) (ls : List ℕ) → AllByRecursion (λ p. RuledWithin a depth p.at) (map (lambda_part r) (filter_map (lambda_at a) ls)) → AllByRecursion (LamAlone a) (filter_map (lambda_at a) ls)
      → AllByRecursion (LamAt a) ls
  lams_ruled depth r [] h k = tt
  lams_ruled depth r (l ∷ ls) h k =
      let one = one_lam depth r l (nat_lt l (first_lams a)) (slice_get a.lams.items l) (filter_map (lambda_at a) ls) refl refl h k in
      (one.0, lams_ruled depth r ls one.1 one.2)

  some_more : (P Q : Term → Type 0) (o : Option Term) → ((x : Term) → P x → Q x) → IsSomeAnd o P → IsSomeAnd o Q
  some_more P Q None k h = absurd h
  some_more P Q (Some x) k h = k x h

  at_depth : (depth : ℕ) (ps : List Part) → AllByRecursion (λ p. RuledWithin a depth p.at) ps → AllByRecursion (λ p. Ruled a p.at) ps
  at_depth depth ps h = each_more (λ p. RuledWithin a depth p.at) (λ p. Ruled a p.at) ps (λ p g. (depth, g)) h

  pub has : (t : ℕ) → Ruled a t → IsSomeAnd (slice_get a.terms.items t) (Has a)
  unfolding RuledWithin
  has t h = by_depth h.0 h.1
    where
      has_parts : (depth : ℕ) (term : Term) → Alone a term × AllByRecursion (λ p. RuledWithin a depth p.at) (parts_of a [] term) → Has a term
      has_parts depth term g =
          let Q = λ (p : Part). RuledWithin a depth p.at in
          let lambdas = map (lambda_part (around term)) (lambdas_of a term) in
          let own = each_right Q lambdas (own_parts [] term) g.1 in
          record {
            alone = g.0.assigns;
            lams = lams_ruled depth (around term) (lams_of term) (each_left Q lambdas (own_parts [] term) g.1) g.0.lams;
            terms = at_depth depth (term_parts [] term) (each_left Q (term_parts [] term) (cont_parts (behind [] term) (cont_of term)) own);
            conts = at_depth depth (cont_parts (behind [] term) (cont_of term)) (each_right Q (term_parts [] term) (cont_parts (behind [] term) (cont_of term)) own);
          }

      by_depth : (depth : ℕ) → RuledWithin a depth t → IsSomeAnd (slice_get a.terms.items t) (Has a)
      by_depth zero g = absurd g
      by_depth (suc depth) g = some_more (λ term. Alone a term × AllByRecursion (λ p. RuledWithin a depth p.at) (parts_of a [] term)) (Has a) (slice_get a.terms.items t) (has_parts depth) g
