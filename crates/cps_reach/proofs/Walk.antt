-- What is free in a LAMBDA that is reached stands for a value or a cell: each k ends where a LAMBDA begins.
use Rattle.std.specs.Prelude.{IsSomeAnd}
use Rattle.std.specs.List.{AllByRecursion, flat_map}
use Rattle.std.specs.Option.{option_map_or}
use Rattle.std.proofs.Common.{◌≡◌, ℕ, zero, suc, ◌≤◌, ◌==◌, Bool, true, false, List, [], ◌∷◌, ◌++◌, map, slice_get, Option, Some, None, refl, sym, ◌∙◌, subst, arith}
use Rattle.std.proofs.lemmas.Bool.{true≢false, false≢true}
use Rattle.t_base.specs.declared.basics.Var.{Var}
use Rattle.cps_ir.specs.declared.terms.Lam.{Lam}
use Rattle.cps_ir.specs.declared.terms.Term.{Term}
use Rattle.cps_ir.specs.declared.terms.Term.TheVariants as Node
use Rattle.cps_ir.specs.declared.terms.Cps.{Cps}
use Rattle.cps_ir.specs.Parts.{Name, OwnK, named, variable_of, Part, own_parts, lambdas_of, around, lambda_part, parts_of, root_lams, root_parts, depth_of, walked, walked_within, reached_terms, reached_lams, lam_binders}
use Rattle.cps_ir.specs.Reaches.{is_in, binds_of, free_within, free_at, free_in}
use Rattle.cps_ir.specs.Whole.{UsesVariables, LeadsOn, HoldsWithin, IsFormed}
use Rattle.cps_ir.proofs.ProperLists.{each_append, each_left, each_right, each_more, each_of_two, each_joined, each_unjoined}
use Rattle.cps_ir.proofs.Closed.{or_left, or_right, map_joins, free_around}
use Rattle.cps_ir.proofs.Apart.{any_left, any_right, any_or, either_in, of_each}
use Rattle.cps_ir.proofs.Inside.{from_without, in_each, free_stable, lam_bound}
use Rattle.cps_ir.proofs.Tree.{ways_in, Crossing, AtTerm, Tree, parts_moved, root_trees}
use Rattle.cps_reach.proofs.Values.{values_in, value_or_way, values_of, numbered, values}

abbrev pub Within : List ℕ → List ℕ → Type 0
Within xs all = (x : ℕ) → is_in xs x ≡ true → is_in all x ≡ true

pub flat_within : {X : Type 0} (f : X → List ℕ) (xs : List X) → AllByRecursion (λ x. Within (f x) (flat_map f xs)) xs
flat_within f [] = tt
flat_within f (x ∷ xs) = (
  λ y i. any_left (λ z. z == y) (f x) (flat_map f xs) i,
  each_more (λ z. Within (f z) (flat_map f xs)) (λ z. Within (f z) (f x ++ flat_map f xs)) xs (λ z h y i. any_right (λ r. r == y) (f x) (flat_map f xs) (h y i)) (flat_within f xs),
)

module _ (u : Cps) where
  abbrev V : List ℕ
  V = values u

  -- ---- what a term that is reached binds

  params_within : (lams : List Lam) → AllByRecursion (λ lam. Within (numbered lam.params) (numbered (flat_map (λ l. l.params) lams))) lams
  params_within [] = tt
  params_within (lam ∷ lams) = (
    λ x i. first lam.params x i,
    each_more (λ l. Within (numbered l.params) (numbered (flat_map (λ r. r.params) lams))) (λ l. Within (numbered l.params) (numbered (lam.params ++ flat_map (λ r. r.params) lams))) lams (λ l h x i. behind lam.params x (h x i)) (params_within lams),
  )
    where
      first : (xs : List Var) (x : ℕ) → is_in (numbered xs) x ≡ true → is_in (numbered (xs ++ flat_map (λ l. l.params) lams)) x ≡ true
      first [] x i = absurd (false≢true i)
      first (y ∷ xs) x i = any_or (y.0 == x) _ (λ q. or_left (y.0 == x) _ q) (λ r. or_right (y.0 == x) _ (first xs x r)) i

      behind : (xs : List Var) (x : ℕ) → is_in (numbered (flat_map (λ l. l.params) lams)) x ≡ true → is_in (numbered (xs ++ flat_map (λ l. l.params) lams)) x ≡ true
      behind [] x i = i
      behind (y ∷ xs) x i = or_right (y.0 == x) _ (behind xs x i)

  abbrev LamValued : Lam → Type 0
  LamValued lam = Within (numbered lam.params) V

  pub record Valued (t : Term) : Type 0 where
    pub around : Within (values_in (around t)) V
    pub parts : AllByRecursion (λ p. Within (values_in p.binds) V) (parts_of u [] t)

  around_values : (t : Term) → Within (values_in (around t)) (values_of t)
  around_values (Node.Labels vars lams body) x i = any_left (λ z. z == x) (values_in (named vars)) [] i
  around_values (Node.Join k param body rest) x i = absurd (false≢true i)
  around_values (Node.Call f args k) x i = absurd (false≢true i)
  around_values (Node.Prim b args k) x i = absurd (false≢true i)
  around_values (Node.If test a b) x i = absurd (false≢true i)
  around_values (Node.Give k value) x i = absurd (false≢true i)
  around_values (Node.Set y value k) x i = absurd (false≢true i)
  around_values (Node.Cell y value rest) x i = absurd (false≢true i)
  around_values (Node.CellGet y k) x i = absurd (false≢true i)
  around_values (Node.CellSet y value k) x i = absurd (false≢true i)
  around_values (Node.GlobalGet g k) x i = absurd (false≢true i)
  around_values (Node.GlobalInit g value k) x i = absurd (false≢true i)
  around_values (Node.GlobalSet g value k) x i = absurd (false≢true i)
  around_values (Node.Catch y body k) x i = absurd (false≢true i)
  around_values (Node.Uncatch k value) x i = absurd (false≢true i)
  around_values (Node.Object proc ops methods k) x i = absurd (false≢true i)
  around_values (Node.Halt value) x i = absurd (false≢true i)

  lam_values : (xs : List Var) (j : ℕ) (names : List Name) → Within (numbered xs) V → Within (values_in names) V → Within (values_in (named xs ++ OwnK j ∷ names)) V
  lam_values [] j names h g x i = g x i
  lam_values (y ∷ xs) j names h g x i = any_or (y.0 == x) _ (λ q. h x (or_left (y.0 == x) _ q)) (λ r. lam_values xs j names (λ z k. h z (or_right (y.0 == z) _ k)) g x r) i

  lambdas_valued : (names : List Name) (lams : List Lam) → Within (values_in names) V → AllByRecursion LamValued lams → AllByRecursion (λ p. Within (values_in p.binds) V) (map (lambda_part names) lams)
  lambdas_valued names [] g h = tt
  lambdas_valued names (lam ∷ lams) g h = (lam_values lam.params lam.k.0 names h.0 g, lambdas_valued names lams g h.1)

  all_params : AllByRecursion LamValued (reached_lams u)
  all_params =
      each_more (λ lam. Within (numbered lam.params) (numbered (flat_map (λ l. l.params) (reached_lams u)))) LamValued (reached_lams u) (λ lam h x i. any_right (λ z. z == x) (flat_map values_of (reached_terms u)) _ (h x i)) (params_within (reached_lams u))

  all_valued : AllByRecursion Valued (reached_terms u)
  all_valued =
      each_of_two (λ t. Within (values_of t) (flat_map values_of (reached_terms u))) (λ t. AllByRecursion LamValued (lambdas_of u t)) Valued (reached_terms u)
      (λ t a b.
      let own : Within (values_of t) V = λ x i. any_left (λ z. z == x) (flat_map values_of (reached_terms u)) _ (a x i) in
      let near : Within (values_in (around t)) V = λ x i. own x (around_values t x i) in
      record {
        around = near;
        parts = each_append (λ p. Within (values_in p.binds) V) (map (lambda_part (around t)) (lambdas_of u t)) (own_parts [] t) (lambdas_valued (around t) (lambdas_of u t) near b)
            (each_more (λ p. Within (values_in p.binds) (values_of t)) (λ p. Within (values_in p.binds) V) (own_parts [] t) (λ p h x i. own x (h x i)) (flat_within (λ p. values_in p.binds) (own_parts [] t)));
      }) (flat_within values_of (reached_terms u))
      (each_unjoined (lambdas_of u) LamValued (reached_terms u) (each_right LamValued (root_lams u) (flat_map (lambdas_of u) (reached_terms u)) all_params))

  -- ---- the walk

  -- of the names around a term, those that are no k around it stand for values or cells
  abbrev Split : List Name → List ℕ → Type 0
  Split names ways = (x : ℕ) → is_in (map variable_of names) x ≡ true → is_in ways x ≡ false → is_in V x ≡ true

  -- what is free in each LAMBDA of the term at a place stands for a value or a cell
  abbrev pub FreeValued : ℕ → Type 0
  FreeValued t = IsSomeAnd (slice_get u.terms.items t) (λ term. AllByRecursion (λ lam. Within (free_in u lam) V) (lambdas_of u term))

  abbrev Q : List Name → List ℕ → Term → Type 0
  Q names cs term = UsesVariables names cs term × Valued term

  abbrev Uses : ℕ → List Name → Part → Type 0
  Uses k names x = HoldsWithin UsesVariables u k (x.binds ++ names) x.catches x.at

  abbrev Leads : ℕ → List Name → Part → Type 0
  Leads k names x = HoldsWithin LeadsOn u k (x.binds ++ names) x.catches x.at

  abbrev Binds : ℕ → List Name → Part → Type 0
  Binds k names x = HoldsWithin Q u k (x.binds ++ names) x.catches x.at

  not_either : (xs ys : List ℕ) (x : ℕ) → is_in (xs ++ ys) x ≡ false → (is_in xs x ≡ false) × (is_in ys x ≡ false)
  not_either xs ys x e = (none (is_in xs x) refl (λ q. true≢false (sym (any_left (λ z. z == x) xs ys q) ∙ e)), none (is_in ys x) refl (λ q. true≢false (sym (any_right (λ z. z == x) xs ys q) ∙ e)))
    where
      none : (b : Bool) {c : Bool} → c ≡ b → (c ≡ true → ⊥) → c ≡ false
      none true q f = absurd (f q)
      none false q f = q

  split_more : (binds names : List Name) (ways : List ℕ) → Within (values_in binds) V → Split names ways → Split (binds ++ names) (ways_in binds ++ ways)
  split_more binds names ways b s x i n =
      let out = not_either (ways_in binds) ways x n in
      either_in (map variable_of binds) (map variable_of names) x (λ l. b x (value_or_way binds x l out.0)) (λ r. s x r out.1) (subst (λ zs. is_in zs x ≡ true) (map_joins binds names) i)

  lams_valued : (k : ℕ) (names r : List Name) (ways : List ℕ) (lams : List Lam) → k ≤ depth_of u → AllByRecursion (λ x. Uses k names x × Leads k names x) (map (lambda_part r) lams)
      → AllByRecursion (Crossing u ways) (map (lambda_part r) lams) → Split names ways → Within (map variable_of r) V → AllByRecursion (λ lam. Within (free_in u lam) V) lams
  lams_valued k names r ways [] le h c s near = tt
  lams_valued k names r ways (lam ∷ lams) le h c s near = (
    λ x i.
        let both = from_without (lam_binders lam) (free_at u lam.body) x i in
        let ns = (named lam.params ++ OwnK lam.k.0 ∷ r) ++ names in
        let same = free_stable u UsesVariables k ns [] lam.body h.0.0 k (depth_of u) (omega arith) le in
        let seen = in_each (λ z. is_in (map variable_of ns) z ≡ true) (free_within u k lam.body) x (free_around u k ns [] lam.body h.0.0 h.0.1) (subst (λ zs. is_in zs x ≡ true) (sym same) both.0) in
        by_test x (is_in (map variable_of (named lam.params ++ OwnK lam.k.0 ∷ r)) x) refl both.0 both.1 seen,
    lams_valued k names r ways lams le h.1 c.1 s near,
  )
    where
      by_test : (x : ℕ) (b : Bool) → is_in (map variable_of (named lam.params ++ OwnK lam.k.0 ∷ r)) x ≡ b → is_in (free_at u lam.body) x ≡ true → is_in (lam_binders lam) x ≡ false
          → is_in (map variable_of ((named lam.params ++ OwnK lam.k.0 ∷ r) ++ names)) x ≡ true → is_in V x ≡ true
      by_test x true e f n seen = lam_bound u lam.params lam.k.0 r x (λ q. absurd (true≢false (sym q ∙ n))) (λ q. near x q) e
      by_test x false e f n seen =
          either_in (map variable_of (named lam.params ++ OwnK lam.k.0 ∷ r)) (map variable_of names) x (λ q. absurd (true≢false (sym q ∙ e))) (λ q. s x q (c.0 x f e))
          (subst (λ zs. is_in zs x ≡ true) (map_joins (named lam.params ++ OwnK lam.k.0 ∷ r) names) seen)

  around_named : (t : Term) → Within (map variable_of (around t)) (values_in (around t))
  around_named (Node.Labels vars lams body) x i = by_list vars i
    where
      by_list : (xs : List Var) → is_in (map variable_of (named xs)) x ≡ true → is_in (values_in (named xs)) x ≡ true
      by_list [] i = i
      by_list (y ∷ xs) i = any_or (y.0 == x) _ (λ q. or_left (y.0 == x) _ q) (λ r. or_right (y.0 == x) _ (by_list xs r)) i
  around_named (Node.Join k param body rest) x i = absurd (false≢true i)
  around_named (Node.Call f args k) x i = absurd (false≢true i)
  around_named (Node.Prim b args k) x i = absurd (false≢true i)
  around_named (Node.If test a b) x i = absurd (false≢true i)
  around_named (Node.Give k value) x i = absurd (false≢true i)
  around_named (Node.Set y value k) x i = absurd (false≢true i)
  around_named (Node.Cell y value rest) x i = absurd (false≢true i)
  around_named (Node.CellGet y k) x i = absurd (false≢true i)
  around_named (Node.CellSet y value k) x i = absurd (false≢true i)
  around_named (Node.GlobalGet g k) x i = absurd (false≢true i)
  around_named (Node.GlobalInit g value k) x i = absurd (false≢true i)
  around_named (Node.GlobalSet g value k) x i = absurd (false≢true i)
  around_named (Node.Catch y body k) x i = absurd (false≢true i)
  around_named (Node.Uncatch k value) x i = absurd (false≢true i)
  around_named (Node.Object proc ops methods k) x i = absurd (false≢true i)
  around_named (Node.Halt value) x i = absurd (false≢true i)

  walk : (k : ℕ) (names : List Name) (cs ways all : List ℕ) (t : ℕ) → HoldsWithin UsesVariables u k names cs t → HoldsWithin LeadsOn u k names cs t → HoldsWithin Q u k names cs t → Tree u k all ways t → k ≤ depth_of u → Split names ways
      → AllByRecursion FreeValued (walked_within u k t)
  unfolding HoldsWithin walked_within Tree
  walk zero names cs ways all t h g q tree le s = absurd h
  walk (suc k) names cs ways all t h g q tree le s = at_option (slice_get u.terms.items t) refl (λ ns ds ws bs r a b c d e. walk k ns ds ws bs r a b c d (omega (arith, le)) e) h g q tree
    where
      at_option : (o : Option Term) → slice_get u.terms.items t ≡ o
          → ((ns : List Name) (ds ws bs : List ℕ) (r : ℕ) → HoldsWithin UsesVariables u k ns ds r → HoldsWithin LeadsOn u k ns ds r → HoldsWithin Q u k ns ds r → Tree u k bs ws r → Split ns ws → AllByRecursion FreeValued (walked_within u k r))
          → IsSomeAnd o (λ term. UsesVariables names cs term × AllByRecursion (Uses k names) (parts_of u cs term))
          → IsSomeAnd o (λ term. LeadsOn names cs term × AllByRecursion (Leads k names) (parts_of u cs term)) → IsSomeAnd o (λ term. Q names cs term × AllByRecursion (Binds k names) (parts_of u cs term))
          → IsSomeAnd o (λ term. AtTerm u all ways t term × AllByRecursion (λ x. Tree u k (binds_of x ++ all) (ways_in x.binds ++ ways) x.at) (parts_of u [] term))
          → AllByRecursion FreeValued (t ∷ option_map_or (λ term. flat_map (λ p. walked_within u k p.at) (parts_of u [] term)) o [])
      at_option None e go h g q tree = absurd h
      at_option (Some term) e go h g q tree =
          let two = each_of_two (Uses k names) (Leads k names) (λ x. Uses k names x × Leads k names x) (parts_of u cs term) (λ x a b. (a, b)) h.1 g.1 in
          let C = λ (at : ℕ). AllByRecursion FreeValued (walked_within u k at) in
          let Step = λ (binds : List Name) (at : ℕ) (lambda : Bool). (bs : List ℕ) → Tree u k bs (ways_in binds ++ ways) at → Split (binds ++ names) (ways_in binds ++ ways) → C at in (
            subst (λ o. IsSomeAnd o (λ r. AllByRecursion (λ lam. Within (free_in u lam) V) (lambdas_of u r))) (sym e)
                (lams_valued k names (around term) ways (lambdas_of u term) (omega (arith, le)) (each_left (λ x. Uses k names x × Leads k names x) (map (lambda_part (around term)) (lambdas_of u term)) (own_parts cs term) two) tree.0.crossing s
                (λ x i. q.0.1.around x (around_named term x i))),
            each_joined (λ p. walked_within u k p.at) FreeValued (parts_of u [] term)
                (each_of_two (λ x. Tree u k (binds_of x ++ all) (ways_in x.binds ++ ways) x.at × Within (values_in x.binds) V) (λ x. Step x.binds x.at x.lambda) (λ x. C x.at) (parts_of u [] term)
                (λ x a b. b (binds_of x ++ all) a.0 (split_more x.binds names ways a.1 s))
                (each_of_two (λ x. Tree u k (binds_of x ++ all) (ways_in x.binds ++ ways) x.at) (λ x. Within (values_in x.binds) V) (λ x. Tree u k (binds_of x ++ all) (ways_in x.binds ++ ways) x.at × Within (values_in x.binds) V) (parts_of u [] term) (λ x a b. (a, b)) tree.1 q.0.1.parts)
                (parts_moved Step (λ j c d r f. f) u cs [] term
                (each_of_two (λ x. Uses k names x × Leads k names x) (Binds k names) (λ x. Step x.binds x.at x.lambda) (parts_of u cs term) (λ x ab c bs d e. go (x.binds ++ names) x.catches (ways_in x.binds ++ ways) bs x.at ab.0 ab.1 c d e) two q.1))),
          )

  -- ---- the roots

  module _ (formed : IsFormed u) where
    abbrev At : Part → Type 0
    At p = HoldsWithin UsesVariables u (depth_of u) p.binds p.catches p.at × HoldsWithin LeadsOn u (depth_of u) p.binds p.catches p.at

    roots_valued : AllByRecursion (λ p. Within (values_in p.binds) V) (root_parts u)
    roots_valued = (λ x i. absurd (false≢true i), lambdas_valued [] (root_lams u) (λ x i. absurd (false≢true i)) (each_left LamValued (root_lams u) (flat_map (lambdas_of u) (reached_terms u)) all_params))

    roots : AllByRecursion (λ p. AllByRecursion FreeValued (walked_within u (depth_of u) p.at)) (root_parts u)
    roots =
        each_of_two At (λ p. (HoldsWithin Q u (depth_of u) p.binds p.catches p.at × Tree u (depth_of u) (binds_of p) (ways_in p.binds) p.at) × Within (values_in p.binds) V) (λ p. AllByRecursion FreeValued (walked_within u (depth_of u) p.at)) (root_parts u)
        (λ p a b. walk (depth_of u) p.binds p.catches (ways_in p.binds) (binds_of p) p.at a.0 a.1 b.0.0 b.0.1 (omega arith) (λ x i n. b.1 x (value_or_way p.binds x i n)))
        (each_of_two (λ p. HoldsWithin UsesVariables u (depth_of u) p.binds p.catches p.at) (λ p. HoldsWithin LeadsOn u (depth_of u) p.binds p.catches p.at) At (root_parts u) (λ p a b. (a, b)) formed.scopes.used formed.ways)
        (each_of_two (λ p. HoldsWithin Q u (depth_of u) p.binds p.catches p.at × Tree u (depth_of u) (binds_of p) (ways_in p.binds) p.at) (λ p. Within (values_in p.binds) V)
        (λ p. (HoldsWithin Q u (depth_of u) p.binds p.catches p.at × Tree u (depth_of u) (binds_of p) (ways_in p.binds) p.at) × Within (values_in p.binds) V) (root_parts u) (λ p a b. (a, b))
        (each_of_two (λ p. HoldsWithin Q u (depth_of u) p.binds p.catches p.at) (λ p. Tree u (depth_of u) (binds_of p) (ways_in p.binds) p.at) (λ p. HoldsWithin Q u (depth_of u) p.binds p.catches p.at × Tree u (depth_of u) (binds_of p) (ways_in p.binds) p.at)
        (root_parts u) (λ p a b. (a, b)) (of_each u Valued formed.scopes.used all_valued) (root_trees u formed)) roots_valued)

    pub places_valued : AllByRecursion FreeValued (walked u)
    places_valued = each_joined (λ p. walked_within u (depth_of u) p.at) FreeValued (root_parts u) roots
