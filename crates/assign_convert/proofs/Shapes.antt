-- A program and the same with cells are made of the same parts: what is reached, what is free in a term, and the loads are equal.
use Rattle.std.specs.Prelude.{sum_by}
use Rattle.std.specs.List.{AllByRecursion, filter_map, flat_map, cons_option}
use Rattle.std.specs.Option.{option_map, option_map_or}
use Rattle.std.proofs.Common.{◌≡◌, ℕ, zero, suc, ◌+◌, List, [], ◌∷◌, ◌++◌, length, map, Option, Some, None, Bool, true, false, if◌then◌else◌, slice_get, refl, sym, ap, ◌∙◌}
use Rattle.std.proofs.lemmas.List.{length-map, map-append}
use Rattle.std.proofs.lemmas.List.Folds.{flat_map-map}
use Rattle.t_base.specs.declared.basics.Var.{Var}
use Rattle.cps_ir.specs.declared.args.Arg.{Arg}
use Rattle.cps_ir.specs.declared.args.Arg.TheVariants as Argument
use Rattle.cps_ir.specs.declared.terms.Cont.{Cont}
use Rattle.cps_ir.specs.declared.terms.Cont.TheVariants as Continuation
use Rattle.cps_ir.specs.declared.terms.Lam.{Lam}
use Rattle.cps_ir.specs.declared.terms.Term.{Term}
use Rattle.cps_ir.specs.declared.terms.Term.TheVariants as Node
use Rattle.cps_ir.specs.declared.terms.Cps.{Cps}
use Rattle.cps_ir.specs.Parts.{is_assigned, Named, Celled, Part, lambdas_of, lambda_part, parts_of, root_lams, root_parts, depth_of, walked, walked_within, reached_terms, reached_lams, own_binders, lam_binders, binders, used_by}
use Rattle.cps_ir.specs.Reaches.{without, binds_of, free_within, free_at, free_in}
use Rattle.cps_ir.specs.Loads.{is_empty, is_closed, binds_assigned, makes_location, opened_within, opened_at, occurring, opened}
use Rattle.cps_ir.proofs.Counts.{tot, sum_tot, tot_same}
use Rattle.assign_convert.specs.AssignedCells.{read, given, celled}
use Rattle.assign_convert.proofs.Terms.{with_terms, at_place, unassigned}

-- ---- terms in turn

abbrev pub StaysCont : (ℕ → Bool) → Cont → Type 0
StaysCont f (Continuation.Var k) = Unit {0}
StaysCont f (Continuation.Lam param body) = f param.0 ≡ false

abbrev pub StaysArg : (ℕ → Bool) → Arg → Type 0
StaysArg f (Argument.Var x) = f x.0 ≡ false
StaysArg f _ = Unit {0}

-- the term stays as it is
abbrev pub Stays : (ℕ → Bool) → Term → Type 0
Stays f (Node.Give k value) = StaysCont f k × StaysArg f value
Stays f (Node.Set x value k) = ⊥
Stays f _ = Unit {0}

module _ (f : ℕ → Bool) (P : Term → Term → Type 0) (same : (t : Term) → Stays f t → P t t) (get : (k : Cont) (x : Var) → StaysCont f k → f x.0 ≡ true → P (Node.Give k (Argument.Var x)) (Node.CellGet x k))
    (new : (param : Var) (body : ℕ) (value : Arg) → f param.0 ≡ true → P (Node.Give (Continuation.Lam param body) value) (Node.Cell param value body))
    (set : (x : Var) (value : Arg) (k : Cont) → P (Node.Set x value k) (Node.CellSet x value k)) where
  of_read : (k : Cont) (value : Arg) → StaysCont f k → P (Node.Give k value) (read f k value)
  of_read k (Argument.Var x) s = by_test (f x.0) refl
    where
      by_test : (b : Bool) → f x.0 ≡ b → P (Node.Give k (Argument.Var x)) (if b then Node.CellGet x k else Node.Give k (Argument.Var x))
      by_test true e = get k x s e
      by_test false e = same (Node.Give k (Argument.Var x)) (s, e)
  of_read k (Argument.Const c) s = same _ (s, tt)
  of_read k (Argument.Proc l) s = same _ (s, tt)
  of_read k (Argument.Global g) s = same _ (s, tt)
  of_read k (Argument.Builtin b) s = same _ (s, tt)
  of_read k (Argument.Op o) s = same _ (s, tt)

  of_given : (k : Cont) (value : Arg) → P (Node.Give k value) (given f k value)
  of_given (Continuation.Var k) value = of_read (Continuation.Var k) value tt
  of_given (Continuation.Lam param body) value = by_test (f param.0) refl
    where
      by_test : (b : Bool) → f param.0 ≡ b → P (Node.Give (Continuation.Lam param body) value) (if b then Node.Cell param value body else read f (Continuation.Lam param body) value)
      by_test true e = new param body value e
      by_test false e = of_read (Continuation.Lam param body) value e

  -- what holds of each term that stays, and of the three that another one stands for, holds of every term
  pub of_celled : (t : Term) → P t (celled f t)
  of_celled (Node.Give k value) = of_given k value
  of_celled (Node.Set x value k) = set x value k
  of_celled (Node.Call g args k) = same _ tt
  of_celled (Node.Prim b args k) = same _ tt
  of_celled (Node.If test s t) = same _ tt
  of_celled (Node.Labels vars lams body) = same _ tt
  of_celled (Node.Join k param body rest) = same _ tt
  of_celled (Node.Cell x value rest) = same _ tt
  of_celled (Node.CellGet x k) = same _ tt
  of_celled (Node.CellSet x value k) = same _ tt
  of_celled (Node.GlobalGet g k) = same _ tt
  of_celled (Node.GlobalInit g value k) = same _ tt
  of_celled (Node.GlobalSet g value k) = same _ tt
  of_celled (Node.Catch escape body k) = same _ tt
  of_celled (Node.Uncatch k value) = same _ tt
  of_celled (Node.Object proc ops methods k) = same _ tt
  of_celled (Node.Halt value) = same _ tt

-- ---- shapes of parts: all but whether a variable is a value or a cell

pub record Shape : Type 0 where
  pub at : ℕ
  pub binds : List ℕ
  pub catches : List ℕ
  pub lambda : Bool

abbrev pub shape_of : Part → Shape
shape_of p = record { at = p.at; binds = binds_of p; catches = p.catches; lambda = p.lambda }

abbrev pub shapes_of : List Part → List Shape
shapes_of ps = map shape_of ps

flat_same : {X Y : Type 0} (g h : X → List Y) → ((x : X) → g x ≡ h x) → (xs : List X) → flat_map g xs ≡ flat_map h xs
flat_same g h e [] = refl
flat_same g h e (x ∷ xs) = ap (λ ys. ys ++ flat_map g xs) (e x) ∙ ap (λ ys. h x ++ ys) (flat_same g h e xs)

-- what is joined over parts of one shape
pub flat_shapes : {X : Type 0} (g h : Shape → List X) (ps qs : List Part) → ((s : Shape) → g s ≡ h s) → shapes_of ps ≡ shapes_of qs → flat_map (λ p. g (shape_of p)) ps ≡ flat_map (λ p. h (shape_of p)) qs
flat_shapes g h ps qs e s = sym (flat_map-map g shape_of ps) ∙ ap (flat_map g) s ∙ flat_same g h e (shapes_of qs) ∙ flat_map-map h shape_of qs

pub map_shapes : {X : Type 0} (g : Shape → X) (ps qs : List Part) → shapes_of ps ≡ shapes_of qs → map (λ p. g (shape_of p)) ps ≡ map (λ p. g (shape_of p)) qs
map_shapes g ps qs s = by_map ps ∙ ap (map g) s ∙ sym (by_map qs)
  where
    by_map : (xs : List Part) → map (λ p. g (shape_of p)) xs ≡ map g (shapes_of xs)
    by_map [] = refl
    by_map (x ∷ xs) = ap (λ ys. g (shape_of x) ∷ ys) (by_map xs)

tot_map : {X Y : Type 0} (g : Y → ℕ) (v : X → Y) (xs : List X) → tot (λ x. g (v x)) xs ≡ tot g (map v xs)
tot_map g v [] = refl
tot_map g v (x ∷ xs) = ap (λ n. g (v x) + n) (tot_map g v xs)

-- what is summed over parts of one shape
pub sum_shapes : (g h : Shape → ℕ) (ps qs : List Part) → AllByRecursion (λ p. g (shape_of p) ≡ h (shape_of p)) qs → shapes_of ps ≡ shapes_of qs → sum_by (λ p. g (shape_of p)) ps ≡ sum_by (λ p. h (shape_of p)) qs
sum_shapes g h ps qs e s =
    sum_tot (λ p. g (shape_of p)) ps ∙ tot_map g shape_of ps ∙ ap (tot g) s ∙ sym (tot_map g shape_of qs) ∙ tot_same (λ p. g (shape_of p)) (λ p. h (shape_of p)) qs e ∙ sym (sum_tot (λ p. h (shape_of p)) qs)

pub sum_same : {X : Type 0} (g h : X → ℕ) (xs : List X) → AllByRecursion (λ x. g x ≡ h x) xs → sum_by g xs ≡ sum_by h xs
sum_same g h xs e = sum_tot g xs ∙ tot_same g h xs e ∙ sym (sum_tot h xs)

-- ---- both programs

module _ (a d : Cps) (terms : d.terms.items ≡ map (celled (is_assigned a)) a.terms.items) where
  abbrev pub b : Cps
  b = with_terms a d

  abbrev pub f : ℕ → Bool
  f = is_assigned a

  pub none : (x : ℕ) → is_assigned b x ≡ false
  none x = unassigned f a.terms.items b terms x

  pub place : (t : ℕ) → slice_get d.terms.items t ≡ option_map (celled f) (slice_get a.terms.items t)
  place t = ap (λ ts. slice_get ts t) terms ∙ at_place f a.terms.items t

  pub count_same : length d.terms.items ≡ length a.terms.items
  count_same = ap length terms ∙ length-map a.terms.items (celled f)

  pub depth_same : depth_of b ≡ depth_of a
  depth_same = ap suc count_same

  pub shapes_same : (cs : List ℕ) (t : Term) → shapes_of (parts_of b cs (celled f t)) ≡ shapes_of (parts_of a cs t)
  shapes_same cs t =
      of_celled f (λ t u. shapes_of (parts_of b cs u) ≡ shapes_of (parts_of a cs t)) (λ t s. refl) (λ k x s e. refl)
      (λ param body value e.
      let ls = map (lambda_part []) (lambdas_of a (Node.Cell param value body)) in
      map-append shape_of ls (record { at = body; binds = Celled param.0 ∷ []; catches = cs; lambda = false } ∷ []) ∙ sym (map-append shape_of ls (record { at = body; binds = Named param.0 ∷ []; catches = cs; lambda = false } ∷ [])))
      (λ x value k. refl) t

  -- ---- what is reached

  walk_same : (depth t : ℕ) → walked_within b depth t ≡ walked_within a depth t
  unfolding walked_within
  walk_same zero t = refl
  walk_same (suc depth) t = ap (λ o. t ∷ option_map_or (λ term. flat_map (λ p. walked_within b depth p.at) (parts_of b [] term)) o []) (place t) ∙ ap (λ zs. t ∷ zs) (by_option (slice_get a.terms.items t) (λ r. walk_same depth r))
    where
      by_option : (o : Option Term) → ((r : ℕ) → walked_within b depth r ≡ walked_within a depth r)
          → option_map_or (λ term. flat_map (λ p. walked_within b depth p.at) (parts_of b [] term)) (option_map (celled f) o) [] ≡ option_map_or (λ term. flat_map (λ p. walked_within a depth p.at) (parts_of a [] term)) o []
      by_option None go = refl
      by_option (Some term) go = flat_shapes (λ s. walked_within b depth s.at) (λ s. walked_within a depth s.at) (parts_of b [] (celled f term)) (parts_of a [] term) (λ s. go s.at) (shapes_same [] term)

  pub walked_same : walked b ≡ walked a
  walked_same = ap (λ n. flat_map (λ p. walked_within b n p.at) (root_parts a)) depth_same ∙ flat_same (λ p. walked_within b (depth_of a) p.at) (λ p. walked_within a (depth_of a) p.at) (λ p. walk_same (depth_of a) p.at) (root_parts a)

  found_same : (ps : List ℕ) → filter_map (slice_get d.terms.items) ps ≡ map (celled f) (filter_map (slice_get a.terms.items) ps)
  found_same [] = refl
  found_same (p ∷ ps) = ap (λ o. cons_option o (filter_map (slice_get d.terms.items) ps)) (place p) ∙ by_option (slice_get a.terms.items p) (found_same ps)
    where
      by_option : (o : Option Term) → filter_map (slice_get d.terms.items) ps ≡ map (celled f) (filter_map (slice_get a.terms.items) ps)
          → cons_option (option_map (celled f) o) (filter_map (slice_get d.terms.items) ps) ≡ map (celled f) (cons_option o (filter_map (slice_get a.terms.items) ps))
      by_option None h = h
      by_option (Some t) h = ap (λ ts. celled f t ∷ ts) h

  pub reached_same : reached_terms b ≡ map (celled f) (reached_terms a)
  reached_same = ap (filter_map (slice_get d.terms.items)) walked_same ∙ found_same (walked a)

  -- what each term gives, joined
  pub joined_same : {X : Type 0} (g h : Term → List X) → ((t : Term) → g (celled f t) ≡ h t) → flat_map g (reached_terms b) ≡ flat_map h (reached_terms a)
  joined_same g h e = ap (flat_map g) reached_same ∙ flat_map-map g (celled f) (reached_terms a) ∙ flat_same (λ t. g (celled f t)) h e (reached_terms a)

  pub lambdas_same : (t : Term) → lambdas_of b (celled f t) ≡ lambdas_of a t
  lambdas_same t = of_celled f (λ t u. lambdas_of b u ≡ lambdas_of a t) (λ t s. refl) (λ k x s e. refl) (λ param body value e. refl) (λ x value k. refl) t

  pub lams_same : reached_lams b ≡ reached_lams a
  lams_same = ap (λ ls. root_lams a ++ ls) (joined_same (lambdas_of b) (lambdas_of a) lambdas_same)

  pub own_same : (t : Term) → own_binders (celled f t) ≡ own_binders t
  own_same t = of_celled f (λ t u. own_binders u ≡ own_binders t) (λ t s. refl) (λ k x s e. refl) (λ param body value e. refl) (λ x value k. refl) t

  pub binders_same : binders b ≡ binders a
  binders_same = ap (λ xs. xs ++ flat_map lam_binders (reached_lams b)) (joined_same own_binders own_binders own_same) ∙ ap (λ ls. flat_map own_binders (reached_terms a) ++ flat_map lam_binders ls) lams_same

  -- ---- what is free

  pub used_same : (t : Term) → used_by (celled f t) ≡ used_by t
  used_same t = of_celled f (λ t u. used_by u ≡ used_by t) (λ t s. refl) (λ k x s e. refl) (λ param body value e. refl) (λ x value k. refl) t

  free_within_same : (depth t : ℕ) → free_within b depth t ≡ free_within a depth t
  unfolding free_within
  free_within_same zero t = refl
  free_within_same (suc depth) t =
      ap (λ o. option_map_or (λ term. used_by term ++ flat_map (λ p. without (binds_of p) (free_within b depth p.at)) (parts_of b [] term)) o []) (place t) ∙ by_option (slice_get a.terms.items t) (λ r. free_within_same depth r)
    where
      by_option : (o : Option Term) → ((r : ℕ) → free_within b depth r ≡ free_within a depth r)
          → option_map_or (λ term. used_by term ++ flat_map (λ p. without (binds_of p) (free_within b depth p.at)) (parts_of b [] term)) (option_map (celled f) o) []
          ≡ option_map_or (λ term. used_by term ++ flat_map (λ p. without (binds_of p) (free_within a depth p.at)) (parts_of a [] term)) o []
      by_option None go = refl
      by_option (Some term) go =
          ap (λ xs. xs ++ flat_map (λ p. without (binds_of p) (free_within b depth p.at)) (parts_of b [] (celled f term))) (used_same term)
          ∙ ap (λ xs. used_by term ++ xs) (flat_shapes (λ s. without s.binds (free_within b depth s.at)) (λ s. without s.binds (free_within a depth s.at)) (parts_of b [] (celled f term)) (parts_of a [] term) (λ s. ap (without s.binds) (go s.at)) (shapes_same [] term))

  pub free_same : (t : ℕ) → free_at b t ≡ free_at a t
  free_same t = ap (λ n. free_within b n t) depth_same ∙ free_within_same (depth_of a) t

  pub closed_same : (t : ℕ) → is_closed b t ≡ is_closed a t
  closed_same t = ap is_empty (free_same t)

  pub free_in_same : (lam : Lam) → free_in b lam ≡ free_in a lam
  free_in_same lam = ap (without (lam_binders lam)) (free_same lam.body)

  -- ---- open occurrences

  makes_stays : (t : Term) → Stays f t → makes_location b t ≡ makes_location a t
  makes_stays (Node.Give (Continuation.Var k) value) s = refl
  makes_stays (Node.Give (Continuation.Lam param body) value) s = none param.0 ∙ sym s.0
  makes_stays (Node.Set x value k) s = refl
  makes_stays (Node.Call g args k) s = refl
  makes_stays (Node.Prim c args k) s = refl
  makes_stays (Node.If test x y) s = refl
  makes_stays (Node.Labels vars lams body) s = refl
  makes_stays (Node.Join k param body rest) s = refl
  makes_stays (Node.Cell x value rest) s = refl
  makes_stays (Node.CellGet x k) s = refl
  makes_stays (Node.CellSet x value k) s = refl
  makes_stays (Node.GlobalGet g k) s = refl
  makes_stays (Node.GlobalInit g value k) s = refl
  makes_stays (Node.GlobalSet g value k) s = refl
  makes_stays (Node.Catch escape body k) s = refl
  makes_stays (Node.Uncatch k value) s = refl
  makes_stays (Node.Object proc ops methods k) s = refl
  makes_stays (Node.Halt value) s = refl

  binds_none : (k : Cont) → StaysCont f k → false ≡ binds_assigned a k
  binds_none (Continuation.Var k) s = refl
  binds_none (Continuation.Lam param body) s = sym s

  makes_same : (t : Term) → makes_location b (celled f t) ≡ makes_location a t
  makes_same t = of_celled f (λ t u. makes_location b u ≡ makes_location a t) makes_stays (λ k x s e. binds_none k s) (λ param body value e. sym e) (λ x value k. refl) t

  open_by : (u : Cps) → ℕ → Shape → List ℕ
  open_by u depth s = without s.binds (if s.lambda then free_at u s.at else opened_within u depth s.at)

  opened_within_same : (depth t : ℕ) → opened_within b depth t ≡ opened_within a depth t
  unfolding opened_within open_by
  opened_within_same zero t = refl
  opened_within_same (suc depth) t =
      ap (λ o. option_map_or (λ term. (if makes_location b term then [] else used_by term) ++ flat_map (λ p. without (binds_of p) (if p.lambda then free_at b p.at else opened_within b depth p.at)) (parts_of b [] term)) o []) (place t)
      ∙ by_option (slice_get a.terms.items t) (λ r. opened_within_same depth r)
    where
      by_shape : (lambda : Bool) (at : ℕ) (binds : List ℕ) → opened_within b depth at ≡ opened_within a depth at → without binds (if lambda then free_at b at else opened_within b depth at) ≡ without binds (if lambda then free_at a at else opened_within a depth at)
      by_shape true at binds e = ap (without binds) (free_same at)
      by_shape false at binds e = ap (without binds) e

      by_option : (o : Option Term) → ((r : ℕ) → opened_within b depth r ≡ opened_within a depth r)
          → option_map_or (λ term. (if makes_location b term then [] else used_by term) ++ flat_map (λ p. without (binds_of p) (if p.lambda then free_at b p.at else opened_within b depth p.at)) (parts_of b [] term)) (option_map (celled f) o) []
          ≡ option_map_or (λ term. (if makes_location a term then [] else used_by term) ++ flat_map (λ p. without (binds_of p) (if p.lambda then free_at a p.at else opened_within a depth p.at)) (parts_of a [] term)) o []
      by_option None go = refl
      by_option (Some term) go =
          ap (λ m. (if m then [] else used_by (celled f term)) ++ flat_map (λ p. open_by b depth (shape_of p)) (parts_of b [] (celled f term))) (makes_same term)
          ∙ ap (λ xs. (if makes_location a term then [] else xs) ++ flat_map (λ p. open_by b depth (shape_of p)) (parts_of b [] (celled f term))) (used_same term)
          ∙ ap (λ xs. (if makes_location a term then [] else used_by term) ++ xs) (flat_shapes (open_by b depth) (open_by a depth) (parts_of b [] (celled f term)) (parts_of a [] term) (λ s. by_shape s.lambda s.at s.binds (go s.at)) (shapes_same [] term))

  pub opened_at_same : (t : ℕ) → opened_at b t ≡ opened_at a t
  opened_at_same t = ap (λ n. opened_within b n t) depth_same ∙ opened_within_same (depth_of a) t

  pub occurring_same : (t u : Term) → shapes_of (parts_of b [] u) ≡ shapes_of (parts_of a [] t) → occurring b u ≡ occurring a t
  occurring_same t u e = flat_shapes (λ s. free_at b s.at) (λ s. free_at a s.at) (parts_of b [] u) (parts_of a [] t) (λ s. free_same s.at) e

  pub opened_same : (t u : Term) → shapes_of (parts_of b [] u) ≡ shapes_of (parts_of a [] t) → opened b u ≡ opened a t
  opened_same t u e = flat_shapes (λ s. if s.lambda then free_at b s.at else opened_at b s.at) (λ s. if s.lambda then free_at a s.at else opened_at a s.at) (parts_of b [] u) (parts_of a [] t) (λ s. by_test s.lambda s.at) e
    where
      by_test : (lambda : Bool) (at : ℕ) → (if lambda then free_at b at else opened_at b at) ≡ (if lambda then free_at a at else opened_at a at)
      by_test true at = free_same at
      by_test false at = opened_at_same at
