-- A whole program within the rule gives a whole one with cells.
use Rattle.std.specs.Prelude.{◌≢◌, IsSomeAnd, All, AllPairs, Contains, sum_by}
use Rattle.std.specs.List.{AllByRecursion}
use Rattle.std.specs.Option.{option_map, option_map_or}
use Rattle.std.proofs.Common.{◌≡◌, ℕ, zero, suc, ◌+◌, ◌*◌, ◌≤◌, ◌<◌, ◌==◌, List, [], ◌∷◌, ◌++◌, length, map, zip, get_or, Option, Some, None, Bool, true, false, if◌then◌else◌, slice_get, refl, sym, ap, ◌∙◌, subst, arith}
use Rattle.std.proofs.lemmas.List.{map-append}
use Rattle.std.proofs.lemmas.List.Elements.{All-map}
use Rattle.t_base.specs.declared.basics.Var.{Var}
use Rattle.cps_ir.specs.declared.args.Arg.{Arg}
use Rattle.cps_ir.specs.declared.args.Arg.TheVariants as Argument
use Rattle.cps_ir.specs.declared.terms.Cont.{Cont}
use Rattle.cps_ir.specs.declared.terms.Cont.TheVariants as Continuation
use Rattle.cps_ir.specs.declared.terms.Lam.{Lam}
use Rattle.cps_ir.specs.declared.terms.Term.{Term}
use Rattle.cps_ir.specs.declared.terms.Term.TheVariants as Node
use Rattle.cps_ir.specs.declared.terms.Cps.{Cps}
use Rattle.cps_ir.specs.Terms.{args_of, cont_of}
use Rattle.cps_ir.specs.Parts.{is_assigned, Name, Named, Celled, JoinK, OwnK, named, variable_of, Part, behind, cont_parts, own_parts, procs_of, lambdas_of, around, lambda_part, parts_of, root_lams, root_parts, depth_of, walked, reached_terms, reached_lams, own_binders, lam_binders, binders, arg_variables, cont_variable}
use Rattle.cps_ir.specs.Reaches.{is_in, without, binds_of, free_at, free_in, free_in_lams, Known, known_by, known_of, reached_within, reached_from, labels_of, words_of, term_reach, lam_reach, methods_of, methods_reach, Fits}
use Rattle.cps_ir.specs.Loads.{AssignsAlone, HasLoads}
use Rattle.cps_ir.specs.Whole.{HasNames, HoldsWithin, HoldsOfEach, PlaceIsBound, UsesVariables, IsShaped, open_at, LeadsOn, IsFormed, IsWhole}
use Rattle.cps_ir.proofs.ProperLists.{all_head, each_append, each_left, each_more, each_of_two, each_of_all, each_of, each_unjoined}
use Rattle.cps_ir.proofs.Closed.{parts_same, all_of_each}
use Rattle.assign_convert.specs.AssignedCells.{celled}
use Rattle.assign_convert.proofs.Ruled.{LamAlone, Alone, RuledWithin, LamRuled, roots_ruled, lams_of_roots}
use Rattle.assign_convert.proofs.Steps.{IsFree}
use Rattle.assign_convert.proofs.Shapes.{StaysCont, StaysArg, Stays, of_celled, sum_same, b, f, place, count_same, depth_same, walked_same, reached_same, joined_same, lams_same, binders_same, free_same, free_in_same}

-- all items of no list
all_none : {X : Type 0} (P : X → Type 0) → All P []
all_none P k d lt = absurd (omega (arith, lt))

all_single : {X : Type 0} (P : X → Type 0) (x : X) → P x → All P (x ∷ [])
all_single P x h = all_of_each P (x ∷ []) (h, tt)

each_mapped : {X Y : Type 0} (R : Y → Type 0) (v : X → Y) (xs : List X) → AllByRecursion (λ x. R (v x)) xs → AllByRecursion R (map v xs)
each_mapped R v [] h = tt
each_mapped R v (x ∷ xs) h = (h.0, each_mapped R v xs h.1)

module _ (a d : Cps) (terms : d.terms.items ≡ map (celled (is_assigned a)) a.terms.items) where
  abbrev after : Cps
  after = b a d terms

  abbrev g : ℕ → Bool
  g = f a d terms

  -- ---- names

  -- an assigned variable is bound as a cell
  cell_name : Name → Name
  cell_name (Named x) = if g x then Celled x else Named x
  cell_name (Celled x) = Celled x
  cell_name (JoinK k cs) = JoinK k cs
  cell_name (OwnK k) = OwnK k

  celled_part : Part → Part
  celled_part p = record { at = p.at; binds = map cell_name p.binds; catches = p.catches; lambda = p.lambda }

  name_free : (x : ℕ) → IsFree a x → cell_name (Named x) ≡ Named x
  unfolding cell_name
  name_free x e = ap (λ c. if c then Celled x else Named x) e

  name_cell : (x : ℕ) → g x ≡ true → cell_name (Named x) ≡ Celled x
  unfolding cell_name
  name_cell x e = ap (λ c. if c then Celled x else Named x) e

  names_free : (ns : List Name) → AllByRecursion (IsFree a) (map variable_of ns) → map cell_name ns ≡ ns
  unfolding cell_name
  names_free [] h = refl
  names_free (Named x ∷ ns) h = ap (λ m. m ∷ map cell_name ns) (name_free x h.0) ∙ ap (λ ms. Named x ∷ ms) (names_free ns h.1)
  names_free (Celled x ∷ ns) h = ap (λ ms. Celled x ∷ ms) (names_free ns h.1)
  names_free (JoinK k cs ∷ ns) h = ap (λ ms. JoinK k cs ∷ ms) (names_free ns h.1)
  names_free (OwnK k ∷ ns) h = ap (λ ms. OwnK k ∷ ms) (names_free ns h.1)

  abbrev BindsFree : Part → Type 0
  BindsFree p = AllByRecursion (IsFree a) (binds_of p)

  parts_free : (ps : List Part) → AllByRecursion BindsFree ps → map celled_part ps ≡ ps
  unfolding celled_part
  parts_free [] h = refl
  parts_free (p ∷ ps) h = ap (λ ns. record { at = p.at; binds = ns; catches = p.catches; lambda = p.lambda } ∷ map celled_part ps) (names_free p.binds h.0) ∙ ap (λ qs. p ∷ qs) (parts_free ps h.1)

  -- ---- what the rule says of the binders and the arguments of a term that stays

  pub stays_own : (t : Term) → Stays g t → AssignsAlone a t → AllByRecursion (IsFree a) (own_binders t)
  stays_own (Node.Give (Continuation.Var k) value) s h = tt
  stays_own (Node.Give (Continuation.Lam param body) value) s h = (s.0, tt)
  stays_own (Node.Set x value k) s h = absurd s
  stays_own (Node.Call y args k) s h = each_of_all (IsFree a) (own_binders (Node.Call y args k)) h.0
  stays_own (Node.Prim c args k) s h = each_of_all (IsFree a) (own_binders (Node.Prim c args k)) h.0
  stays_own (Node.If test x y) s h = each_of_all (IsFree a) (own_binders (Node.If test x y)) h.0
  stays_own (Node.Labels vars lams body) s h = each_of_all (IsFree a) (own_binders (Node.Labels vars lams body)) h.0
  stays_own (Node.Join k param body rest) s h = each_of_all (IsFree a) (own_binders (Node.Join k param body rest)) h.0
  stays_own (Node.Cell x value rest) s h = each_of_all (IsFree a) (own_binders (Node.Cell x value rest)) h.0
  stays_own (Node.CellGet x k) s h = each_of_all (IsFree a) (own_binders (Node.CellGet x k)) h.0
  stays_own (Node.CellSet x value k) s h = each_of_all (IsFree a) (own_binders (Node.CellSet x value k)) h.0
  stays_own (Node.GlobalGet i k) s h = each_of_all (IsFree a) (own_binders (Node.GlobalGet i k)) h.0
  stays_own (Node.GlobalInit i value k) s h = each_of_all (IsFree a) (own_binders (Node.GlobalInit i value k)) h.0
  stays_own (Node.GlobalSet i value k) s h = each_of_all (IsFree a) (own_binders (Node.GlobalSet i value k)) h.0
  stays_own (Node.Catch escape inner k) s h = each_of_all (IsFree a) (own_binders (Node.Catch escape inner k)) h.0
  stays_own (Node.Uncatch k value) s h = each_of_all (IsFree a) (own_binders (Node.Uncatch k value)) h.0
  stays_own (Node.Object proc ops methods k) s h = each_of_all (IsFree a) (own_binders (Node.Object proc ops methods k)) h.0
  stays_own (Node.Halt value) s h = each_of_all (IsFree a) (own_binders (Node.Halt value)) h.0

  arg_free : (value : Arg) → StaysArg g value → AllByRecursion (IsFree a) (arg_variables (value ∷ []))
  arg_free (Argument.Var x) s = (s, tt)
  arg_free (Argument.Const c) s = tt
  arg_free (Argument.Proc l) s = tt
  arg_free (Argument.Global i) s = tt
  arg_free (Argument.Builtin c) s = tt
  arg_free (Argument.Op o) s = tt

  stays_args : (t : Term) → Stays g t → AssignsAlone a t → AllByRecursion (IsFree a) (arg_variables (args_of t))
  stays_args (Node.Give k value) s h = arg_free value s.1
  stays_args (Node.Set x value k) s h = absurd s
  stays_args (Node.Call y args k) s h = each_of_all (IsFree a) (arg_variables (args_of (Node.Call y args k))) h.1
  stays_args (Node.Prim c args k) s h = each_of_all (IsFree a) (arg_variables (args_of (Node.Prim c args k))) h.1
  stays_args (Node.If test x y) s h = each_of_all (IsFree a) (arg_variables (args_of (Node.If test x y))) h.1
  stays_args (Node.Labels vars lams body) s h = tt
  stays_args (Node.Join k param body rest) s h = tt
  stays_args (Node.Cell x value rest) s h = each_of_all (IsFree a) (arg_variables (args_of (Node.Cell x value rest))) h.1
  stays_args (Node.CellGet x k) s h = tt
  stays_args (Node.CellSet x value k) s h = each_of_all (IsFree a) (arg_variables (args_of (Node.CellSet x value k))) h.1
  stays_args (Node.GlobalGet i k) s h = tt
  stays_args (Node.GlobalInit i value k) s h = each_of_all (IsFree a) (arg_variables (args_of (Node.GlobalInit i value k))) h.1
  stays_args (Node.GlobalSet i value k) s h = each_of_all (IsFree a) (arg_variables (args_of (Node.GlobalSet i value k))) h.1
  stays_args (Node.Catch escape inner k) s h = tt
  stays_args (Node.Uncatch k value) s h = each_of_all (IsFree a) (arg_variables (args_of (Node.Uncatch k value))) h.1
  stays_args (Node.Object proc ops methods k) s h = each_of_all (IsFree a) (arg_variables (args_of (Node.Object proc ops methods k))) h.1
  stays_args (Node.Halt value) s h = each_of_all (IsFree a) (arg_variables (args_of (Node.Halt value))) h.1

  -- ---- parts

  around_free : (t : Term) → AllByRecursion (IsFree a) (own_binders t) → AllByRecursion (IsFree a) (map variable_of (around t))
  around_free (Node.Labels vars lams body) h = each_left (IsFree a) (map variable_of (named vars)) [] h
  around_free (Node.Give k value) h = tt
  around_free (Node.Set x value k) h = tt
  around_free (Node.Call y args k) h = tt
  around_free (Node.Prim c args k) h = tt
  around_free (Node.If test x y) h = tt
  around_free (Node.Join k param body rest) h = tt
  around_free (Node.Cell x value rest) h = tt
  around_free (Node.CellGet x k) h = tt
  around_free (Node.CellSet x value k) h = tt
  around_free (Node.GlobalGet i k) h = tt
  around_free (Node.GlobalInit i value k) h = tt
  around_free (Node.GlobalSet i value k) h = tt
  around_free (Node.Catch escape inner k) h = tt
  around_free (Node.Uncatch k value) h = tt
  around_free (Node.Object proc ops methods k) h = tt
  around_free (Node.Halt value) h = tt

  lam_binds : (xs : List Var) (k : ℕ) (ns : List Name) → AllByRecursion (IsFree a) (map (λ x. x.0) xs ++ k ∷ []) → AllByRecursion (IsFree a) (map variable_of ns) → AllByRecursion (IsFree a) (map variable_of (named xs ++ OwnK k ∷ ns))
  lam_binds [] k ns h n = (h.0, n)
  lam_binds (x ∷ xs) k ns h n = (h.0, lam_binds xs k ns h.1 n)

  lambdas_free : (ns : List Name) (lams : List Lam) → AllByRecursion (IsFree a) (map variable_of ns) → AllByRecursion (LamAlone a) lams → AllByRecursion BindsFree (map (lambda_part ns) lams)
  lambdas_free ns [] n h = tt
  lambdas_free ns (lam ∷ lams) n h = (lam_binds lam.params lam.k.0 ns (each_of_all (IsFree a) (lam_binders lam) h.0) n, lambdas_free ns lams n h.1)

  all_parts_free : (cs : List ℕ) (t : Term) → AllByRecursion (IsFree a) (own_binders t) → AllByRecursion (LamAlone a) (lambdas_of a t) → AllByRecursion BindsFree (parts_of a cs t)
  all_parts_free cs t own h =
      parts_same (λ bound at. AllByRecursion (IsFree a) bound) a [] cs t
      (each_append BindsFree (map (lambda_part (around t)) (lambdas_of a t)) (own_parts [] t) (lambdas_free (around t) (lambdas_of a t) (around_free t own) h) (each_unjoined (λ p. map variable_of p.binds) (IsFree a) (own_parts [] t) own))

  cont_cells : (cs : List ℕ) (k : Cont) → StaysCont g k → cont_parts cs (Some k) ≡ map celled_part (cont_parts cs (Some k))
  unfolding celled_part
  cont_cells cs (Continuation.Var k) s = refl
  cont_cells cs (Continuation.Lam param body) s = ap (λ m. record { at = body; binds = m ∷ []; catches = cs; lambda = false } ∷ []) (sym (name_free param.0 s))

  parts_cells : (cs : List ℕ) (t : Term) → Alone a t → parts_of after cs (celled g t) ≡ map celled_part (parts_of a cs t)
  unfolding celled_part
  parts_cells cs t h =
      of_celled g (λ t u. Alone a t → parts_of after cs u ≡ map celled_part (parts_of a cs t)) (λ t s h. sym (parts_free (parts_of a cs t) (all_parts_free cs t (stays_own t s h.assigns) h.lams)))
      (λ k x s e h. cont_cells cs k s)
      (λ param body value e h.
      let lambdas = map (lambda_part []) (lambdas_of a (Node.Give (Continuation.Lam param body) value)) in
      ap (λ ls. ls ++ record { at = body; binds = Celled param.0 ∷ []; catches = cs; lambda = false } ∷ []) (sym (parts_free lambdas (lambdas_free [] (lambdas_of a (Node.Give (Continuation.Lam param body) value)) tt h.lams)))
      ∙ ap (λ m. map celled_part lambdas ++ record { at = body; binds = m ∷ []; catches = cs; lambda = false } ∷ []) (sym (name_cell param.0 e))
      ∙ sym (map-append celled_part lambdas (record { at = body; binds = Named param.0 ∷ []; catches = cs; lambda = false } ∷ [])))
      (λ x value k h. sym (parts_free (parts_of a cs (Node.Set x value k)) (all_parts_free cs (Node.Set x value k) (each_of_all (IsFree a) (own_binders (Node.Set x value k)) h.assigns.0) h.lams))) t h

  -- ---- uses

  in_cells : (scope : List Name) (n : Name) → Contains scope n → Contains (map cell_name scope) (cell_name n)
  in_cells scope n c = by_place scope c.0 c.1 c.2
    where
      by_place : (ns : List Name) (k : ℕ) → k < length ns → get_or ns k n ≡ n → Contains (map cell_name ns) (cell_name n)
      by_place [] k lt e = absurd (omega (arith, lt))
      by_place (m ∷ ns) zero lt e = (0, omega arith, ap cell_name e)
      by_place (m ∷ ns) (suc k) lt e = let r = by_place ns k (omega (arith, lt)) e in let lr = r.1 in (suc r.0, omega (arith, lr), r.2)

  free_in_scope : (scope : List Name) (x : ℕ) → IsFree a x → Contains scope (Named x) → Contains (map cell_name scope) (Named x)
  free_in_scope scope x e c = subst (Contains (map cell_name scope)) (name_free x e) (in_cells scope (Named x) c)

  cell_in_scope : (scope : List Name) (x : ℕ) → g x ≡ true → Contains scope (Named x) → Contains (map cell_name scope) (Celled x)
  cell_in_scope scope x e c = subst (Contains (map cell_name scope)) (name_cell x e) (in_cells scope (Named x) c)

  old_in_scope : (scope : List Name) (x : ℕ) → Contains scope (Celled x) → Contains (map cell_name scope) (Celled x)
  unfolding cell_name
  old_in_scope scope x c = in_cells scope (Celled x) c

  args_in_scope : (scope : List Name) (xs : List ℕ) → AllByRecursion (IsFree a) xs → All (λ x. Contains scope (Named x)) xs → All (λ x. Contains (map cell_name scope) (Named x)) xs
  args_in_scope scope xs e h =
      all_of_each (λ x. Contains (map cell_name scope) (Named x)) xs
      (each_of_two (IsFree a) (λ x. Contains scope (Named x)) (λ x. Contains (map cell_name scope) (Named x)) xs (λ x q c. free_in_scope scope x q c) e (each_of_all (λ x. Contains scope (Named x)) xs h))

  stays_place : (scope : List Name) (t : Term) → Stays g t → PlaceIsBound scope t → PlaceIsBound (map cell_name scope) t
  stays_place scope (Node.CellGet x k) s h = old_in_scope scope x.0 h
  stays_place scope (Node.CellSet x value k) s h = old_in_scope scope x.0 h
  stays_place scope (Node.Set x value k) s h = absurd s
  stays_place scope (Node.Give k value) s h = tt
  stays_place scope (Node.Call y args k) s h = tt
  stays_place scope (Node.Prim c args k) s h = tt
  stays_place scope (Node.If test x y) s h = tt
  stays_place scope (Node.Labels vars lams body) s h = tt
  stays_place scope (Node.Join k param body rest) s h = tt
  stays_place scope (Node.Cell x value rest) s h = tt
  stays_place scope (Node.GlobalGet i k) s h = tt
  stays_place scope (Node.GlobalInit i value k) s h = tt
  stays_place scope (Node.GlobalSet i value k) s h = tt
  stays_place scope (Node.Catch escape inner k) s h = tt
  stays_place scope (Node.Uncatch k value) s h = tt
  stays_place scope (Node.Object proc ops methods k) s h = tt
  stays_place scope (Node.Halt value) s h = tt

  uses_cells : (scope : List Name) (cs : List ℕ) (t : Term) → Alone a t → UsesVariables scope cs t → UsesVariables (map cell_name scope) cs (celled g t)
  uses_cells scope cs t h u =
      of_celled g (λ t r. Alone a t → UsesVariables scope cs t → UsesVariables (map cell_name scope) cs r)
      (λ t s h u. record { args = args_in_scope scope (arg_variables (args_of t)) (stays_args t s h.assigns) u.args; place = stays_place scope t s u.place })
      (λ k x s e h u. record { args = all_none _; place = cell_in_scope scope x.0 e (all_head (λ y. Contains scope (Named y)) x.0 [] u.args) })
      (λ param body value e h u. record { args = args_in_scope scope (arg_variables (value ∷ [])) (each_of_all (IsFree a) (arg_variables (value ∷ [])) (h.assigns e)) u.args; place = tt })
      (λ x value k h u. record { args = args_in_scope scope (arg_variables (value ∷ [])) (each_of_all (IsFree a) (arg_variables (value ∷ [])) h.assigns.1) u.args; place = cell_in_scope scope x.0 h.set u.place }) t h u

  -- ---- continuations

  open_cells : (scope : List Name) (k : ℕ) → open_at (map cell_name scope) k ≡ open_at scope k
  unfolding cell_name
  open_cells [] k = refl
  open_cells (Named x ∷ scope) k = by_test (g x) (open_cells scope k)
    where
      by_test : (c : Bool) → open_at (map cell_name scope) k ≡ open_at scope k → open_at ((if c then Celled x else Named x) ∷ map cell_name scope) k ≡ open_at scope k
      by_test true e = e
      by_test false e = e
  open_cells (Celled x ∷ scope) k = open_cells scope k
  open_cells (JoinK j cs ∷ scope) k = ap (λ o. if j == k then Some cs else o) (open_cells scope k)
  open_cells (OwnK j ∷ scope) k = refl

  conts_cells : (scope : List Name) (cs : List ℕ) (ks : List ℕ) → All (λ k. open_at scope k ≡ Some cs) ks → All (λ k. open_at (map cell_name scope) k ≡ Some cs) ks
  conts_cells scope cs ks h =
      all_of_each (λ k. open_at (map cell_name scope) k ≡ Some cs) ks (each_more (λ k. open_at scope k ≡ Some cs) (λ k. open_at (map cell_name scope) k ≡ Some cs) ks (λ k e. open_cells scope k ∙ e) (each_of_all (λ k. open_at scope k ≡ Some cs) ks h))

  leads_cells : (scope : List Name) (cs : List ℕ) (t : Term) → Alone a t → LeadsOn scope cs t → LeadsOn (map cell_name scope) cs (celled g t)
  leads_cells scope cs t h l =
      of_celled g (λ t r. LeadsOn scope cs t → LeadsOn (map cell_name scope) cs r) (λ t s l. record { conts = conts_cells scope (behind cs t) (cont_variable (cont_of t)) l.conts; ends = l.ends })
      (λ k x s e l. record { conts = conts_cells scope cs (cont_variable (Some k)) l.conts; ends = tt }) (λ param body value e l. record { conts = all_none _; ends = tt }) (λ x value k l. record { conts = conts_cells scope cs (cont_variable (Some k)) l.conts; ends = tt }) t l

  -- ---- of each term

  module _ (P : List Name → List ℕ → Term → Type 0) (turn : (scope : List Name) (cs : List ℕ) (t : Term) → Alone a t → P scope cs t → P (map cell_name scope) cs (celled g t)) where
    within_cells : (k j : ℕ) (scope : List Name) (cs : List ℕ) (t : ℕ) → HoldsWithin P a k scope cs t → RuledWithin a j t → HoldsWithin P after k (map cell_name scope) cs t
    unfolding HoldsWithin RuledWithin celled_part
    within_cells zero j scope cs t h r = absurd h
    within_cells (suc k) zero scope cs t h r = absurd r
    within_cells (suc k) (suc j) scope cs t h r =
        subst (λ o. IsSomeAnd o (λ term. P (map cell_name scope) cs term × AllByRecursion (λ p. HoldsWithin P after k (p.binds ++ map cell_name scope) p.catches p.at) (parts_of after cs term))) (sym (place a d terms t))
        (by_option (slice_get a.terms.items t) h r (λ ns ds q x y. within_cells k j ns ds q x y))
      where
        by_option : (o : Option Term) → IsSomeAnd o (λ term. P scope cs term × AllByRecursion (λ p. HoldsWithin P a k (p.binds ++ scope) p.catches p.at) (parts_of a cs term))
            → IsSomeAnd o (λ term. Alone a term × AllByRecursion (λ p. RuledWithin a j p.at) (parts_of a [] term))
            → ((ns : List Name) (ds : List ℕ) (q : ℕ) → HoldsWithin P a k ns ds q → RuledWithin a j q → HoldsWithin P after k (map cell_name ns) ds q)
            → IsSomeAnd (option_map (celled g) o) (λ term. P (map cell_name scope) cs term × AllByRecursion (λ p. HoldsWithin P after k (p.binds ++ map cell_name scope) p.catches p.at) (parts_of after cs term))
        by_option None h r go = absurd h
        by_option (Some term) h r go = (
          turn scope cs term r.0 h.0,
          subst (AllByRecursion (λ p. HoldsWithin P after k (p.binds ++ map cell_name scope) p.catches p.at)) (sym (parts_cells cs term r.0))
              (each_mapped (λ p. HoldsWithin P after k (p.binds ++ map cell_name scope) p.catches p.at) celled_part (parts_of a cs term)
              (each_of_two (λ p. HoldsWithin P a k (p.binds ++ scope) p.catches p.at) (λ p. RuledWithin a j p.at) (λ p. HoldsWithin P after k (map cell_name p.binds ++ map cell_name scope) p.catches p.at) (parts_of a cs term)
              (λ p x y. subst (λ ns. HoldsWithin P after k ns p.catches p.at) (map-append cell_name p.binds scope) (go (p.binds ++ scope) p.catches p.at x y)) h.1
              (parts_same (λ bound at. RuledWithin a j at) a [] cs term r.1))),
        )

    of_each : AllByRecursion (λ p. RuledWithin a (depth_of a) p.at) (root_parts a) → AllByRecursion (LamAlone a) (root_lams a) → HoldsOfEach P a → HoldsOfEach P after
    of_each ruled alone h =
        subst (λ n. AllByRecursion (λ p. HoldsWithin P after n p.binds p.catches p.at) (root_parts a)) (sym (depth_same a d terms))
        (each_of_two (λ p. HoldsWithin P after (depth_of a) (map cell_name p.binds) p.catches p.at) BindsFree (λ p. HoldsWithin P after (depth_of a) p.binds p.catches p.at) (root_parts a)
        (λ p x e. subst (λ ns. HoldsWithin P after (depth_of a) ns p.catches p.at) (names_free p.binds e) x)
        (each_of_two (λ p. HoldsWithin P a (depth_of a) p.binds p.catches p.at) (λ p. RuledWithin a (depth_of a) p.at) (λ p. HoldsWithin P after (depth_of a) (map cell_name p.binds) p.catches p.at) (root_parts a)
        (λ p x r. within_cells (depth_of a) (depth_of a) p.binds p.catches p.at x r) h ruled)
        (tt, lambdas_free [] (root_lams a) tt alone))

  -- ---- places and shapes

  names_cells : (t : Term) → HasNames a t → HasNames after (celled g t)
  names_cells t h =
      of_celled g (λ t u. HasNames a t → HasNames after u)
      (λ t s h. record { args = h.args; names = h.names; terms = subst (λ n. All (λ p. p.at < n) (own_parts [] t)) (sym (count_same a d terms)) h.terms; lams = h.lams })
      (λ k x s e h. record { args = all_none _; names = tt; terms = subst (λ n. All (λ p. p.at < n) (cont_parts [] (Some k))) (sym (count_same a d terms)) h.terms; lams = h.lams })
      (λ param body value e h. record {
        args = h.args;
        names = tt;
        terms = all_single (λ p. p.at < length d.terms.items) _ (subst (λ n. body < n) (sym (count_same a d terms)) (all_head (λ p. p.at < length a.terms.items) _ [] h.terms));
        lams = h.lams;
      })
      (λ x value k h. record { args = h.args; names = tt; terms = subst (λ n. All (λ p. p.at < n) (cont_parts [] (Some k))) (sym (count_same a d terms)) h.terms; lams = h.lams }) t h

  shaped_cells : (t : Term) → IsShaped a t → IsShaped after (celled g t)
  shaped_cells t h =
      of_celled g (λ t u. IsShaped a t → IsShaped after u) (λ t s h. record { args = h.args; lists = h.lists }) (λ k x s e h. record { args = all_none _; lists = tt }) (λ param body value e h. record { args = h.args; lists = tt })
      (λ x value k h. record { args = h.args; lists = tt }) t h

  all_cells : (P Q : Term → Type 0) → ((t : Term) → P t → Q (celled g t)) → All P a.terms.items → All Q d.terms.items
  all_cells P Q turn h = subst (All Q) (sym terms) (All-map Q (celled g) a.terms.items (λ k e lt. turn _ (h k e lt)))

  -- ---- reach

  pub lams_free_same : (ls : List ℕ) → free_in_lams after ls ≡ free_in_lams a ls
  lams_free_same [] = refl
  lams_free_same (l ∷ ls) = ap (λ xs. xs ++ free_in_lams after ls) (by_lam (slice_get a.lams.items l)) ∙ ap (λ xs. option_map_or (free_in a) (slice_get a.lams.items l) [] ++ xs) (lams_free_same ls)
    where
      by_lam : (o : Option Lam) → option_map_or (free_in after) o [] ≡ option_map_or (free_in a) o []
      by_lam None = refl
      by_lam (Some lam) = free_in_same a d terms lam

  abbrev label_known : Cps → Var × ℕ → Known
  label_known u at = record { name = at.0.0; free = free_in_lams u (at.1 ∷ []) }

  labels_known : (vars : List Var) (lams : List ℕ) → map (label_known after) (zip vars lams) ≡ map (label_known a) (zip vars lams)
  labels_known [] lams = refl
  labels_known (x ∷ vars) [] = refl
  labels_known (x ∷ vars) (l ∷ lams) =
      ap {A = List ℕ} {B = List Known} (λ ys. record { name = x.0; free = ys } ∷ map (label_known after) (zip vars lams)) (lams_free_same (l ∷ []))
      ∙ ap (λ ks. label_known a (record { 0 = x; 1 = l }) ∷ ks) (labels_known vars lams)

  stays_known : (t : Term) → Stays g t → known_by after t ≡ known_by a t
  stays_known (Node.Labels vars lams body) s = labels_known vars lams
  stays_known (Node.Join k param body rest) s = ap {A = List ℕ} {B = List Known} (λ xs. record { name = k.0; free = without (param.0 ∷ []) xs } ∷ []) (free_same a d terms body)
  stays_known (Node.Give k value) s = refl
  stays_known (Node.Set x value k) s = absurd s
  stays_known (Node.Call y args k) s = refl
  stays_known (Node.Prim c args k) s = refl
  stays_known (Node.If test x y) s = refl
  stays_known (Node.Cell x value rest) s = refl
  stays_known (Node.CellGet x k) s = refl
  stays_known (Node.CellSet x value k) s = refl
  stays_known (Node.GlobalGet i k) s = refl
  stays_known (Node.GlobalInit i value k) s = refl
  stays_known (Node.GlobalSet i value k) s = refl
  stays_known (Node.Catch escape inner k) s = refl
  stays_known (Node.Uncatch k value) s = refl
  stays_known (Node.Object proc ops methods k) s = refl
  stays_known (Node.Halt value) s = refl

  known_same : known_of after ≡ known_of a
  known_same = joined_same a d terms (known_by after) (known_by a) (λ t. of_celled g (λ t u. known_by after u ≡ known_by a t) stays_known (λ k x s e. refl) (λ param body value e. refl) (λ x value k. refl) t)

  reached_from_same : (xs : List ℕ) → reached_from after xs ≡ reached_from a xs
  reached_from_same xs =
      ap (λ ks. reached_within ks (binders after) xs (length ks)) known_same ∙ ap (λ ns. reached_within (known_of a) ns xs (length (known_of a))) (binders_same a d terms)

  words_same : (x : ℕ) → words_of after x ≡ words_of a x
  words_same x =
      ap (λ ls. if is_in ls x then 2 else 1) (joined_same a d terms labels_of labels_of (λ t. of_celled g (λ t u. labels_of u ≡ labels_of t) (λ t s. refl) (λ k x s e. refl) (λ param body value e. refl) (λ x value k. refl) t))

  procs_same : (t : Term) → procs_of (celled g t) ≡ procs_of t
  procs_same t = of_celled g (λ t u. procs_of u ≡ procs_of t) (λ t s. refl) (λ k x s e. refl) (λ param body value e. refl) (λ x value k. refl) t

  pub methods_same : (t : Term) → methods_of (celled g t) ≡ methods_of t
  methods_same t = of_celled g (λ t u. methods_of u ≡ methods_of t) (λ t s. refl) (λ k x s e. refl) (λ param body value e. refl) (λ x value k. refl) t

  abbrev weighed : Cps → List ℕ → Term → ℕ
  weighed u xs term = sum_by (words_of u) (reached_from u xs) + 2 * length (procs_of term)

  term_reach_same : (t : ℕ) → term_reach after t ≡ term_reach a t
  term_reach_same t = ap (λ o. option_map_or (weighed after (free_at after t)) o 0) (place a d terms t) ∙ by_option (slice_get a.terms.items t)
    where
      by_option : (o : Option Term) → option_map_or (weighed after (free_at after t)) (option_map (celled g) o) 0 ≡ option_map_or (weighed a (free_at a t)) o 0
      by_option None = refl
      by_option (Some term) =
          ap (λ ps. sum_by (words_of after) (reached_from after (free_at after t)) + 2 * length ps) (procs_same term)
          ∙ ap (λ xs. sum_by (words_of after) xs + 2 * length (procs_of term)) (reached_from_same (free_at after t) ∙ ap (reached_from a) (free_same a d terms t))
          ∙ ap (λ n. n + 2 * length (procs_of term)) (sum_same (words_of after) (words_of a) (reached_from a (free_at a t)) (each_of (λ x. words_of after x ≡ words_of a x) (reached_from a (free_at a t)) words_same))

  lam_reach_same : (lam : Lam) → lam_reach after lam ≡ lam_reach a lam
  lam_reach_same lam = ap length (reached_from_same (free_in after lam) ∙ ap (reached_from a) (free_in_same a d terms lam))

  methods_reach_same : (t : Term) → methods_reach after (celled g t) ≡ methods_reach a t
  methods_reach_same t =
      ap length (reached_from_same (free_in_lams after (methods_of (celled g t))) ∙ ap (reached_from a) (lams_free_same (methods_of (celled g t)) ∙ ap (free_in_lams a) (methods_same t)))

  fits_after : Fits a → Fits after
  fits_after h = record {
    terms = subst (All (λ t. term_reach after t ≤ a.shared.size + 2)) (sym (walked_same a d terms)) (λ k e lt. let r = h.terms k e lt in let q = term_reach_same (get_or (walked a) k e) in omega (arith, r, q));
    lambdas = subst (All (λ lam. lam_reach after lam ≤ a.shared.size)) (sym (lams_same a d terms)) (λ k e lt. let r = h.lambdas k e lt in let q = lam_reach_same (get_or (reached_lams a) k e) in omega (arith, r, q));
    objects = subst (All (λ t. methods_reach after t ≤ a.shared.size)) (sym (reached_same a d terms))
        (All-map (λ t. methods_reach after t ≤ a.shared.size) (celled g) (reached_terms a) (λ k e lt. let r = h.objects k e lt in let q = methods_reach_same (get_or (reached_terms a) k e) in omega (arith, r, q)));
  }

  -- ---- the whole

  module _ (formed : IsFormed a) (loads : HasLoads a) where
    roots_alone : AllByRecursion (LamAlone a) (root_lams a)
    roots_alone = each_more (LamRuled a) (LamAlone a) (root_lams a) (λ lam h. h.alone) (lams_of_roots a formed loads)

    pub formed_after : IsFormed after
    formed_after = record {
      places = record {
        entry = subst (λ n. a.entry < n) (sym (count_same a d terms)) formed.places.entry;
        firsts = formed.places.firsts;
        bodies = subst (λ n. All (λ lam. lam.body < n) a.lams.items) (sym (count_same a d terms)) formed.places.bodies;
        terms = all_cells (HasNames a) (HasNames after) names_cells formed.places.terms;
        named_once = subst (AllPairs (λ t u. t ≢ u)) (sym (walked_same a d terms)) formed.places.named_once;
      };
      scopes = record {
        bound_once = subst (AllPairs (λ x y. x ≢ y)) (sym (binders_same a d terms)) formed.scopes.bound_once;
        used = of_each UsesVariables uses_cells (roots_ruled a formed loads) roots_alone formed.scopes.used;
      };
      shapes = record { terms = all_cells (IsShaped a) (IsShaped after) shaped_cells formed.shapes.terms; parameters = formed.shapes.parameters; defaults = formed.shapes.defaults };
      ways = of_each LeadsOn leads_cells (roots_ruled a formed loads) roots_alone formed.ways;
      shared = formed.shared;
    }

  pub whole_after : IsWhole a → HasLoads a → IsWhole after
  whole_after whole loads = record { formed = formed_after whole.formed loads; fits = fits_after whole.fits }
