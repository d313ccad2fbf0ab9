-- The loads of a program and of the same with cells are equal.
use Rattle.std.specs.Prelude.{IsSomeAnd, IsTrue, All, sum_by}
use Rattle.std.specs.List.{AllByRecursion}
use Rattle.std.specs.Option.{option_map, option_map_or}
use Rattle.std.proofs.Common.{◌≡◌, ℕ, zero, suc, ◌+◌, ◌*◌, ◌≤◌, List, [], ◌∷◌, ◌++◌, length, map, Option, Some, None, Bool, true, false, ◌||◌, if◌then◌else◌, slice_get, refl, sym, ap, ◌∙◌, subst, arith}
use Rattle.cps_ir.specs.declared.args.Arg.TheVariants as Argument
use Rattle.cps_ir.specs.declared.terms.Cont.{Cont}
use Rattle.cps_ir.specs.declared.terms.Cont.TheVariants as Continuation
use Rattle.cps_ir.specs.declared.terms.Lam.{Lam}
use Rattle.cps_ir.specs.declared.terms.Term.{Term}
use Rattle.cps_ir.specs.declared.terms.Term.TheVariants as Node
use Rattle.cps_ir.specs.declared.terms.Cps.{Cps}
use Rattle.cps_ir.specs.Terms.{args_of, cont_of}
use Rattle.cps_ir.specs.Parts.{walked, root_lams, reached_lams, reached_terms, lam_binders, arg_variables, is_assigned, lambdas_of, own_binders, parts_of, depth_of}
use Rattle.cps_ir.specs.Reaches.{is_in, labels_of}
use Rattle.cps_ir.specs.Loads.{is_closed, part_count, term_room, lam_room, room_of, HasLoads, occurring, opened, one_if, label_weight, cont_param, escape_of, open_weight, params_weight, term_weight, sum_within, sum_at, term_load, lam_load, AssignsAlone}
use Rattle.cps_ir.proofs.ProperLists.{each_more, each_of_all, each_of, each_of_two}
use Rattle.cps_ir.proofs.Closed.{all_of_each}
use Rattle.assign_convert.specs.AssignedCells.{celled}
use Rattle.assign_convert.proofs.Ruled.{Alone, RuledWithin, Ruled, LamRuled}
use Rattle.assign_convert.proofs.Steps.{IsFree}
use Rattle.assign_convert.proofs.Shapes.{StaysCont, Stays, of_celled, shapes_of, sum_shapes, sum_same, b, f, none, walked_same, place, depth_same, shapes_same, closed_same, opened_at_same, occurring_same, opened_same}

module _ (a d : Cps) (terms : d.terms.items ≡ map (celled (is_assigned a)) a.terms.items) where
  abbrev after : Cps
  after = b a d terms

  abbrev g : ℕ → Bool
  g = f a d terms

  -- the parameter of a written-out continuation and the escape of a Catch, where they aren't assigned
  abbrev Opens : Term → List ℕ
  Opens t = escape_of t ++ cont_param (cont_of t)

  cont_free : (k : Cont) → StaysCont g k → AllByRecursion (IsFree a) (cont_param (Some k))
  cont_free (Continuation.Var k) s = tt
  cont_free (Continuation.Lam param body) s = (s, tt)

  -- ... of a continuation whose binders aren't assigned
  bound_free : (k : Cont) (xs : List ℕ) → AllByRecursion (IsFree a) (cont_param (Some k) ++ xs) → AllByRecursion (IsFree a) (cont_param (Some k))
  bound_free (Continuation.Var k) xs h = tt
  bound_free (Continuation.Lam param body) xs h = (h.0, tt)

  -- the binders of a term that isn't a Give
  own_free : (t : Term) → AllByRecursion (IsFree a) (own_binders t) → AllByRecursion (IsFree a) (Opens t)
  own_free (Node.Give k value) h = by_cont k h
    where
      by_cont : (k : Cont) → AllByRecursion (IsFree a) (own_binders (Node.Give k value)) → AllByRecursion (IsFree a) (cont_param (Some k))
      by_cont (Continuation.Var k) h = tt
      by_cont (Continuation.Lam param body) h = (h.0, tt)
  own_free (Node.Call y args (Continuation.Var k)) h = tt
  own_free (Node.Call y args (Continuation.Lam param body)) h = (h.0, tt)
  own_free (Node.Prim c args (Continuation.Var k)) h = tt
  own_free (Node.Prim c args (Continuation.Lam param body)) h = (h.0, tt)
  own_free (Node.Set x value (Continuation.Var k)) h = tt
  own_free (Node.Set x value (Continuation.Lam param body)) h = (h.0, tt)
  own_free (Node.CellGet x (Continuation.Var k)) h = tt
  own_free (Node.CellGet x (Continuation.Lam param body)) h = (h.0, tt)
  own_free (Node.CellSet x value (Continuation.Var k)) h = tt
  own_free (Node.CellSet x value (Continuation.Lam param body)) h = (h.0, tt)
  own_free (Node.GlobalGet i (Continuation.Var k)) h = tt
  own_free (Node.GlobalGet i (Continuation.Lam param body)) h = (h.0, tt)
  own_free (Node.GlobalInit i value (Continuation.Var k)) h = tt
  own_free (Node.GlobalInit i value (Continuation.Lam param body)) h = (h.0, tt)
  own_free (Node.GlobalSet i value (Continuation.Var k)) h = tt
  own_free (Node.GlobalSet i value (Continuation.Lam param body)) h = (h.0, tt)
  own_free (Node.Catch escape inner (Continuation.Var k)) h = (h.0, tt)
  own_free (Node.Catch escape inner (Continuation.Lam param body)) h = (h.0, (h.1.0, tt))
  own_free (Node.Uncatch (Continuation.Var k) value) h = tt
  own_free (Node.Uncatch (Continuation.Lam param body) value) h = (h.0, tt)
  own_free (Node.Object proc ops methods (Continuation.Var k)) h = tt
  own_free (Node.Object proc ops methods (Continuation.Lam param body)) h = (h.0, tt)
  own_free (Node.If test x y) h = tt
  own_free (Node.Labels vars lams body) h = tt
  own_free (Node.Join k param body rest) h = tt
  own_free (Node.Cell x value rest) h = tt
  own_free (Node.Halt value) h = tt

  -- so it is of a term that stays, by the rule
  stays_free : (t : Term) → Stays g t → AssignsAlone a t → AllByRecursion (IsFree a) (Opens t)
  stays_free (Node.Give k value) s h = cont_free k s.0
  stays_free (Node.Set x value k) s h = absurd s
  stays_free (Node.Call y args k) s h = own_free (Node.Call y args k) (each_of_all (IsFree a) (own_binders (Node.Call y args k)) h.0)
  stays_free (Node.Prim c args k) s h = own_free (Node.Prim c args k) (each_of_all (IsFree a) (own_binders (Node.Prim c args k)) h.0)
  stays_free (Node.If test x y) s h = tt
  stays_free (Node.Labels vars lams body) s h = tt
  stays_free (Node.Join k param body rest) s h = tt
  stays_free (Node.Cell x value rest) s h = tt
  stays_free (Node.CellGet x k) s h = own_free (Node.CellGet x k) (each_of_all (IsFree a) (own_binders (Node.CellGet x k)) h.0)
  stays_free (Node.CellSet x value k) s h = own_free (Node.CellSet x value k) (each_of_all (IsFree a) (own_binders (Node.CellSet x value k)) h.0)
  stays_free (Node.GlobalGet i k) s h = own_free (Node.GlobalGet i k) (each_of_all (IsFree a) (own_binders (Node.GlobalGet i k)) h.0)
  stays_free (Node.GlobalInit i value k) s h = own_free (Node.GlobalInit i value k) (each_of_all (IsFree a) (own_binders (Node.GlobalInit i value k)) h.0)
  stays_free (Node.GlobalSet i value k) s h = own_free (Node.GlobalSet i value k) (each_of_all (IsFree a) (own_binders (Node.GlobalSet i value k)) h.0)
  stays_free (Node.Catch escape inner k) s h = own_free (Node.Catch escape inner k) (each_of_all (IsFree a) (own_binders (Node.Catch escape inner k)) h.0)
  stays_free (Node.Uncatch k value) s h = own_free (Node.Uncatch k value) (each_of_all (IsFree a) (own_binders (Node.Uncatch k value)) h.0)
  stays_free (Node.Object proc ops methods k) s h = own_free (Node.Object proc ops methods k) (each_of_all (IsFree a) (own_binders (Node.Object proc ops methods k)) h.0)
  stays_free (Node.Halt value) s h = tt

  -- ---- weights

  abbrev Alike : Term → Term → Type 0
  Alike t u = shapes_of (parts_of after [] u) ≡ shapes_of (parts_of a [] t)

  label_same : (t u : Term) → Alike t u → (x : ℕ) → label_weight after u x ≡ label_weight a t x
  label_same t u e x = ap (λ ys. one_if (is_in ys x) + one_if (is_in (opened after u) x)) (occurring_same a d terms t u e) ∙ ap (λ ys. one_if (is_in (occurring a t) x) + one_if (is_in ys x)) (opened_same a d terms t u e)

  open_same : (t u : Term) → Alike t u → (x : ℕ) → IsFree a x → open_weight after u x ≡ open_weight a t x
  open_same t u e x h = ap (λ c. one_if (c || is_in (opened after u) x)) (none a d terms x ∙ sym h) ∙ ap (λ ys. one_if (is_assigned a x || is_in ys x)) (opened_same a d terms t u e)

  pub params_same : (lam : Lam) → params_weight after lam ≡ params_weight a lam
  params_same lam = sum_same _ _ lam.params (each_of _ lam.params (λ x. ap (λ ys. one_if (is_in ys x.0)) (opened_at_same a d terms lam.body)))

  opens_sum : (t u : Term) → Alike t u → (xs : List ℕ) → AllByRecursion (IsFree a) xs → sum_by (open_weight after u) xs ≡ sum_by (open_weight a t) xs
  opens_sum t u e xs h = sum_same (open_weight after u) (open_weight a t) xs (each_more (IsFree a) (λ x. open_weight after u x ≡ open_weight a t x) xs (λ x k. open_same t u e x k) h)

  labels_sum : (t u : Term) → Alike t u → (xs : List ℕ) → sum_by (label_weight after u) xs ≡ sum_by (label_weight a t) xs
  labels_sum t u e xs = sum_same (label_weight after u) (label_weight a t) xs (each_of (λ x. label_weight after u x ≡ label_weight a t x) xs (label_same t u e))

  lambdas_sum : (lams : List Lam) → sum_by (params_weight after) lams ≡ sum_by (params_weight a) lams
  lambdas_sum lams = sum_same (params_weight after) (params_weight a) lams (each_of (λ lam. params_weight after lam ≡ params_weight a lam) lams params_same)

  stays_weight : (t : Term) → Stays g t → AssignsAlone a t → Alike t t → term_weight after t ≡ term_weight a t
  stays_weight t s h e =
      let labels = labels_sum t t e (labels_of t) in
      let opens = opens_sum t t e (Opens t) (stays_free t s h) in
      let lambdas = lambdas_sum (lambdas_of a t) in
      omega (arith, labels, opens, lambdas)

  -- the weight of a term
  term_same : (t : Term) → Alone a t → term_weight after (celled g t) ≡ term_weight a t
  term_same t h =
      of_celled g (λ t u. Alike t u → Alone a t → term_weight after u ≡ term_weight a t) (λ t s e h. stays_weight t s h.assigns e)
      (λ k x s q e h. let opens = opens_sum (Node.Give k (Argument.Var x)) (Node.CellGet x k) e (cont_param (Some k)) (cont_free k s) in omega (arith, opens))
      (λ param body value q e h.
      let t = Node.Give (Continuation.Lam param body) value in
      let one : open_weight a t param.0 ≡ 1 = ap (λ c. one_if (c || is_in (opened a t) param.0)) q in
      let lambdas = lambdas_sum (lambdas_of a t) in
      omega (arith, one, lambdas))
      (λ x value k e h.
      let t = Node.Set x value k in
      let opens = opens_sum t (Node.CellSet x value k) e (Opens t) (own_free t (each_of_all (IsFree a) (own_binders t) h.assigns.0)) in
      let lambdas = lambdas_sum (lambdas_of a t) in
      omega (arith, opens, lambdas)) t (shapes_same a d terms [] t) h

  -- ---- sums

  abbrev part_sum : Cps → (Term → ℕ) → ℕ → ℕ → ℕ
  part_sum u w depth at = if is_closed u at then 0 else sum_within w u depth at

  part_same : (v w : Term → ℕ) (depth at : ℕ) → sum_within v after depth at ≡ sum_within w a depth at → part_sum after v depth at ≡ part_sum a w depth at
  part_same v w depth at e = ap (λ c. if c then 0 else sum_within v after depth at) (closed_same a d terms at) ∙ by_test (is_closed a at)
    where
      by_test : (c : Bool) → (if c then 0 else sum_within v after depth at) ≡ (if c then 0 else sum_within w a depth at)
      by_test true = refl
      by_test false = e

  sums_same : (v w : Term → ℕ) → ((t : Term) → Alone a t → v (celled g t) ≡ w t) → (k t : ℕ) → RuledWithin a k t → (depth : ℕ) → sum_within v after depth t ≡ sum_within w a depth t
  unfolding sum_within RuledWithin
  sums_same v w e zero t h depth = absurd h
  sums_same v w e (suc k) t h zero = refl
  sums_same v w e (suc k) t h (suc depth) =
      ap (λ o. option_map_or (λ term. v term + sum_by (λ p. part_sum after v depth p.at) (parts_of after [] term)) o 0) (place a d terms t) ∙ by_option (slice_get a.terms.items t) h (λ r z. sums_same v w e k r z depth)
    where
      by_option : (o : Option Term) → IsSomeAnd o (λ term. Alone a term × AllByRecursion (λ p. RuledWithin a k p.at) (parts_of a [] term))
          → ((r : ℕ) → RuledWithin a k r → sum_within v after depth r ≡ sum_within w a depth r)
          → option_map_or (λ term. v term + sum_by (λ p. part_sum after v depth p.at) (parts_of after [] term)) (option_map (celled g) o) 0 ≡ option_map_or (λ term. w term + sum_by (λ p. part_sum a w depth p.at) (parts_of a [] term)) o 0
      by_option None h go = absurd h
      by_option (Some term) h go =
          ap (λ n. n + sum_by (λ p. part_sum after v depth p.at) (parts_of after [] (celled g term))) (e term h.0)
          ∙ ap (λ n. w term + n)
          (sum_shapes (λ s. part_sum after v depth s.at) (λ s. part_sum a w depth s.at) (parts_of after [] (celled g term)) (parts_of a [] term)
          (each_more (λ p. RuledWithin a k p.at) (λ p. part_sum after v depth p.at ≡ part_sum a w depth p.at) (parts_of a [] term) (λ p z. part_same v w depth p.at (go p.at z)) h.1) (shapes_same a d terms [] term))

  sum_at_same : (v w : Term → ℕ) → ((t : Term) → Alone a t → v (celled g t) ≡ w t) → (t : ℕ) → Ruled a t → sum_at v after t ≡ sum_at w a t
  sum_at_same v w e t h = ap (λ n. sum_within v after n t) (depth_same a d terms) ∙ sums_same v w e h.0 t h.1 (depth_of a)

  pub load_same : (t : ℕ) → Ruled a t → term_load after t ≡ term_load a t
  load_same t h = sum_at_same (term_weight after) (term_weight a) term_same t h

  -- a term and its LAMBDAs
  parts_same : (t : Term) → 1 + length (lambdas_of after (celled g t)) ≡ 1 + length (lambdas_of a t)
  parts_same t =
      of_celled g (λ t u. 1 + length (lambdas_of after u) ≡ 1 + length (lambdas_of a t)) (λ t s. refl) (λ k x s e. refl) (λ param body value e. refl) (λ x value k. refl) t

  count_of_same : (t : ℕ) → Ruled a t → part_count after t ≡ part_count a t
  count_of_same t h = sum_at_same (λ u. 1 + length (lambdas_of after u)) (λ u. 1 + length (lambdas_of a u)) (λ u k. parts_same u) t h

  either_same : (t x y : ℕ) → x ≡ y → (if is_closed after t then 0 else x) ≡ (if is_closed a t then 0 else y)
  either_same t x y e = ap (λ c. if c then 0 else x) (closed_same a d terms t) ∙ ap (λ z. if is_closed a t then 0 else z) e

  pub lam_load_same : (lam : Lam) → LamRuled a lam → lam_load after lam ≡ lam_load a lam
  lam_load_same lam h = ap (λ n. n + (if is_closed after lam.body then 0 else term_load after lam.body)) (params_same lam) ∙ ap (λ n. params_weight a lam + n) (either_same lam.body _ _ (load_same lam.body h.body))

  -- ---- room

  term_room_same : (t : ℕ) → Ruled a t → term_room after t ≡ term_room a t
  term_room_same t h =
      ap (λ c. if c then part_count after t * (term_load after t + 2) else 0) (closed_same a d terms t)
      ∙ ap (λ n. if is_closed a t then n * (term_load after t + 2) else 0) (count_of_same t h) ∙ ap (λ n. if is_closed a t then part_count a t * (n + 2) else 0) (load_same t h)

  lam_room_same : (lam : Lam) → LamRuled a lam → lam_room after lam ≡ lam_room a lam
  lam_room_same lam h =
      ap (λ n. (1 + n) * (lam_load after lam + 2)) (either_same lam.body _ _ (count_of_same lam.body h.body)) ∙ ap (λ n. (1 + (if is_closed a lam.body then 0 else part_count a lam.body)) * (n + 2)) (lam_load_same lam h)

  module _ (reached : AllByRecursion (Ruled a) (walked a)) (roots : AllByRecursion (LamRuled a) (root_lams a)) where
    pub room_same : room_of after ≡ room_of a
    room_same =
        ap (λ ts. sum_by (term_room after) ts + sum_by (lam_room after) (root_lams a)) (walked_same a d terms)
        ∙ ap (λ n. n + sum_by (lam_room after) (root_lams a)) (sum_same (term_room after) (term_room a) (walked a) (each_more (Ruled a) (λ t. term_room after t ≡ term_room a t) (walked a) term_room_same reached))
        ∙ ap (λ n. sum_by (term_room a) (walked a) + n) (sum_same (lam_room after) (lam_room a) (root_lams a) (each_more (LamRuled a) (λ lam. lam_room after lam ≡ lam_room a lam) (root_lams a) lam_room_same roots))

    -- ---- the rule

    -- nothing is assigned
    all_free : (xs : List ℕ) → All (λ x. is_assigned after x ≡ false) xs
    all_free xs = all_of_each (λ x. is_assigned after x ≡ false) xs (each_of (λ x. is_assigned after x ≡ false) xs (none a d terms))

    alone_after : (t : Term) → AssignsAlone after t
    alone_after (Node.Give k value) = λ q. all_free (arg_variables (value ∷ []))
    alone_after (Node.Set x value k) = (all_free (own_binders (Node.Set x value k)), all_free (arg_variables (args_of (Node.Set x value k))))
    alone_after (Node.Call y args k) = (all_free (own_binders (Node.Call y args k)), all_free (arg_variables (args_of (Node.Call y args k))))
    alone_after (Node.Prim c args k) = (all_free (own_binders (Node.Prim c args k)), all_free (arg_variables (args_of (Node.Prim c args k))))
    alone_after (Node.If test x y) = (all_free (own_binders (Node.If test x y)), all_free (arg_variables (args_of (Node.If test x y))))
    alone_after (Node.Labels vars lams body) = (all_free (own_binders (Node.Labels vars lams body)), all_free (arg_variables (args_of (Node.Labels vars lams body))))
    alone_after (Node.Join k param body rest) = (all_free (own_binders (Node.Join k param body rest)), all_free (arg_variables (args_of (Node.Join k param body rest))))
    alone_after (Node.Cell x value rest) = (all_free (own_binders (Node.Cell x value rest)), all_free (arg_variables (args_of (Node.Cell x value rest))))
    alone_after (Node.CellGet x k) = (all_free (own_binders (Node.CellGet x k)), all_free (arg_variables (args_of (Node.CellGet x k))))
    alone_after (Node.CellSet x value k) = (all_free (own_binders (Node.CellSet x value k)), all_free (arg_variables (args_of (Node.CellSet x value k))))
    alone_after (Node.GlobalGet i k) = (all_free (own_binders (Node.GlobalGet i k)), all_free (arg_variables (args_of (Node.GlobalGet i k))))
    alone_after (Node.GlobalInit i value k) = (all_free (own_binders (Node.GlobalInit i value k)), all_free (arg_variables (args_of (Node.GlobalInit i value k))))
    alone_after (Node.GlobalSet i value k) = (all_free (own_binders (Node.GlobalSet i value k)), all_free (arg_variables (args_of (Node.GlobalSet i value k))))
    alone_after (Node.Catch escape inner k) = (all_free (own_binders (Node.Catch escape inner k)), all_free (arg_variables (args_of (Node.Catch escape inner k))))
    alone_after (Node.Uncatch k value) = (all_free (own_binders (Node.Uncatch k value)), all_free (arg_variables (args_of (Node.Uncatch k value))))
    alone_after (Node.Object proc ops methods k) = (all_free (own_binders (Node.Object proc ops methods k)), all_free (arg_variables (args_of (Node.Object proc ops methods k))))
    alone_after (Node.Halt value) = (all_free (own_binders (Node.Halt value)), all_free (arg_variables (args_of (Node.Halt value))))

    pub loads_after : HasLoads a → HasLoads after
    loads_after loads = record {
      assigned = all_of_each (AssignsAlone after) (reached_terms after) (each_of (AssignsAlone after) (reached_terms after) alone_after);
      parameters = all_of_each (λ lam. All (λ x. is_assigned after x ≡ false) (lam_binders lam)) (reached_lams after) (each_of (λ lam. All (λ x. is_assigned after x ≡ false) (lam_binders lam)) (reached_lams after) (λ lam. all_free (lam_binders lam)));
      terms = all_of_each (λ t. IsTrue (is_closed after t) → term_load after t ≤ a.shared.size) (walked after)
          (subst (AllByRecursion (λ t. IsTrue (is_closed after t) → term_load after t ≤ a.shared.size)) (sym (walked_same a d terms))
          (each_of_two (Ruled a) (λ t. IsTrue (is_closed a t) → term_load a t ≤ a.shared.size) (λ t. IsTrue (is_closed after t) → term_load after t ≤ a.shared.size) (walked a)
          (λ t r h q. let e = load_same t r in let le = h (subst IsTrue (closed_same a d terms t) q) in omega (arith, e, le)) reached
          (each_of_all (λ t. IsTrue (is_closed a t) → term_load a t ≤ a.shared.size) (walked a) loads.terms)));
      procedures = all_of_each (λ lam. lam_load after lam ≤ a.shared.size) (root_lams a)
          (each_of_two (LamRuled a) (λ lam. lam_load a lam ≤ a.shared.size) (λ lam. lam_load after lam ≤ a.shared.size) (root_lams a)
          (λ lam r h. let e = lam_load_same lam r in omega (arith, e, h)) roots (each_of_all (λ lam. lam_load a lam ≤ a.shared.size) (root_lams a) loads.procedures));
    }
