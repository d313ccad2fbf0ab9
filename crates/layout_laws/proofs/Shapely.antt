-- Frames that lay out a whole program: what they name is there, lists agree, and blocks have their parameters.
use Rattle.std.specs.Prelude.{IsSomeAnd, count_by}
use Rattle.std.specs.List.{AllByRecursion, flat_map, filter}
use Rattle.std.specs.Option.{option_map}
use Rattle.std.proofs.Common.{◌≡◌, ◌≢◌, ℕ, zero, suc, ◌+◌, ◌≤◌, ◌<◌, ◌==◌, cond, List, [], ◌∷◌, ◌++◌, length, slice_get, Option, Some, None, slice_index_or, refl, sym, ap, subst, ◌∙◌, arith, All}
use Rattle.std.proofs.lemmas.Option.{slice_get-get_or, slice_get_within}
use Rattle.std.proofs.lemmas.List.Elements.{All-from_recursion}
use Rattle.std.proofs.lemmas.List.Sums.{length-filter}
use Rattle.t_base.specs.declared.basics.Var.{Var}
use Rattle.t_base.specs.declared.shared_parts.GlobalKind.{GlobalKind}
use Rattle.t_base.specs.declared.shared_parts.GlobalKind.TheVariants as Kind
use Rattle.t_base.specs.declared.shared_parts.Global1.{Global1}
use Rattle.t_prim.specs.SharedParts.{IsConst}
use Rattle.t_prim.specs.Table.{arity_of}
use Rattle.cps_ir.specs.declared.args.Arg.{Arg}
use Rattle.cps_ir.specs.declared.terms.Cont.{Cont}
use Rattle.cps_ir.specs.declared.terms.Term.{Term}
use Rattle.cps_ir.specs.declared.terms.Cps.{Cps}
use Rattle.cps_ir.specs.Parts.{is_proc, is_procedure, first_lams}
use Rattle.cps_ir.specs.Terms.{args_of}
use Rattle.cps_ir.specs.Whole.{IsArgThere, IsArgShaped, HasNames, IsShaped, IsWhole}
use Rattle.cps_ir.proofs.ProperLists.{all_at, each_of_all, each_more, each_of_two, each_joined, each_append}
use Rattle.frame_ir.specs.declared.forms.Place.TheVariants as At
use Rattle.frame_ir.specs.declared.forms.FrameOp.{FrameOp}
use Rattle.frame_ir.specs.declared.forms.FrameOp.TheVariants as Op
use Rattle.frame_ir.specs.declared.forms.FrameEnd.{FrameEnd}
use Rattle.frame_ir.specs.declared.forms.FrameEnd.TheVariants as Last
use Rattle.frame_ir.specs.declared.forms.Block.{Block}
use Rattle.frame_ir.specs.declared.forms.Frames.{Frames}
use Rattle.frame_ir.specs.Arguments.{is_proc as is_proc_kind, proc_count, default_count}
use Rattle.frame_ir.specs.Parts.{op_args, end_args, backs_of, codes_of, arg_codes, arms_of, targets_of, block_args, all_arms, all_targets, all_backs, closure_codes}
use Rattle.frame_ir.specs.Whole.{IsBlock, IsArg, OpNamesAreThere, BlockNamesAreThere, IsShapedOp, IsShapedEnd, HasParams, IsCodeCount, HasPlaces, HasShapes, HasBlocks, most_operands}
use Rattle.layout_relation.specs.Links.{Zipped}
use Rattle.layout_relation.specs.Contexts.{Context, Start, Return, Purpose, CodeOf, MethodOf, Begins, ArmOf, PassesOn, Resumes}
use Rattle.layout_relation.specs.Laid.{Sketch, IsFor, variables, Fetches, fetches_none, fetches_one, MakesClosure, SameArg, same_const, same_var, same_global, same_builtin, same_op, Prepares, prepares_none, prepares_same, prepares_closure, Labels, labels_none, labels_one, Gives, gives_out, gives_join, gives_jump, gives_here, gives_unused, GoesOn, goes_here, goes_to, Lays, lays, LaysTerm, lays_tail_call, lays_call, lays_prim, lays_if, lays_labels, lays_join, lays_give, lays_global_get, lays_global_init, lays_global_set, lays_cell, lays_cell_get, lays_cell_set, lays_object, lays_tail_catch, lays_catch, lays_tail_uncatch, lays_uncatch, lays_halt, BlockFits, IsLaidOut}
use Rattle.layout_relation.proofs.Lists.{zipped_length, some_at}
use Rattle.layout_relation.proofs.Arriving.{variables_count, block_at}
use Rattle.layout_laws.specs.Wholeness.{AreTemplates, AreOwnArms, LaidOutHasPlaces, LaidOutHasShapes, LaidOutHasBlocks}

-- ---- what holds of each argument, operation and end

abbrev pub GoodArg : Frames → Arg → Type 0
GoodArg p a = IsArg p a × (arg_codes a ≡ [])

abbrev pub GoodArgs : Frames → List Arg → Type 0
GoodArgs p args = AllByRecursion (GoodArg p) args

abbrev pub GoodOp : Frames → FrameOp → Type 0
GoodOp p (Op.Prim to b args) = (length args ≡ arity_of b) × GoodArgs p args
GoodOp p (Op.Closure to code kept at) = (at ≡ At.Heap) × HasParams p IsCodeCount code
GoodOp p (Op.Cell to value) = GoodArg p value
GoodOp p (Op.CellSet cell value) = GoodArg p value
GoodOp p (Op.GlobalGet to global) = global < length p.shared.globals.items
GoodOp p (Op.GlobalPut global value first) = (global < length p.shared.globals.items) × ((option_map (λ info. info.kind) (slice_get p.shared.globals.items global) ≢ Some Kind.Proc) × GoodArg p value)
GoodOp p (Op.Push kept back) = HasParams p (λ n. n ≡ 1) back
GoodOp p (Op.CatchOpen to back) = HasParams p (λ n. n ≡ 1) back
GoodOp p (Op.Object to template proc kept) = (template < length p.templates.items) × GoodArg p proc
GoodOp p _ = Unit {0}

abbrev pub GoodOps : Frames → List FrameOp → Type 0
GoodOps p ops = AllByRecursion (GoodOp p) ops

abbrev pub GoodArm : Frames → ℕ → Type 0
GoodArm p k = HasParams p (λ n. n ≡ 0) k × (k ≢ p.entry)

-- a block that begins a term, and one that is an arm
abbrev pub Begun : Sketch → ℕ → Type 0
Begun w k = (start : Start) × IsFor w k (Begins start)

abbrev pub IsArmFor : Sketch → ℕ → Type 0
IsArmFor w k = (c : Context) × (t : ℕ) × IsFor w k (ArmOf c t)

abbrev pub GoodEnd : Frames → Sketch → FrameEnd → Type 0
GoodEnd p w (Last.Call f args) = (length args ≤ most_operands) × GoodArgs p (f ∷ args)
GoodEnd p w (Last.Jump block args) = IsSomeAnd (slice_get p.blocks.items block) (λ b. length b.params ≡ length args) × GoodArgs p args × Begun w block
GoodEnd p w (Last.If test first second) = (GoodArm p first × GoodArm p second) × GoodArg p test × (IsArmFor w first × IsArmFor w second)
GoodEnd p w (Last.Return value) = GoodArg p value
GoodEnd p w (Last.Halt value) = GoodArg p value

pub record GoodRest (p : Frames) (w : Sketch) (behind : List FrameOp) (end : FrameEnd) : Type 0 where
  pub ops : GoodOps p behind
  pub last : GoodEnd p w end

-- an operation more, operations in front
more : (p : Frames) (w : Sketch) (op : FrameOp) (ops : List FrameOp) (last : FrameEnd) → GoodOp p op → GoodRest p w ops last → GoodRest p w (op ∷ ops) last
more p w op ops last g r = record { ops = (g, r.ops); last = r.last }

before : (p : Frames) (w : Sketch) (made ops : List FrameOp) (last : FrameEnd) → GoodOps p made → GoodRest p w ops last → GoodRest p w (made ++ ops) last
before p w made ops last g r = record { ops = each_append (GoodOp p) made ops g r.ops; last = r.last }

only : (p : Frames) (w : Sketch) (last : FrameEnd) → GoodEnd p w last → GoodRest p w [] last
only p w last g = record { ops = tt; last = g }

good_variables : (p : Frames) (ys : List Var) → GoodArgs p (variables ys)
good_variables p [] = tt
good_variables p (y ∷ ys) = ((tt, refl), good_variables p ys)

-- ---- procedures

same_kind : (k : GlobalKind) → is_proc k ≡ is_proc_kind k
same_kind Kind.Proc = refl
same_kind Kind.Value = refl
same_kind Kind.Variable = refl

same_procedures : (gs : List Global1) → filter is_procedure gs ≡ filter (λ g. is_proc_kind g.kind) gs
same_procedures [] = refl
same_procedures (g ∷ gs) = ap (λ b. cond b (g ∷ filter is_procedure gs) (filter is_procedure gs)) (same_kind g.kind) ∙ ap (λ rest. cond (is_proc_kind g.kind) (g ∷ rest) rest) (same_procedures gs)

-- ---- blocks that are there

some_params : (p : Frames) (P : ℕ → Type 0) (k : ℕ) (b : Block) → slice_get p.blocks.items k ≡ Some b → P (length b.params) → HasParams p P k
some_params p P k b e h = subst (λ o. IsSomeAnd o (λ x. P (length x.params))) (sym e) h

there : (p : Frames) (P : ℕ → Type 0) (k : ℕ) → HasParams p P k → IsBlock p k
there p P k h = by (slice_get p.blocks.items k) refl h
  where
    by : (o : Option Block) → slice_get p.blocks.items k ≡ o → IsSomeAnd o (λ x. P (length x.params)) → k < length p.blocks.items
    by None e h = absurd h
    by (Some b) e h = slice_get_within p.blocks.items k b e

-- what is told of the arguments of a term
abbrev Sources : Cps → List Arg → Type 0
Sources cps args = AllByRecursion (λ a. IsArgThere cps.shared a × IsArgShaped cps.shared a) args

module _ (cps : Cps) (p : Frames) (whole : IsWhole cps) (laid : IsLaidOut cps p) where
  abbrev w : Sketch
  w = laid.sketch

  names_at : (t : ℕ) (term : Term) → slice_get cps.terms.items t ≡ Some term → HasNames cps term
  names_at t term e = all_at (HasNames cps) cps.terms.items t term whole.formed.places.terms e

  shape_at : (t : ℕ) (term : Term) → slice_get cps.terms.items t ≡ Some term → IsShaped cps term
  shape_at t term e = all_at (IsShaped cps) cps.terms.items t term whole.formed.shapes.terms e

  sources_at : (t : ℕ) (term : Term) → slice_get cps.terms.items t ≡ Some term → Sources cps (args_of term)
  sources_at t term e =
      each_of_two (IsArgThere cps.shared) (IsArgShaped cps.shared) (λ a. IsArgThere cps.shared a × IsArgShaped cps.shared a) (args_of term) (λ a x y. (x, y)) (each_of_all (IsArgThere cps.shared) (args_of term) (names_at t term e).args)
      (each_of_all (IsArgShaped cps.shared) (args_of term) (shape_at t term e).args)

  -- ---- arguments

  same_good : (vars : List (ℕ × ℕ)) (a b : Arg) → SameArg cps w vars a b → IsArgThere cps.shared a × IsArgShaped cps.shared a → GoodArg p b
  same_good vars a b (same_const k) s = (subst (λ r. IsConst r k) (sym laid.shared) s.0, refl)
  same_good vars a b (same_var x y held plain) s = (tt, refl)
  same_good vars a b (same_global g code e) s = (subst (λ r. option_map (λ info. info.kind) (slice_get r.globals.items g) ≡ Some Kind.Proc) (sym laid.shared) s.1, refl)
  same_good vars a b (same_builtin r) s = (tt, refl)
  same_good vars a b (same_op o) s = (subst (λ r. o < length r.ops.items) (sym laid.shared) s.0, refl)

  code_good : (code l : ℕ) → IsFor w code (CodeOf l) → HasParams p IsCodeCount code
  code_good code l for =
      let b = block_at cps p laid code (CodeOf l) for in
      let n : length b.block.params ≡ suc (length b.fits.params) = ap length b.fits.takes in
      let c = b.fits.count in
      let f = b.fits.few in
      some_params p IsCodeCount code b.block b.is (omega (arith, n), omega (arith, n, c, f))

  back_good : (back : ℕ) (r : Return) → IsFor w back (Resumes r) → HasParams p (λ n. n ≡ 1) back
  back_good back r for = let b = block_at cps p laid back (Resumes r) for in some_params p (λ n. n ≡ 1) back b.block b.is (ap length b.fits.takes)

  passing_good : (back : ℕ) → IsFor w back PassesOn → HasParams p (λ n. n ≡ 1) back
  passing_good back for = let b = block_at cps p laid back PassesOn for in some_params p (λ n. n ≡ 1) back b.block b.is (ap length b.fits.takes)

  arm_good : (k : ℕ) (c : Context) (t : ℕ) → IsFor w k (ArmOf c t) → GoodArm p k
  arm_good k c t for =
      let b = block_at cps p laid k (ArmOf c t) for in
      (some_params p (λ n. n ≡ 0) k b.block b.is (ap length b.fits.takes), λ e. never (sym for ∙ ap (slice_get w.purposes) e ∙ laid.entry))
    where
      never : {s : Start} → Some (ArmOf c t) ≡ Some (Begins s) → ⊥
      never h = cc

  closure_good : (vars : List (ℕ × ℕ)) (l : ℕ) (to : Var) (code : ℕ) (kept : List Var) (ms : List FrameOp) → MakesClosure cps w vars l to code kept ms → GoodOp p (Op.Closure to code kept At.Heap)
  closure_good vars l to code kept ms h = (refl, code_good code l h.runs)

  -- what is prepared for arguments
  record Prepared (given : List Arg) (closures : List FrameOp) (bs : List Arg) : Type 0 where
    pub made : GoodOps p closures
    pub args : GoodArgs p bs
    pub count : length bs ≡ length given

  prepares_good : (vars : List (ℕ × ℕ)) (args : List Arg) (ms : List FrameOp) (bs : List Arg) → Prepares cps w vars args ms bs → Sources cps args → Prepared args ms bs
  prepares_good vars args ms bs prepares_none s = record { made = tt; args = tt; count = refl }
  prepares_good vars args ms bs (prepares_same a b as_ ns cs h rest) s =
      let r = prepares_good vars as_ ns cs rest s.1 in record { made = r.made; args = (same_good vars a b h s.0, r.args); count = ap suc r.count }
  prepares_good vars args ms bs (prepares_closure l to code kept as_ ns cs h u rest) s =
      let r = prepares_good vars as_ ns cs rest s.1 in record { made = (closure_good vars l to code kept ns h, r.made); args = ((tt, refl), r.args); count = ap suc r.count }

  labels_good : (vars : List (ℕ × ℕ)) (xs : List Var) (lams : List ℕ) (ms : List FrameOp) (tos : List Var) → Labels cps w vars xs lams ms tos → GoodOps p ms
  labels_good vars xs lams ms tos labels_none = tt
  labels_good vars xs lams ms tos (labels_one x l to code kept ys ls ns ts h rest) = (closure_good vars l to code kept ns h, labels_good vars ys ls ns ts rest)

  fetches_good : (get : Var → ℕ → FrameOp) → ((y : Var) (slot : ℕ) → GoodOp p (get y slot)) → (apart : ℕ) (kept : List ℕ) (before behind : List (ℕ × ℕ)) (ops : List FrameOp) → Fetches get apart kept before behind ops → GoodOps p ops
  fetches_good get good apart kept before behind ops (fetches_none vars) = tt
  fetches_good get good apart kept before behind ops (fetches_one x y slot bs as_ ms e unused other rest) = (good y slot, fetches_good get good apart kept ((x, y.0) ∷ bs) as_ ms rest)

  -- ---- jumps

  jump_good : (block : ℕ) (start : Start) (args : List Arg) → IsFor w block (Begins start) → length start.vars ≡ length args → GoodArgs p args → GoodEnd p w (Last.Jump block args)
  jump_good block start args for n good =
      let b = block_at cps p laid block (Begins start) for in
      (subst (λ o. IsSomeAnd o (λ x. length x.params ≡ length args)) (sym b.is) (sym b.fits.count ∙ n), good, (start, for))

  passed : (xs : List ℕ) (ys : List Var) {R : ℕ → Var → Type 0} → Zipped R xs ys → length xs ≡ length (variables ys)
  passed xs ys h = zipped_length _ xs ys h ∙ sym (variables_count ys)

  -- ---- globals

  global_there : (g : ℕ) → g < length cps.shared.globals.items → g < length p.shared.globals.items
  global_there g lt = subst (λ r. g < length r.globals.items) (sym laid.shared) lt

  global_kind : (g : ℕ) → option_map (λ info. info.kind) (slice_get cps.shared.globals.items g) ≢ Some Kind.Proc → option_map (λ info. info.kind) (slice_get p.shared.globals.items g) ≢ Some Kind.Proc
  global_kind g h = subst (λ r. option_map (λ info. info.kind) (slice_get r.globals.items g) ≢ Some Kind.Proc) (sym laid.shared) h

  -- ---- terms

  mutual
    gives_good : (c : Context) (t : ℕ) (k : Cont) (a : Arg) (ops : List FrameOp) (last : FrameEnd) → GoodArg p a → Gives cps w c t k a ops last → GoodRest p w ops last
    gives_good c t k a ops last g (gives_out c2 t2 j a2 out none) = only p w _ g
    gives_good c t k a ops last g (gives_join c2 t2 j a2 m rest ys meets for held new few) = only p w _ (jump_good m.block _ (a2 ∷ variables ys) for (ap suc (passed m.needs ys held)) (g, good_variables p ys))
    gives_good c t k a ops last g (gives_jump c2 t2 param body a2 block needs ys for held new few) = only p w _ (jump_good block _ (a2 ∷ variables ys) for (ap suc (passed needs ys held)) (g, good_variables p ys))
    gives_good c t k a ops last g (gives_here c2 t2 param body x ops2 last2 fresh plain lower laying) = lays_good _ body ops2 last2 laying
    gives_good c t k a ops last g (gives_unused c2 t2 param body a2 ops2 last2 fresh lower laying) = lays_good c2 body ops2 last2 laying

    goes_good : (c : Context) (t : ℕ) (ops : List FrameOp) (last : FrameEnd) → GoesOn cps w c t ops last → GoodRest p w ops last
    goes_good c t ops last (goes_here c2 t2 ops2 last2 laying) = lays_good c2 t2 ops2 last2 laying
    goes_good c t ops last (goes_to c2 t2 block needs ys for held few) = only p w _ (jump_good block _ (variables ys) for (passed needs ys held) (good_variables p ys))

    lays_good : (c : Context) (t : ℕ) (ops : List FrameOp) (last : FrameEnd) → Lays cps w c t ops last → GoodRest p w ops last
    lays_good c t ops last (lays c2 t2 term ops2 last2 is fits) = term_good c2 t2 term ops2 last2 (sources_at t2 term is) (names_at t2 term is) (shape_at t2 term is) fits

    term_good : (c : Context) (t : ℕ) (term : Term) (ops : List FrameOp) (last : FrameEnd) → Sources cps (args_of term) → HasNames cps term → IsShaped cps term → LaysTerm cps w c t term ops last → GoodRest p w ops last
    term_good c t term ops last s n h (lays_tail_call c2 t2 f args k ms g bs prep out none) =
        let r = prepares_good c2.vars _ ms _ prep s in
        let count = r.count in
        let few = h.lists in
        record { ops = r.made; last = (omega (arith, count, few), r.args) }
    term_good c t term ops last s n h (lays_call c2 t2 f args k ms g bs r kept back prep awaits for held once) =
        let q = prepares_good c2.vars _ ms _ prep s in
        let count = q.count in
        let few = h.lists in
        before p w ms _ _ q.made (more p w _ [] _ (back_good back r for) (only p w _ (omega (arith, count, few), q.args)))
    term_good c t term ops last s n h (lays_prim c2 t2 f args k ms bs to ops2 last2 prep unused gives) =
        let r = prepares_good c2.vars _ ms _ prep s in
        before p w ms _ _ r.made (more p w _ ops2 _ (r.count ∙ h.lists, r.args) (gives_good c2 t2 k _ ops2 last2 (tt, refl) gives))
    term_good c t term ops last s n h (lays_if c2 t2 test one other ms x there_arm other_arm prep fy fn) =
        let r = prepares_good c2.vars _ ms _ prep s in
        record { ops = r.made; last = ((arm_good there_arm c2 one fy, arm_good other_arm c2 other fn), r.args.0, ((c2, one, fy), (c2, other, fn))) }
    term_good c t term ops last s n h (lays_labels c2 t2 xs lams body ms tos ops2 last2 labels fresh distinct unused apart lower onward) = before p w ms ops2 _ (labels_good _ xs lams ms tos labels) (goes_good _ body ops2 last2 onward)
    term_good c t term ops last s n h (lays_join c2 t2 k param body rest block needs ops2 last2 lower laying) = lays_good _ rest ops2 last2 laying
    term_good c t term ops last s n h (lays_give c2 t2 k value ms x ops2 last2 prep apart gives) =
        let r = prepares_good c2.vars _ ms _ prep s in before p w ms ops2 _ r.made (gives_good c2 t2 k x ops2 last2 r.args.0 gives)
    term_good c t term ops last s n h (lays_global_get c2 t2 g k to ops2 last2 lt unused gives) = more p w _ ops2 _ (global_there g lt) (gives_good c2 t2 k _ ops2 last2 (tt, refl) gives)
    term_good c t term ops last s n h (lays_global_init c2 t2 g value k ms x ops2 last2 lt none prep gives) =
        let r = prepares_good c2.vars _ ms _ prep s in before p w ms _ _ r.made (more p w _ ops2 _ (global_there g lt, (global_kind g h.lists, r.args.0)) (gives_good c2 t2 k x ops2 last2 r.args.0 gives))
    term_good c t term ops last s n h (lays_global_set c2 t2 g value k ms x ops2 last2 lt none prep gives) =
        let r = prepares_good c2.vars _ ms _ prep s in before p w ms _ _ r.made (more p w _ ops2 _ (global_there g lt, (global_kind g h.lists, r.args.0)) (gives_good c2 t2 k x ops2 last2 r.args.0 gives))
    term_good c t term ops last s n h (lays_cell c2 t2 x value rest ms y to ops2 last2 prep fresh celled unused onward) =
        let r = prepares_good c2.vars _ ms _ prep s in before p w ms _ _ r.made (more p w _ ops2 _ r.args.0 (goes_good _ rest ops2 last2 onward))
    term_good c t term ops last s n h (lays_cell_get c2 t2 x y k to ops2 last2 held celled unused gives) = more p w _ ops2 _ tt (gives_good c2 t2 k _ ops2 last2 (tt, refl) gives)
    term_good c t term ops last s n h (lays_cell_set c2 t2 x y value k ms z ops2 last2 prep held celled gives) =
        let r = prepares_good c2.vars _ ms _ prep s in before p w ms _ _ r.made (more p w _ ops2 _ r.args.0 (gives_good c2 t2 k z ops2 last2 r.args.0 gives))
    term_good c t term ops last s n h (lays_object c2 t2 proc names methods k ms x template shape needs kept to ops2 last2 prep count is_shape are_methods held small unused gives) =
        let r = prepares_good c2.vars _ ms _ prep s in
        before p w ms _ _ r.made
        (more p w _ ops2 _ (subst (λ ts. template < length ts) (sym laid.templates) (slice_get_within w.templates template shape is_shape), r.args.0) (gives_good c2 t2 k _ ops2 last2 (tt, refl) gives))
    term_good c t term ops last s n h (lays_tail_catch c2 t2 x body k to back ops2 last2 out none passes fresh plain unused onward) = more p w _ ops2 _ (passing_good back passes) (goes_good _ body ops2 last2 onward)
    term_good c t term ops last s n h (lays_catch c2 t2 x body k r kept to back ops2 last2 awaits for held once fresh plain unused onward) =
        more p w _ (Op.CatchOpen to back ∷ ops2) _ (back_good back r for) (more p w _ ops2 _ (back_good back r for) (goes_good _ body ops2 last2 onward))
    term_good c t term ops last s n h (lays_tail_uncatch c2 t2 k value outer ms y ops2 last2 open_ prep gives) =
        let r = prepares_good c2.vars _ ms _ prep s in before p w ms _ _ r.made (more p w _ ops2 _ tt (gives_good _ t2 k y ops2 last2 r.args.0 gives))
    term_good c t term ops last s n h (lays_uncatch c2 t2 k value outer ms y ops2 last2 open_ prep gives) =
        let r = prepares_good c2.vars _ ms _ prep s in before p w ms _ _ r.made (more p w _ (Op.Pop ∷ ops2) _ tt (more p w _ ops2 _ tt (gives_good _ t2 k y ops2 last2 r.args.0 gives)))
    term_good c t term ops last s n h (lays_halt c2 t2 value ms x prep) = let r = prepares_good c2.vars _ ms _ prep s in record { ops = r.made; last = r.args.0 }

  -- ---- blocks

  code_rest : (k : ℕ) (b : Block) (body : ℕ) (start : Start) (ys : List Var) → b.last ≡ Last.Jump body (variables ys) → IsFor w body (Begins start) → length start.vars ≡ length (variables ys) → GoodOps p b.ops.items → GoodRest p w b.ops.items b.last
  code_rest k b body start ys goes for n ops = record { ops = ops; last = subst (GoodEnd p w) (sym goes) (jump_good body start (variables ys) for n (good_variables p ys)) }

  block_good : (k : ℕ) (purpose : Purpose) (b : Block) → BlockFits cps w purpose b → GoodRest p w b.ops.items b.last
  block_good k (CodeOf l) b fits =
      code_rest k b fits.body _ fits.ys fits.goes fits.begins (passed _ fits.ys fits.held) (fetches_good (λ y slot. Op.ClosureGet y fits.self slot) (λ y slot. tt) fits.self.0 _ _ _ b.ops.items fits.fetches)
  block_good k (MethodOf l kept) b fits =
      code_rest k b fits.body _ fits.ys fits.goes fits.begins (passed _ fits.ys fits.held) (fetches_good (λ y slot. Op.ClosureGet y fits.self slot) (λ y slot. tt) fits.self.0 _ _ _ b.ops.items fits.fetches)
  block_good k (Begins start) b fits = lays_good _ start.term b.ops.items b.last fits.lays
  block_good k (ArmOf c t) b fits = lays_good c t b.ops.items b.last fits.lays
  block_good k PassesOn b fits = record { ops = subst (GoodOps p) (sym fits.ops) tt; last = subst (GoodEnd p w) (sym fits.goes) (tt, refl) }
  block_good k (Resumes r) b fits =
      let rest = goes_good _ r.body fits.rest b.last fits.goes in
      record {
        ops = subst (GoodOps p) (sym fits.ops) (each_append (GoodOp p) fits.gets (Op.Pop ∷ fits.rest) (fetches_good (λ y slot. Op.FrameGet y slot) (λ y slot. tt) fits.value.0 _ _ _ fits.gets fits.fetches) (tt, rest.ops));
        last = rest.last;
      }

  -- each block has a purpose
  pub all_good : All (λ b. GoodRest p w b.ops.items b.last) p.blocks.items
  all_good k d lt =
      let found = some_at w.purposes k (let e = laid.count in omega (arith, e, lt)) in
      let blk = block_at cps p laid k found.0 found.1 in
      let e = same_block (slice_index_or p.blocks.items k d) blk.block (sym (slice_get-get_or p.blocks.items k d lt) ∙ blk.is) in
      subst (λ b. GoodRest p w b.ops.items b.last) (sym e) (block_good k found.0 blk.block blk.fits)
    where
      same_block : (a b : Block) → Some a ≡ Some b → a ≡ b
      same_block a b h = cc

  abbrev Blocks : (Block → Type 0) → Type 0
  Blocks P = AllByRecursion P p.blocks.items

  pub each_good : Blocks (λ b. GoodRest p w b.ops.items b.last)
  each_good = each_of_all (λ b. GoodRest p w b.ops.items b.last) p.blocks.items all_good

  -- ---- what is told by group, of operations and ends

  arg_is : (args : List Arg) → GoodArgs p args → All (IsArg p) args
  arg_is args g = All-from_recursion (IsArg p) args (each_more (GoodArg p) (IsArg p) args (λ a h. h.0) g)

  op_named : (op : FrameOp) → GoodOp p op → OpNamesAreThere p op × All (IsArg p) (op_args op)
  op_named (Op.Prim to b args) g = (tt, arg_is args g.1)
  op_named (Op.Closure to code kept at) g = (there p IsCodeCount code g.1, arg_is [] tt)
  op_named (Op.ClosureGet to from slot) g = (tt, arg_is [] tt)
  op_named (Op.FrameGet to slot) g = (tt, arg_is [] tt)
  op_named (Op.Cell to value) g = (tt, arg_is (value ∷ []) (g, tt))
  op_named (Op.CellGet to cell) g = (tt, arg_is [] tt)
  op_named (Op.CellSet cell value) g = (tt, arg_is (value ∷ []) (g, tt))
  op_named (Op.GlobalGet to global) g = (g, arg_is [] tt)
  op_named (Op.GlobalPut global value first) g = (g.0, arg_is (value ∷ []) (g.1.1, tt))
  op_named (Op.Push kept back) g = (there p (λ n. n ≡ 1) back g, arg_is [] tt)
  op_named Op.Pop g = (tt, arg_is [] tt)
  op_named (Op.CatchOpen to back) g = (there p (λ n. n ≡ 1) back g, arg_is [] tt)
  op_named Op.CatchClose g = (tt, arg_is [] tt)
  op_named (Op.Object to template proc kept) g = (g.0, arg_is (proc ∷ []) (g.1, tt))

  blocks_are : (ks : List ℕ) → AllByRecursion (IsBlock p) ks → All (IsBlock p) ks
  blocks_are ks h = All-from_recursion (IsBlock p) ks h

  jump_there : (block : ℕ) (args : List Arg) → IsSomeAnd (slice_get p.blocks.items block) (λ b. length b.params ≡ length args) → IsBlock p block
  jump_there block args h = there p (λ n. n ≡ length args) block h

  end_named : (last : FrameEnd) → GoodEnd p w last → All (IsBlock p) (targets_of last) × All (IsArg p) (end_args last)
  end_named (Last.Call f args) g = (blocks_are [] tt, arg_is (f ∷ args) g.1)
  end_named (Last.Jump block args) g = (blocks_are (block ∷ []) (jump_there block args g.0, tt), arg_is args g.1)
  end_named (Last.If test first second) g =
      (blocks_are (first ∷ second ∷ []) (there p (λ n. n ≡ 0) first g.0.0.0, (there p (λ n. n ≡ 0) second g.0.1.0, tt)), arg_is (test ∷ []) (g.1, tt))
  end_named (Last.Return value) g = (blocks_are [] tt, arg_is (value ∷ []) (g, tt))
  end_named (Last.Halt value) g = (blocks_are [] tt, arg_is (value ∷ []) (g, tt))

  op_shaped : (op : FrameOp) → GoodOp p op → IsShapedOp p op
  op_shaped (Op.Prim to b args) g = g.0
  op_shaped (Op.Closure to code kept At.Heap) g = tt
  op_shaped (Op.Closure to code kept (At.Frame s)) g = tt
  op_shaped (Op.Closure to code kept At.Static) g = never g.0
    where
      never : {X : Type 0} → At.Static ≡ At.Heap → X
      never h = cc
  op_shaped (Op.GlobalPut global value first) g = g.1.0
  op_shaped (Op.ClosureGet to from slot) g = tt
  op_shaped (Op.FrameGet to slot) g = tt
  op_shaped (Op.Cell to value) g = tt
  op_shaped (Op.CellGet to cell) g = tt
  op_shaped (Op.CellSet cell value) g = tt
  op_shaped (Op.GlobalGet to global) g = tt
  op_shaped (Op.Push kept back) g = tt
  op_shaped Op.Pop g = tt
  op_shaped (Op.CatchOpen to back) g = tt
  op_shaped Op.CatchClose g = tt
  op_shaped (Op.Object to template proc kept) g = tt

  end_shaped : (last : FrameEnd) → GoodEnd p w last → IsShapedEnd p last
  end_shaped (Last.Call f args) g = g.0
  end_shaped (Last.Jump block args) g = g.0
  end_shaped (Last.If test first second) g = tt
  end_shaped (Last.Return value) g = tt
  end_shaped (Last.Halt value) g = tt

  op_backs : (op : FrameOp) → GoodOp p op → AllByRecursion (HasParams p (λ n. n ≡ 1)) (backs_of op)
  op_backs (Op.Push kept back) g = (g, tt)
  op_backs (Op.CatchOpen to back) g = (g, tt)
  op_backs (Op.Prim to b args) g = tt
  op_backs (Op.Closure to code kept at) g = tt
  op_backs (Op.ClosureGet to from slot) g = tt
  op_backs (Op.FrameGet to slot) g = tt
  op_backs (Op.Cell to value) g = tt
  op_backs (Op.CellGet to cell) g = tt
  op_backs (Op.CellSet cell value) g = tt
  op_backs (Op.GlobalGet to global) g = tt
  op_backs (Op.GlobalPut global value first) g = tt
  op_backs Op.Pop g = tt
  op_backs Op.CatchClose g = tt
  op_backs (Op.Object to template proc kept) g = tt

  abbrev IsCode : ℕ → Type 0
  IsCode k = HasParams p IsCodeCount k

  op_codes : (op : FrameOp) → GoodOp p op → AllByRecursion IsCode (codes_of op)
  op_codes (Op.Closure to code kept at) g = (g.1, tt)
  op_codes (Op.Prim to b args) g = tt
  op_codes (Op.ClosureGet to from slot) g = tt
  op_codes (Op.FrameGet to slot) g = tt
  op_codes (Op.Cell to value) g = tt
  op_codes (Op.CellGet to cell) g = tt
  op_codes (Op.CellSet cell value) g = tt
  op_codes (Op.GlobalGet to global) g = tt
  op_codes (Op.GlobalPut global value first) g = tt
  op_codes (Op.Push kept back) g = tt
  op_codes Op.Pop g = tt
  op_codes (Op.CatchOpen to back) g = tt
  op_codes Op.CatchClose g = tt
  op_codes (Op.Object to template proc kept) g = tt

  args_codes : (args : List Arg) → GoodArgs p args → AllByRecursion (λ a. AllByRecursion IsCode (arg_codes a)) args
  args_codes args g = each_more (GoodArg p) (λ a. AllByRecursion IsCode (arg_codes a)) args (λ a h. subst (AllByRecursion IsCode) (sym h.1) tt) g

  op_good_args : (op : FrameOp) → GoodOp p op → GoodArgs p (op_args op)
  op_good_args (Op.Prim to b args) g = g.1
  op_good_args (Op.Cell to value) g = (g, tt)
  op_good_args (Op.CellSet cell value) g = (g, tt)
  op_good_args (Op.GlobalPut global value first) g = (g.1.1, tt)
  op_good_args (Op.Object to template proc kept) g = (g.1, tt)
  op_good_args (Op.Closure to code kept at) g = tt
  op_good_args (Op.ClosureGet to from slot) g = tt
  op_good_args (Op.FrameGet to slot) g = tt
  op_good_args (Op.CellGet to cell) g = tt
  op_good_args (Op.GlobalGet to global) g = tt
  op_good_args (Op.Push kept back) g = tt
  op_good_args Op.Pop g = tt
  op_good_args (Op.CatchOpen to back) g = tt
  op_good_args Op.CatchClose g = tt

  end_good_args : (last : FrameEnd) → GoodEnd p w last → GoodArgs p (end_args last)
  end_good_args (Last.Call f args) g = g.1
  end_good_args (Last.Jump block args) g = g.1
  end_good_args (Last.If test first second) g = (g.1, tt)
  end_good_args (Last.Return value) g = (g, tt)
  end_good_args (Last.Halt value) g = (g, tt)

  end_arms : (last : FrameEnd) → GoodEnd p w last → AllByRecursion (GoodArm p) (arms_of last)
  end_arms (Last.If test first second) g = (g.0.0, (g.0.1, tt))
  end_arms (Last.Call f args) g = tt
  end_arms (Last.Jump block args) g = tt
  end_arms (Last.Return value) g = tt
  end_arms (Last.Halt value) g = tt

  block_codes : (b : Block) → GoodRest p w b.ops.items b.last → AllByRecursion IsCode (flat_map codes_of b.ops.items ++ flat_map arg_codes (block_args b))
  block_codes b g =
      each_append IsCode (flat_map codes_of b.ops.items) (flat_map arg_codes (block_args b)) (each_joined codes_of IsCode b.ops.items (each_more (GoodOp p) (λ op. AllByRecursion IsCode (codes_of op)) b.ops.items op_codes g.ops))
      (each_joined arg_codes IsCode (block_args b)
      (args_codes (block_args b)
      (each_append (GoodArg p) (flat_map op_args b.ops.items) (end_args b.last) (each_joined op_args (GoodArg p) b.ops.items (each_more (GoodOp p) (λ op. GoodArgs p (op_args op)) b.ops.items op_good_args g.ops)) (end_good_args b.last g.last))))

  -- ---- the groups

  abbrev Good : Block → Type 0
  Good b = GoodRest p w b.ops.items b.last

  pub block_named : (b : Block) → Good b → BlockNamesAreThere p b
  block_named b g = (
    All-from_recursion (λ op. OpNamesAreThere p op × All (IsArg p) (op_args op)) b.ops.items (each_more (GoodOp p) (λ op. OpNamesAreThere p op × All (IsArg p) (op_args op)) b.ops.items op_named g.ops),
    end_named b.last g.last,
  )

  count_of_firsts : first_lams cps ≡ proc_count p.shared + default_count p.shared
  count_of_firsts =
      let a : length (filter is_procedure cps.shared.globals.items) ≡ proc_count cps.shared = ap length (same_procedures cps.shared.globals.items) ∙ length-filter (λ g. is_proc_kind g.kind) cps.shared.globals.items in
      let b : length (filter (λ o. o.default) cps.shared.ops.items) ≡ default_count cps.shared = length-filter (λ o. o.default) cps.shared.ops.items in
      let c : first_lams cps ≡ proc_count cps.shared + default_count cps.shared = omega (arith, a, b) in
      c ∙ ap (λ r. proc_count r + default_count r) (sym laid.shared)

  -- so many first blocks are there
  firsts_there : (n : ℕ) → n ≤ first_lams cps → n ≤ length p.blocks.items
  firsts_there zero le = omega arith
  firsts_there (suc n) le = there p IsCodeCount n (code_good n n (laid.firsts n le).0)

  pub places : AreTemplates p → HasPlaces p
  places ts = record {
    blocks = All-from_recursion (BlockNamesAreThere p) p.blocks.items (each_more Good (BlockNamesAreThere p) p.blocks.items block_named each_good);
    templates = ts.named;
    entry = let b = block_at cps p laid p.entry _ laid.entry in slice_get_within p.blocks.items p.entry b.block b.is;
    first_codes = subst (λ n. n ≤ length p.blocks.items) count_of_firsts (firsts_there (first_lams cps) (omega arith));
  }

  pub shapes : AreTemplates p → HasShapes p
  shapes ts = record {
    ops = All-from_recursion (λ b. All (IsShapedOp p) b.ops.items) p.blocks.items
        (each_more Good (λ b. All (IsShapedOp p) b.ops.items) p.blocks.items (λ b g. All-from_recursion (IsShapedOp p) b.ops.items (each_more (GoodOp p) (IsShapedOp p) b.ops.items op_shaped g.ops)) each_good);
    ends = All-from_recursion (λ b. IsShapedEnd p b.last) p.blocks.items (each_more Good (λ b. IsShapedEnd p b.last) p.blocks.items (λ b g. end_shaped b.last g.last) each_good);
    templates = ts.together;
  }

  abbrev IsOnce : ℕ → Type 0
  IsOnce k = count_by (λ b. b == k) (all_targets p) ≡ 1

  pub blocks : AreTemplates p → AreOwnArms p → HasBlocks p
  blocks ts own = record {
    arms = All-from_recursion (λ k. HasParams p (λ n. n ≡ 0) k × (IsOnce k × (k ≢ p.entry))) (all_arms p)
        (each_of_two (GoodArm p) IsOnce (λ k. HasParams p (λ n. n ≡ 0) k × (IsOnce k × (k ≢ p.entry))) (all_arms p) (λ k g o. (g.0, (o, g.1)))
        (each_joined (λ (b : Block). arms_of b.last) (GoodArm p) p.blocks.items (each_more Good (λ b. AllByRecursion (GoodArm p) (arms_of b.last)) p.blocks.items (λ b g. end_arms b.last g.last) each_good)) (each_of_all IsOnce (all_arms p) own));
    codes = All-from_recursion IsCode (closure_codes p)
        (each_joined (λ (b : Block). flat_map codes_of b.ops.items ++ flat_map arg_codes (block_args b)) IsCode p.blocks.items
        (each_more Good (λ b. AllByRecursion IsCode (flat_map codes_of b.ops.items ++ flat_map arg_codes (block_args b))) p.blocks.items block_codes each_good));
    first_codes = λ k lt. code_good k k (laid.firsts k (subst (λ n. k < n) (sym count_of_firsts) lt)).0;
    methods = ts.methods;
    backs = All-from_recursion (HasParams p (λ n. n ≡ 1)) (all_backs p)
        (each_joined (λ (b : Block). flat_map backs_of b.ops.items) (HasParams p (λ n. n ≡ 1)) p.blocks.items
        (each_more Good (λ b. AllByRecursion (HasParams p (λ n. n ≡ 1)) (flat_map backs_of b.ops.items)) p.blocks.items
        (λ b g. each_joined backs_of (HasParams p (λ n. n ≡ 1)) b.ops.items (each_more (GoodOp p) (λ op. AllByRecursion (HasParams p (λ n. n ≡ 1)) (backs_of op)) b.ops.items op_backs g.ops)) each_good));
    entry = let b = block_at cps p laid p.entry _ laid.entry in some_params p (λ n. n ≡ 0) p.entry b.block b.is (sym b.fits.count);
  }

pub has_places : LaidOutHasPlaces
has_places cps p whole laid ts = places cps p whole laid ts

pub has_shapes : LaidOutHasShapes
has_shapes cps p whole laid ts = shapes cps p whole laid ts

pub has_blocks : LaidOutHasBlocks
has_blocks cps p whole laid ts own = blocks cps p whole laid ts own
