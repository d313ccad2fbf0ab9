-- What is known of each block of a whole program.
use Rattle.std.proofs.Common.{◌≡◌, ◌≢◌, ℕ, zero, suc, ◌+◌, ◌<◌, inl, Bool, true, false, List, [], ◌∷◌, ◌++◌, length, get_or, Some, slice_get, ap, subst, arith, length-append}
use Rattle.std.specs.Prelude.{All, AllPairs, Contains, count_by, cond, if◌then◌else◌, None}
use Rattle.std.specs.List.{AllByRecursion, list_all, flat_map}
use Rattle.std.proofs.lemmas.Bool.{and_parts}
use Rattle.std.proofs.lemmas.List.Sums.{sum_by-cons}
use Rattle.std.proofs.lemmas.List.{get_or_append_left, get_or-append-add}
use Rattle.std.proofs.lemmas.List.Elements.{All-contains_itself, All-contains, Contains-append_left}
use Rattle.t_base.specs.declared.basics.Var.{Var}
use Rattle.t_prim.proofs.RowParts.{all_at}
use Rattle.cps_ir.specs.declared.args.Arg.{Arg}
use Rattle.cps_ir.specs.declared.args.Arg.TheVariants as Argument
use Rattle.cps_ir.proofs.ProperLists.{each_of_all}
use Rattle.frame_ir.specs.declared.forms.FrameOp.{FrameOp}
use Rattle.frame_ir.specs.declared.forms.FrameOp.TheVariants as Op
use Rattle.frame_ir.specs.declared.forms.FrameEnd.{FrameEnd}
use Rattle.frame_ir.specs.declared.forms.FrameEnd.TheVariants as Last
use Rattle.frame_ir.specs.declared.forms.Block.{Block}
use Rattle.frame_ir.specs.Arguments.{is_proc, number_among}
use Rattle.frame_ir.specs.Parts.{op_args, end_args, op_binds, block_binds, block_args, codes_of, arg_codes, targets_of}
use Rattle.frame_ir.specs.Sizes.{AreSmall}
use Rattle.frame_ir.specs.Whole.{IsBlock, IsArg, OpNamesAreThere, BlockNamesAreThere, IsShapedOp, IsShapedEnd}
use Rattle.frame_ir.proofs.KindTexts.{contains_flat}
use Rattle.frame_stacks.specs.Laws.{AreParameters}
use Rattle.prim_holds.specs.Operands.{IsNamed}
use Rattle.word_selection.specs.Selections.{IsOpNamed, IsBlockNamed, IsClosureCode}
use Rattle.selection_steps.specs.Settings.{Setting, choice_of, layout_of, called_code, is_plain, IsShaped, IsFit, AreFit, IsFitEnd}
use Rattle.selection_steps.specs.Settings as settings

-- ---- lists

pub each_in : {X : Type 0} (P : X → Type 0) (xs : List X) → ((y : X) → Contains xs y → P y) → AllByRecursion P xs
each_in {X} P xs h = over xs (each_of_all (Contains xs) xs (All-contains_itself xs))
  where
    over : (ys : List X) → AllByRecursion (Contains xs) ys → AllByRecursion P ys
    over [] all = tt
    over (y ∷ ys) all = (h y all.0, over ys all.1)

each_left : {X : Type 0} (P : X → Type 0) (xs ys : List X) → AllByRecursion P (xs ++ ys) → AllByRecursion P xs
each_left P [] ys h = tt
each_left P (x ∷ xs) ys h = (h.0, each_left P xs ys h.1)

each_right : {X : Type 0} (P : X → Type 0) (xs ys : List X) → AllByRecursion P (xs ++ ys) → AllByRecursion P ys
each_right P [] ys h = h
each_right P (x ∷ xs) ys h = each_right P xs ys h.1

pairs_left : {X : Type 0} (R : X → X → Type 0) (xs ys : List X) → AllPairs R (xs ++ ys) → AllPairs R xs
pairs_left R xs ys all i j d lt within =
    subst (λ a. R a (get_or xs j d)) (get_or_append_left xs ys d i (omega arith))
    (subst (λ b. R (get_or (xs ++ ys) i d) b) (get_or_append_left xs ys d j within) (all i j d lt (omega (arith, length-append xs ys))))

pairs_right : {X : Type 0} (R : X → X → Type 0) (xs ys : List X) → AllPairs R (xs ++ ys) → AllPairs R ys
pairs_right R xs ys all i j d lt within =
    subst (λ a. R a (get_or ys j d)) (get_or-append-add xs ys i d)
    (subst (λ b. R (get_or (xs ++ ys) (length xs + i) d) b) (get_or-append-add xs ys j d) (all (length xs + i) (length xs + j) d (omega arith) (omega (arith, length-append xs ys))))

params_distinct : (blocks : List Block) (k : ℕ) (b : Block) → AllPairs (λ x y. x ≢ y) (flat_map block_binds blocks) → slice_get blocks k ≡ Some b → AllPairs (λ x y. x ≢ y) b.params
params_distinct [] k b all at = absurd (cc)
params_distinct (first ∷ blocks) zero b all at =
    let same : first ≡ b = cc in
    subst (λ (z : Block). AllPairs (λ x y. x ≢ y) z.params) same (pairs_left (λ x y. x ≢ y) first.params _ (pairs_left (λ x y. x ≢ y) (block_binds first) (flat_map block_binds blocks) all))
params_distinct (first ∷ blocks) (suc k) b all at = params_distinct blocks k b (pairs_right (λ x y. x ≢ y) (block_binds first) (flat_map block_binds blocks) all) at

-- ---- parameters

same_var : (x y : Var) → x.0 ≡ y.0 → x ≡ y
same_var x y eq = ap (λ n. record { 0 = n }) eq

numbers_apart : (x : Var) (xs : List Var) → AllByRecursion (λ y. x ≢ y) xs → AllByRecursion (λ y. x.0 ≡ y.0 → ⊥) xs
numbers_apart x [] h = tt
numbers_apart x (y ∷ xs) h = (λ eq. h.0 (same_var x y eq), numbers_apart x xs h.1)

first_all : (x : Var) (xs : List Var) → AllPairs (λ y z. y ≢ z) (x ∷ xs) → All (λ y. x ≢ y) xs
first_all x xs all k d lt = all 0 (suc k) d (omega arith) (omega (arith, lt))

parameters_of : (t : ℕ) (params : List Var) → AllByRecursion (λ x. x.0 < t) params → AllPairs (λ x y. x ≢ y) params → AreParameters t params
parameters_of t [] lower all = tt
parameters_of t (x ∷ xs) lower all = (lower.0, numbers_apart x xs (each_of_all (λ y. x ≢ y) xs (first_all x xs all)), parameters_of t xs lower.1 (pairs_right (λ y z. y ≢ z) (x ∷ []) xs all))

-- ---- operations

module _ (m : Setting) where
  shape : (op : FrameOp) → IsShapedOp m.p op → OpNamesAreThere m.p op → AllByRecursion (IsClosureCode m.p) (codes_of op) → IsShaped m op
  shape (Op.Prim to b args) shaped places codes = shaped
  shape (Op.Closure to code kept at) shaped places codes = codes.0
  shape (Op.ClosureGet to from slot) shaped places codes = tt
  shape (Op.FrameGet to slot) shaped places codes = tt
  shape (Op.Cell to value) shaped places codes = tt
  shape (Op.CellGet to cell) shaped places codes = tt
  shape (Op.CellSet cell value) shaped places codes = tt
  shape (Op.GlobalGet to global) shaped places codes = places
  shape (Op.GlobalPut global value first) shaped places codes = places
  shape (Op.Push kept back) shaped places codes = tt
  shape Op.Pop shaped places codes = tt
  shape (Op.CatchOpen to back) shaped places codes = tt
  shape Op.CatchClose shaped places codes = tt
  shape (Op.Object to template proc kept) shaped places codes = tt

  abbrev free : ℕ
  free = (choice_of m).free

  fits_of : (ops : List FrameOp) → AllByRecursion (λ op. IsOpNamed (layout_of m) op × AllByRecursion (IsNamed (layout_of m) m.p.shared) (op_args op)) ops → AllByRecursion (λ x. x.0 < free) (flat_map op_binds ops)
      → AreSmall m.p.shared.size ops → AllByRecursion (IsShapedOp m.p) ops → AllByRecursion (λ op. OpNamesAreThere m.p op × All (IsArg m.p) (op_args op)) ops → AllByRecursion (IsClosureCode m.p) (flat_map codes_of ops) → list_all is_plain ops ≡ true → AreFit m ops
  fits_of [] named binds small shaped places codes plain = tt
  fits_of (op ∷ ops) named binds small shaped places codes plain =
      let both = and_parts (is_plain op) (list_all is_plain ops) plain in (
        record {
          args = named.0.1;
          named = named.0.0;
          binds = each_left (λ x. x.0 < free) (op_binds op) (flat_map op_binds ops) binds;
          small = small.0;
          shaped = shape op shaped.0 places.0.0 (each_left (IsClosureCode m.p) (codes_of op) (flat_map codes_of ops) codes);
          plain = both.0;
        },
        fits_of ops named.1 (each_right (λ x. x.0 < free) (op_binds op) (flat_map op_binds ops) binds) small.1 shaped.1 places.1 (each_right (IsClosureCode m.p) (codes_of op) (flat_map codes_of ops) codes) both.1,
      )

  -- the codes of globals that are procedures come first
  among_by : {X : Type 0} (test : X → Bool) (n : ℕ) (b : Bool) (count c : ℕ) → (if b then Some n else None) ≡ Some c → c < n + (cond b 1 0 + count)
  among_by test n true count c is = let same : n ≡ c = cc in omega (arith, same)
  among_by test n false count c is = absurd (cc)

  rest_by : (n c count : ℕ) (b : Bool) → c < (if b then suc n else n) + count → c < n + (cond b 1 0 + count)
  rest_by n c count true lt = omega (arith, lt)
  rest_by n c count false lt = omega (arith, lt)

  pub among_below : {X : Type 0} (test : X → Bool) (xs : List X) (n k c : ℕ) → number_among test n xs k ≡ Some c → c < n + count_by test xs
  among_below test [] n k c is = absurd (cc)
  among_below test (x ∷ xs) n zero c is = let e = sum_by-cons (λ z. cond (test z) 1 0) x xs in let lt = among_by test n (test x) (count_by test xs) c is in omega (arith, e, lt)
  among_below test (x ∷ xs) n (suc k) c is =
      let lt = rest_by n c (count_by test xs) (test x) (among_below test xs (if test x then suc n else n) k c is) in
      let e = sum_by-cons (λ z. cond (test z) 1 0) x xs in
      omega (arith, lt, e)

  code_there : (f : Arg) (code : ℕ) → IsArg m.p f → called_code m f ≡ Some code → code < length m.p.blocks.items
  code_there (Argument.Proc block) code there is = let same : block ≡ code = cc in subst (λ k. k < length m.p.blocks.items) same there
  code_there (Argument.Global g) code there is =
      let lt = among_below (λ info. is_proc info.kind) m.p.shared.globals.items 0 g code is in
      let first = m.whole.places.first_codes in
      omega (arith, lt, first)
  code_there (Argument.Const k) code there is = absurd (cc)
  code_there (Argument.Var x) code there is = absurd (cc)
  code_there (Argument.Builtin b) code there is = absurd (cc)
  code_there (Argument.Op o) code there is = absurd (cc)

  end_shape : (end : FrameEnd) → IsShapedEnd m.p end → AllByRecursion (IsArg m.p) (end_args end) → AllByRecursion (IsBlock m.p) (targets_of end) → settings.IsShapedEnd m end
  end_shape (Last.Call f args) shaped there targets = (shaped, λ code is. code_there f code there.0 is)
  end_shape (Last.Jump block args) shaped there targets = tt
  end_shape (Last.If test first second) shaped there targets = (targets.0, targets.1.0)
  end_shape (Last.Return value) shaped there targets = tt
  end_shape (Last.Halt value) shaped there targets = tt

  plain_at : (blocks : List Block) (k : ℕ) (b : Block) → list_all (λ x. list_all is_plain x.ops.items) blocks ≡ true → slice_get blocks k ≡ Some b → list_all is_plain b.ops.items ≡ true
  plain_at [] k b all at = absurd (cc)
  plain_at (x ∷ blocks) zero b all at =
      let same : x ≡ b = cc in
      subst (λ (z : Block). list_all is_plain z.ops.items ≡ true) same (and_parts (list_all is_plain x.ops.items) (list_all (λ y. list_all is_plain y.ops.items) blocks) all).0
  plain_at (x ∷ blocks) (suc k) b all at = plain_at blocks k b (and_parts (list_all is_plain x.ops.items) (list_all (λ y. list_all is_plain y.ops.items) blocks) all).1 at

  -- what is known of a block
  pub record IsKnown (b : Block) : Type 0 where
    pub fits : AreFit m b.ops.items
    pub fits_end : IsFitEnd m b.last
    pub params : AreParameters free b.params

  pub block_known : (k : ℕ) (b : Block) → slice_get m.p.blocks.items k ≡ Some b → IsKnown b
  block_known k b at =
      let named : IsBlockNamed (choice_of m) m.p b = all_at (IsBlockNamed (choice_of m) m.p) m.p.blocks.items k b m.selected.named.blocks at in
      let places : BlockNamesAreThere m.p b = all_at (BlockNamesAreThere m.p) m.p.blocks.items k b m.whole.places.blocks at in
      let binds : AllByRecursion (λ x. x.0 < free) (block_binds b) = each_in (λ x. x.0 < free) (block_binds b)
      (λ y inside. All-contains (λ x. x.0 < free) (flat_map (λ c. block_binds c) m.p.blocks.items) y m.selected.named.variables (contains_flat block_binds m.p.blocks.items k b y at inside)) in
      let codes : AllByRecursion (IsClosureCode m.p) (flat_map codes_of b.ops.items) = each_in (IsClosureCode m.p) (flat_map codes_of b.ops.items)
      (λ y inside. inl (contains_flat (λ c. flat_map codes_of c.ops.items ++ flat_map arg_codes (block_args c)) m.p.blocks.items k b y at (Contains-append_left (flat_map codes_of b.ops.items) (flat_map arg_codes (block_args b)) y inside))) in
      record {
        fits = fits_of b.ops.items
            (each_of_all (λ op. IsOpNamed (layout_of m) op × AllByRecursion (IsNamed (layout_of m) m.p.shared) (op_args op)) b.ops.items named.0)
            (each_right (λ x. x.0 < free) b.params (flat_map op_binds b.ops.items) binds)
            (all_at (λ c. AreSmall m.p.shared.size c.ops.items) m.p.blocks.items k b m.small at)
            (each_of_all (IsShapedOp m.p) b.ops.items (all_at (λ c. All (IsShapedOp m.p) c.ops.items) m.p.blocks.items k b m.whole.shapes.ops at))
            (each_of_all (λ op. OpNamesAreThere m.p op × All (IsArg m.p) (op_args op)) b.ops.items places.0)
            codes
            (plain_at m.p.blocks.items k b m.plain at);
        fits_end = record { args = named.1; shaped = end_shape b.last (all_at (λ c. IsShapedEnd m.p c.last) m.p.blocks.items k b m.whole.shapes.ends at) (each_of_all (IsArg m.p) (end_args b.last) places.1.1) (each_of_all (IsBlock m.p) (targets_of b.last) places.1.0) };
        params = parameters_of free b.params (each_left (λ x. x.0 < free) b.params (flat_map op_binds b.ops.items) binds) (params_distinct m.p.blocks.items k b m.whole.scopes.bound_once at);
      }
