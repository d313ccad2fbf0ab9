-- Parts that are added to what stands in static words.
use Rattle.std.proofs.Common.{◌≡◌, ℕ, zero, suc, ◌+◌, ◌<◌, ◌≤◌, ◌==◌, ◌⊎◌, inl, inr, Bool, true, false, ◌||◌, ◌&&◌, List, [], ◌∷◌, ◌++◌, length, map, slice_get, slice_index_or, All, Contains, Option, Some, None, is_some, refl, sym, ap, ◌∙◌, subst, arith}
use Rattle.std.specs.List.{AllByRecursion, flat_map}
use Rattle.std.specs.Option.{option_map_or}
use Rattle.std.proofs.lemmas.Bool.{eqb-true, eq-eqb, true≢false}
use Rattle.std.proofs.lemmas.List.{map-append}
use Rattle.std.proofs.lemmas.List.Elements.{Contains-append_left, Contains-append_right}
use Rattle.std.proofs.lemmas.Option.{slice_get_within, get_or_from_slice_get}
use Rattle.t_base.specs.declared.shared_parts.Const.{Const}
use Rattle.t_base.specs.declared.shared_parts.Const.TheVariants as Constant
use Rattle.t_prim.specs.SharedParts.{IsConst, StandsBelow}
use Rattle.t_prim.specs.Values.{Literal, PrintName}
use Rattle.cps_ir.specs.declared.args.Arg.{Arg}
use Rattle.cps_ir.specs.declared.args.Arg.TheVariants as Argument
use Rattle.frame_ir.specs.declared.forms.Place.TheVariants as At
use Rattle.frame_ir.specs.declared.forms.FrameOp.{FrameOp}
use Rattle.frame_ir.specs.declared.forms.FrameOp.TheVariants as Op
use Rattle.frame_ir.specs.declared.forms.Block.{Block}
use Rattle.frame_ir.specs.declared.forms.Template.{Template}
use Rattle.frame_ir.specs.declared.forms.Frames.{Frames}
use Rattle.frame_ir.specs.Arguments.{proc_count, default_count}
use Rattle.frame_ir.specs.Parts.{op_args, end_args, block_args, codes_of, arg_codes, closure_codes}
use Rattle.frame_ir.specs.Whole.{IsWhole, IsArg, OpNamesAreThere, BlockNamesAreThere}
use Rattle.frame_words.specs.Segments.{place_of}
use Rattle.frame_words.specs.Layouts.{Fixed, ClosureOf, BuiltinOf, OperationOf, TextOf, SymbolOf, PairOf, TemplateOf, same_fixed}
use Rattle.operand_drafts.specs.Places.{word_at}
use Rattle.static_names.specs.declared.things.Thing.{Thing}
use Rattle.static_names.specs.declared.things.Thing.TheVariants as thing
use Rattle.static_names.specs.Named.{fixed_of, of_const, of_arg, made_by, of_op, of_block, closures_below, named}
use Rattle.static_tables.specs.declared.statics.Statics.{Statics}
use Rattle.static_tables.specs.Tables.{words_of, has, index_of, fixed_in, AreStatics, Adds}
use Rattle.static_tables.specs.Gathered.{parts_of, IsClosedAt, AddsParts, IsCode, IsGood, IsClosing}
use Rattle.static_tables.proofs.Same.{fixed_sound}
use Rattle.static_tables.proofs.AddLemmas.{false_of, has_place, has_joined, none_there, some_there}

-- ---- the parts of one thing

pub nothing_added : (p : Frames) (x : Fixed) (s : Statics) → AreStatics p s → word_at s.table.items (index_of x) ≡ 0 → AddsParts p x s s
nothing_added p x s h e = record {
  statics = h;
  has = λ y. rw (sym (has_place (words_of p) (fixed_in s) x) ∙ ap is_some (none_there p (fixed_in s) x (sym (h.table x) ∙ e))) refl;
}

pub parts_added : (p : Frames) (x : Fixed) (old new : Statics) (parts : List Thing) → AreStatics p old → (word_at old.table.items (index_of x) ≡ 0 → ⊥) → parts ≡ parts_of p x
    → Adds p (map fixed_of parts) old new → AddsParts p x old new
parts_added p x old new parts h ne e a = record {
  statics = a.statics;
  has = λ y. a.has y ∙ (ap (λ ts. has (map fixed_of ts) y || has (fixed_in old) y) e ∙ ap (λ b. (b && has (map fixed_of (parts_of p x)) y) || has (fixed_in old) y) (sym (some_there p (fixed_in old) x (λ q. ne (h.table x ∙ q)))));
}

-- ---- what stays closed

keeps : (p : Frames) (x : Fixed) (old new : Statics) → AddsParts p x old new → (y : Fixed) → has (fixed_in old) y ≡ true → has (fixed_in new) y ≡ true
keeps p x old new a y e = a.has y ∙ (ap (λ b. (has (fixed_in old) x && has (map fixed_of (parts_of p x)) y) || b) e ∙ or_true (has (fixed_in old) x && has (map fixed_of (parts_of p x)) y))
  where
    or_true : (b : Bool) → (b || true) ≡ true
    or_true true = refl
    or_true false = refl

was_there : (p : Frames) (x z : Fixed) (old new : Statics) → AddsParts p x old new → has (map fixed_of (parts_of p x)) z ≡ false → has (fixed_in new) z ≡ true → has (fixed_in old) z ≡ true
was_there p x z old new a out e = by (has (fixed_in old) x) (has (fixed_in old) z) (sym (ap (λ b. (has (fixed_in old) x && b) || has (fixed_in old) z) out) ∙ (sym (a.has z) ∙ e))
  where
    by : (b c : Bool) → ((b && false) || c) ≡ true → c ≡ true
    by true c q = q
    by false c q = q

closed_after : (p : Frames) (x z : Fixed) (old new : Statics) → AddsParts p x old new → has (map fixed_of (parts_of p x)) z ≡ false → IsClosedAt p (fixed_in old) z → IsClosedAt p (fixed_in new) z
closed_after p x z old new a out c = λ there y part. keeps p x old new a y (c (was_there p x z old new a out there) y part)

closed_self : (p : Frames) (x : Fixed) (old new : Statics) → AddsParts p x old new → has (map fixed_of (parts_of p x)) x ≡ false → IsClosedAt p (fixed_in new) x
closed_self p x old new a out = λ there y part. a.has y ∙ (ap (λ b. (b && has (map fixed_of (parts_of p x)) y) || has (fixed_in old) y) (was_there p x x old new a out there) ∙ ap (λ b. b || has (fixed_in old) y) part)

-- ---- what is there

from_has : (P : Fixed → Type 0) (ts : List Thing) → AllByRecursion (λ t. P (fixed_of t)) ts → (y : Fixed) → has (map fixed_of ts) y ≡ true → P y
from_has P [] h y e = absurd (cc)
from_has P (t ∷ ts) h y e = by (same_fixed (fixed_of t) y) refl e (from_has P ts h.1 y)
  where
    by : (b : Bool) → same_fixed (fixed_of t) y ≡ b → (b || has (map fixed_of ts) y) ≡ true → (has (map fixed_of ts) y ≡ true → P y) → P y
    by true f q g = subst P (fixed_sound (fixed_of t) y f) h.0
    by false f q g = g q

all_join : {X : Type 0} (P : X → Type 0) (xs ys : List X) → AllByRecursion P xs → AllByRecursion P ys → AllByRecursion P (xs ++ ys)
all_join P [] ys h g = g
all_join P (x ∷ xs) ys h g = (h.0, all_join P xs ys h.1 g)

all_flat : {X Y : Type 0} (P : Y → Type 0) (f : X → List Y) (xs : List X) → ((i : ℕ) (x : X) → slice_get xs i ≡ Some x → AllByRecursion P (f x)) → AllByRecursion P (flat_map f xs)
all_flat P f [] h = tt
all_flat P f (x ∷ xs) h = all_join P (f x) (flat_map f xs) (h 0 x refl) (all_flat P f xs (λ i y e. h (suc i) y e))

all_at : {X : Type 0} (P : X → Type 0) (xs : List X) (i : ℕ) (x : X) → All P xs → slice_get xs i ≡ Some x → P x
all_at P xs i x h e = subst P (get_or_from_slice_get xs i x x e) (h i x (slice_get_within xs i x e))

there_within : {X : Type 0} (xs : List X) (k : ℕ) → k < length xs → is_some (slice_get xs k) ≡ true
there_within [] k lt = absurd (omega (arith, lt))
there_within (x ∷ xs) zero lt = refl
there_within (x ∷ xs) (suc k) lt = there_within xs k (omega (arith, lt))

none_past : {X : Type 0} (xs : List X) (k : ℕ) → length xs ≤ k → slice_get xs k ≡ None
none_past [] k le = refl
none_past (x ∷ xs) zero le = absurd (omega (arith, le))
none_past (x ∷ xs) (suc k) le = none_past xs k (omega (arith, le))

abbrev Good : Frames → Thing → Type 0
Good p t = IsGood p (fixed_of t)

const_good : (p : Frames) (c : Const) → IsConst p.shared c → AllByRecursion (Good p) (of_const c)
const_good p (Constant.Fix x) h = tt
const_good p (Constant.Char x) h = tt
const_good p Constant.Nil h = tt
const_good p Constant.True h = tt
const_good p (Constant.Sym n) h = (h, tt)
const_good p (Constant.Str k) h = (there_within p.shared.strings.items k h, tt)
const_good p (Constant.Pair k) h = (h, tt)

operations_good : (p : Frames) (ops : List ℕ) → AllByRecursion (Good p) (map thing.Operation ops)
operations_good p [] = tt
operations_good p (o ∷ ops) = (tt, operations_good p ops)

part_good : (p : Frames) → IsWhole p → (x : Fixed) → IsGood p x → AllByRecursion (Good p) (parts_of p x)
part_good p w (PairOf k) h = by (slice_get p.shared.pairs.items k) refl
  where
    by : (o : Option (Const × Const)) → slice_get p.shared.pairs.items k ≡ o → AllByRecursion (Good p) (option_map_or (λ pair. of_const pair.0 ++ of_const pair.1) o [])
    by (Some pair) e =
        let both = all_at (λ (c : Const × Const). IsConst p.shared c.0 × IsConst p.shared c.1) p.shared.pairs.items k pair w.shared.pairs e in
        all_join (Good p) (of_const pair.0) (of_const pair.1) (const_good p pair.0 both.0) (const_good p pair.1 both.1)
    by None e = tt
part_good p w (SymbolOf n) h = (there_within p.shared.names n h, tt)
part_good p w (TemplateOf t) h = by (slice_get p.templates.items t)
  where
    by : (o : Option Template) → AllByRecursion (Good p) (option_map_or (λ x. map thing.Operation x.ops) o [])
    by (Some x) = operations_good p x.ops
    by None = tt
part_good p w (ClosureOf k) h = tt
part_good p w (BuiltinOf b) h = tt
part_good p w (OperationOf o) h = tt
part_good p w (TextOf t) h = tt

good_after : (p : Frames) (x : Fixed) (old new : Statics) → IsWhole p → AddsParts p x old new → ((y : Fixed) → has (fixed_in old) y ≡ true → IsGood p y) → (y : Fixed) → has (fixed_in new) y ≡ true → IsGood p y
good_after p x old new w a h y e = by (has (fixed_in old) x) (has (map fixed_of (parts_of p x)) y) refl refl (sym (a.has y) ∙ e)
  where
    by : (b c : Bool) → has (fixed_in old) x ≡ b → has (map fixed_of (parts_of p x)) y ≡ c → ((b && c) || has (fixed_in old) y) ≡ true → IsGood p y
    by true true f g q = from_has (IsGood p) (parts_of p x) (part_good p w x (h x f)) y g
    by true false f g q = h y q
    by false c f g q = h y q

-- ---- what is named is there

contains_part : {X Y : Type 0} (f : X → List Y) (xs : List X) (i : ℕ) (x : X) (y : Y) → slice_get xs i ≡ Some x → Contains (f x) y → Contains (flat_map f xs) y
contains_part f [] i x y e c = absurd (cc)
contains_part f (z ∷ xs) zero x y e c = let is : z ≡ x = cc in Contains-append_left (f z) (flat_map f xs) y (subst (λ w. Contains (f w) y) (sym is) c)
contains_part f (z ∷ xs) (suc i) x y e c = Contains-append_right (f z) (flat_map f xs) y (contains_part f xs i x y e c)

joined_left : {X : Type 0} (xs ys : List X) (i : ℕ) (x : X) → slice_get xs i ≡ Some x → slice_get (xs ++ ys) i ≡ Some x
joined_left [] ys i x e = absurd (cc)
joined_left (z ∷ xs) ys zero x e = e
joined_left (z ∷ xs) ys (suc i) x e = joined_left xs ys i x e

contains_get : {X : Type 0} (xs : List X) (i : ℕ) (x : X) → slice_get xs i ≡ Some x → Contains xs x
contains_get xs i x e = (i, slice_get_within xs i x e, get_or_from_slice_get xs i x x e)

pub get_at : {X : Type 0} (x : X) (ys : List X) (i : ℕ) → i < length ys → slice_index_or ys i x ≡ x → slice_get ys i ≡ Some x
get_at x [] i lt e = absurd (omega (arith, lt))
get_at x (y ∷ ys) zero lt e = ap Some e
get_at x (y ∷ ys) (suc i) lt e = get_at x ys i (omega (arith, lt)) e

flat_contained : {X Y : Type 0} (f : X → List Y) (xs : List X) (x : X) (y : Y) → Contains xs x → Contains (f x) y → Contains (flat_map f xs) y
flat_contained f xs x y c d = contains_part f xs c.0 x y (get_at x xs c.0 c.1 c.2) d

arg_good : (p : Frames) (a : Arg) → IsArg p a → ((k : ℕ) → Contains (arg_codes a) k → Contains (closure_codes p) k) → AllByRecursion (Good p) (of_arg a)
arg_good p (Argument.Const c) h inside = const_good p c h
arg_good p (Argument.Var x) h inside = tt
arg_good p (Argument.Proc k) h inside = ((inl (inside k (0, omega arith, refl)), h), tt)
arg_good p (Argument.Global g) h inside = tt
arg_good p (Argument.Builtin b) h inside = (tt, tt)
arg_good p (Argument.Op o) h inside = (tt, tt)

args_good : (p : Frames) (args : List Arg) → All (IsArg p) args → ((a : Arg) → Contains args a → (k : ℕ) → Contains (arg_codes a) k → Contains (closure_codes p) k) → AllByRecursion (Good p) (flat_map of_arg args)
args_good p args h inside = all_flat (Good p) of_arg args (λ i a e. arg_good p a (all_at (IsArg p) args i a h e) (inside a (contains_get args i a e)))

made_good : (p : Frames) (op : FrameOp) → OpNamesAreThere p op → ((k : ℕ) → Contains (codes_of op) k → Contains (closure_codes p) k) → AllByRecursion (Good p) (made_by op)
made_good p (Op.Prim to b args) h inside = tt
made_good p (Op.Closure to code kept At.Static) h inside = ((inl (inside code (0, omega arith, refl)), h), tt)
made_good p (Op.Closure to code kept At.Heap) h inside = tt
made_good p (Op.Closure to code kept (At.Frame slot)) h inside = tt
made_good p (Op.ClosureGet to from slot) h inside = tt
made_good p (Op.FrameGet to slot) h inside = tt
made_good p (Op.Cell to value) h inside = tt
made_good p (Op.CellGet to cell) h inside = tt
made_good p (Op.CellSet cell value) h inside = tt
made_good p (Op.GlobalGet to global) h inside = tt
made_good p (Op.GlobalPut global value first) h inside = tt
made_good p (Op.Push kept back) h inside = tt
made_good p Op.Pop h inside = tt
made_good p (Op.CatchOpen to back) h inside = tt
made_good p Op.CatchClose h inside = tt
made_good p (Op.Object to template proc kept) h inside = (h, tt)

abbrev block_codes : Block → List ℕ
block_codes b = flat_map codes_of b.ops.items ++ flat_map arg_codes (block_args b)

block_good : (p : Frames) → IsWhole p → (i : ℕ) (b : Block) → slice_get p.blocks.items i ≡ Some b → AllByRecursion (Good p) (of_block b)
block_good p w i b e =
    let there : BlockNamesAreThere p b = all_at (BlockNamesAreThere p) p.blocks.items i b w.places.blocks e in
    all_join (Good p) (flat_map of_op b.ops.items) (flat_map of_arg (end_args b.last))
    (all_flat (Good p) of_op b.ops.items (λ j op f.
    let names : OpNamesAreThere p op × All (IsArg p) (op_args op) = all_at (λ o. OpNamesAreThere p o × All (IsArg p) (op_args o)) b.ops.items j op there.0 f in
    all_join (Good p) (made_by op) (flat_map of_arg (op_args op))
    (made_good p op names.0 (λ k c. contains_part block_codes p.blocks.items i b k e (Contains-append_left (flat_map codes_of b.ops.items) (flat_map arg_codes (block_args b)) k (contains_part codes_of b.ops.items j op k f c))))
    (args_good p (op_args op) names.1 (λ a d k c. in_args a k (Contains-append_left (flat_map op_args b.ops.items) (end_args b.last) a (contains_part op_args b.ops.items j op a f d)) c))))
    (args_good p (end_args b.last) there.1.1 (λ a d k c. in_args a k (Contains-append_right (flat_map op_args b.ops.items) (end_args b.last) a d) c))
  where
    in_args : (a : Arg) (k : ℕ) → Contains (block_args b) a → Contains (arg_codes a) k → Contains (closure_codes p) k
    in_args a k d c = contains_part block_codes p.blocks.items i b k e (Contains-append_right (flat_map codes_of b.ops.items) (flat_map arg_codes (block_args b)) k (flat_contained arg_codes (block_args b) a k d c))

closures_good : (p : Frames) → IsWhole p → (n : ℕ) → n ≤ proc_count p.shared → AllByRecursion (Good p) (closures_below n)
closures_good p w zero le = tt
closures_good p w (suc k) le =
    let first = w.places.first_codes in
    all_join (Good p) (closures_below k) (thing.Closure k ∷ []) (closures_good p w k (omega (arith, le))) ((inr (omega (arith, le)), omega (arith, le, first)), tt)

named_good : (p : Frames) → IsWhole p → AllByRecursion (Good p) (named p)
named_good p w = all_join (Good p) (closures_below (proc_count p.shared)) (flat_map of_block p.blocks.items) (closures_good p w (proc_count p.shared) (omega arith)) (all_flat (Good p) of_block p.blocks.items (block_good p w))

-- ---- at first

pub first_stage : (p : Frames) (none s : Statics) (things : List Thing) → IsWhole p → none.things.items ≡ [] → things ≡ named p → Adds p (map fixed_of things) none s → IsClosing p 0 (length p.shared.pairs.items) 0 s
first_stage p none s things w e is a = record {
  statics = a.statics;
  named = λ y f. a.has y ∙ (ap (λ ts. has (map fixed_of ts) y || has (fixed_in none) y) is ∙ ap (λ b. b || has (fixed_in none) y) f);
  good = λ y f. from_has (IsGood p) (named p) (named_good p w) y (only y (has (map fixed_of (named p)) y) refl (sym (a.has y ∙ ap (λ ts. has (map fixed_of ts) y || has (fixed_in none) y) is) ∙ f));
  at_templates = λ t lt. absurd (omega (arith, lt));
  at_pairs = λ k le there y part. absurd (true≢false (sym part ∙ ap (λ o. has (map fixed_of (option_map_or (λ pair. of_const pair.0 ++ of_const pair.1) o [])) y) (none_past p.shared.pairs.items k le)));
  at_symbols = λ n lt. absurd (omega (arith, lt));
}
  where
    only : (y : Fixed) (b : Bool) → has (map fixed_of (named p)) y ≡ b → (has (map fixed_of (named p)) y || has (fixed_in none) y) ≡ true → has (map fixed_of (named p)) y ≡ true
    only y true f q = f
    only y false f q = absurd (true≢false (sym q ∙ (ap (λ b. b || has (fixed_in none) y) f ∙ ap (λ ts. has (map fixed_of ts) y) e)))

-- ---- one step of each loop

operations_apart : (z : Fixed) (ops : List ℕ) → ((o : ℕ) → same_fixed (OperationOf o) z ≡ false) → has (map fixed_of (map thing.Operation ops)) z ≡ false
operations_apart z [] h = refl
operations_apart z (o ∷ ops) h = ap (λ b. b || has (map fixed_of (map thing.Operation ops)) z) (h o) ∙ operations_apart z ops h

template_apart : (p : Frames) (t : ℕ) (z : Fixed) → ((o : ℕ) → same_fixed (OperationOf o) z ≡ false) → has (map fixed_of (parts_of p (TemplateOf t))) z ≡ false
template_apart p t z h = by (slice_get p.templates.items t)
  where
    by : (o : Option Template) → has (map fixed_of (option_map_or (λ x. map thing.Operation x.ops) o [])) z ≡ false
    by (Some x) = operations_apart z x.ops h
    by None = refl

next_of : (P : ℕ → Type 0) (t u : ℕ) → P t → (u < t → P u) → u < t + 1 → P u
next_of P t u here below lt = by (u == t) refl
  where
    by : (b : Bool) → (u == t) ≡ b → P u
    by true e = subst P (sym (eqb-true u t e)) here
    by false e = below (let ne : (u ≡ t → ⊥) = (λ q. true≢false (sym (eq-eqb u t q) ∙ e)) in omega (arith, lt, ne))

pub template_step : (p : Frames) (t pairs : ℕ) (old new : Statics) → IsWhole p → IsClosing p t pairs 0 old → AddsParts p (TemplateOf t) old new → IsClosing p (t + 1) pairs 0 new
template_step p t pairs old new w h a = record {
  statics = a.statics;
  named = λ y e. keeps p (TemplateOf t) old new a y (h.named y e);
  good = good_after p (TemplateOf t) old new w a h.good;
  at_templates = λ u lt. next_of (λ n. IsClosedAt p (fixed_in new) (TemplateOf n)) t u (closed_self p (TemplateOf t) old new a (template_apart p t (TemplateOf t) (λ o. refl)))
      (λ less. closed_after p (TemplateOf t) (TemplateOf u) old new a (template_apart p t (TemplateOf u) (λ o. refl)) (h.at_templates u less)) lt;
  at_pairs = λ k le. closed_after p (TemplateOf t) (PairOf k) old new a (template_apart p t (PairOf k) (λ o. refl)) (h.at_pairs k le);
  at_symbols = λ n lt. absurd (omega (arith, lt));
}

const_apart : (k j : ℕ) (c : Const) → StandsBelow k c → k ≤ j → has (map fixed_of (of_const c)) (PairOf j) ≡ false
const_apart k j (Constant.Fix x) b le = refl
const_apart k j (Constant.Char x) b le = refl
const_apart k j Constant.Nil b le = refl
const_apart k j Constant.True b le = refl
const_apart k j (Constant.Sym n) b le = refl
const_apart k j (Constant.Str s) b le = refl
const_apart k j (Constant.Pair i) b le = ap (λ t. t || false) (false_of (i == j) (λ q. let e = eqb-true i j q in absurd (omega (arith, e, b, le))))

const_no_template : (t : ℕ) (c : Const) → has (map fixed_of (of_const c)) (TemplateOf t) ≡ false
const_no_template t (Constant.Fix x) = refl
const_no_template t (Constant.Char x) = refl
const_no_template t Constant.Nil = refl
const_no_template t Constant.True = refl
const_no_template t (Constant.Sym n) = refl
const_no_template t (Constant.Str s) = refl
const_no_template t (Constant.Pair i) = refl

both_apart : (z : Fixed) (a b : Const) → has (map fixed_of (of_const a)) z ≡ false → has (map fixed_of (of_const b)) z ≡ false → has (map fixed_of (of_const a ++ of_const b)) z ≡ false
both_apart z a b f g = ap (λ xs. has xs z) (map-append fixed_of (of_const a) (of_const b)) ∙ (has_joined (map fixed_of (of_const a)) (map fixed_of (of_const b)) z ∙ (ap (λ t. t || has (map fixed_of (of_const b)) z) f ∙ g))

pair_apart : (p : Frames) (k : ℕ) (z : Fixed) → ((c : Const) → StandsBelow k c → has (map fixed_of (of_const c)) z ≡ false) → IsWhole p → has (map fixed_of (parts_of p (PairOf k))) z ≡ false
pair_apart p k z h w = by (slice_get p.shared.pairs.items k) refl
  where
    by : (o : Option (Const × Const)) → slice_get p.shared.pairs.items k ≡ o → has (map fixed_of (option_map_or (λ pair. of_const pair.0 ++ of_const pair.1) o [])) z ≡ false
    by (Some pair) e = let low = w.shared.lower.parts_below k pair e in both_apart z pair.0 pair.1 (h pair.0 low.0) (h pair.1 low.1)
    by None e = refl

pub pair_step : (p : Frames) (templates k n : ℕ) (old new : Statics) → IsWhole p → n ≡ k + 1 → IsClosing p templates n 0 old → AddsParts p (PairOf k) old new → IsClosing p templates k 0 new
pair_step p templates k n old new w is h a = record {
  statics = a.statics;
  named = λ y e. keeps p (PairOf k) old new a y (h.named y e);
  good = good_after p (PairOf k) old new w a h.good;
  at_templates = λ t lt. closed_after p (PairOf k) (TemplateOf t) old new a (pair_apart p k (TemplateOf t) (λ c low. const_no_template t c) w) (h.at_templates t lt);
  at_pairs = λ j le. by j le (j == k) refl;
  at_symbols = λ m lt. absurd (omega (arith, lt));
}
  where
    by : (j : ℕ) → k ≤ j → (b : Bool) → (j == k) ≡ b → IsClosedAt p (fixed_in new) (PairOf j)
    by j le true e = subst (λ i. IsClosedAt p (fixed_in new) (PairOf i)) (sym (eqb-true j k e)) (closed_self p (PairOf k) old new a (pair_apart p k (PairOf k) (λ c low. const_apart k k c low (omega arith)) w))
    by j le false e = closed_after p (PairOf k) (PairOf j) old new a (pair_apart p k (PairOf j) (λ c low. const_apart k j c low le) w)
        (h.at_pairs j (let ne : (j ≡ k → ⊥) = (λ q. true≢false (sym (eq-eqb j k q) ∙ e)) in omega (arith, le, ne, is)))

pub symbol_step : (p : Frames) (templates n : ℕ) (old new : Statics) → IsWhole p → IsClosing p templates 0 n old → AddsParts p (SymbolOf n) old new → IsClosing p templates 0 (n + 1) new
symbol_step p templates n old new w h a = record {
  statics = a.statics;
  named = λ y e. keeps p (SymbolOf n) old new a y (h.named y e);
  good = good_after p (SymbolOf n) old new w a h.good;
  at_templates = λ t lt. closed_after p (SymbolOf n) (TemplateOf t) old new a refl (h.at_templates t lt);
  at_pairs = λ k le. closed_after p (SymbolOf n) (PairOf k) old new a refl (h.at_pairs k le);
  at_symbols = λ m lt. next_of (λ i. IsClosedAt p (fixed_in new) (SymbolOf i)) n m (closed_self p (SymbolOf n) old new a refl) (λ less. closed_after p (SymbolOf n) (SymbolOf m) old new a refl (h.at_symbols m less)) lt;
}
