-- What was gathered is laid out.
use Rattle.std.proofs.Common.{◌≡◌, ℕ, zero, suc, cond, ◌+◌, ◌*◌, ◌<◌, ◌≤◌, ◌==◌, nat_lt, Bool, true, false, ◌||◌, if◌then◌else◌, List, [], ◌∷◌, ◌++◌, length, map, slice_get, slice_index_or, count_by, All, Contains, Option, Some, None, is_some, option_map, IsTrue, refl, sym, ap, ◌∙◌, subst, arith}
use Rattle.std.specs.List.{AllByRecursion, flat_map}
use Rattle.std.specs.Option.{option_map_or}
use Rattle.std.proofs.lemmas.Bool.{eqb-true, eq-eqb, true≢false}
use Rattle.std.proofs.lemmas.Bool.Decides.{nat_tests}
use Rattle.std.proofs.lemmas.List.{map-append}
use Rattle.std.proofs.lemmas.List.Sums.{sum_by-cons}
use Rattle.std.proofs.lemmas.Option.{slice_get_within, get_or_from_slice_get}
use Rattle.t_base.specs.declared.shared_parts.Const.{Const}
use Rattle.t_base.specs.declared.shared_parts.Const.TheVariants as Constant
use Rattle.t_base.specs.declared.shared_parts.Global1.{Global1}
use Rattle.t_base.specs.declared.shared_parts.GlobalKind.{GlobalKind}
use Rattle.t_base.specs.declared.shared_parts.GlobalKind.TheVariants as Kind
use Rattle.t_prim.specs.SharedParts.{IsConst, IsNameText}
use Rattle.t_prim.specs.Identity.{number_of}
use Rattle.t_prim.specs.Operands.{in_range}
use Rattle.t_prim.specs.Values.{Val, Text, Literal, PrintName, val_of, text_of, first_store}
use Rattle.cps_ir.specs.declared.args.Arg.{Arg}
use Rattle.cps_ir.specs.declared.args.Arg.TheVariants as Argument
use Rattle.word_ir.specs.Storage.{STATICS_START}
use Rattle.frame_ir.specs.declared.forms.Place.TheVariants as At
use Rattle.frame_ir.specs.declared.forms.FrameOp.{FrameOp}
use Rattle.frame_ir.specs.declared.forms.FrameOp.TheVariants as Op
use Rattle.frame_ir.specs.declared.forms.Block.{Block}
use Rattle.frame_ir.specs.declared.forms.Template.{Template}
use Rattle.frame_ir.specs.declared.forms.Frames.{Frames}
use Rattle.frame_ir.specs.Arguments.{is_proc, proc_count, number_among, code_of_global}
use Rattle.frame_ir.specs.Calls.{methods_of}
use Rattle.frame_ir.specs.Parts.{op_args, end_args}
use Rattle.frame_ir.specs.Running.{bare_state, static_closures}
use Rattle.frame_ir.specs.Whole.{IsWhole, IsArg, OpNamesAreThere, BlockNamesAreThere}
use Rattle.frame_words.specs.Segments.{AreDistinct, place_of, total_of}
use Rattle.frame_words.specs.Layouts.{Layout, Fixed, ClosureOf, BuiltinOf, OperationOf, TextOf, SymbolOf, PairOf, TemplateOf, same_fixed, fixed_words, fixed_place, fixed_address}
use Rattle.frame_words.specs.ValueWords.{tagged, or_zero, word_for}
use Rattle.frame_words.specs.Holding.{IsLaidOut, IsFixedThere, AreKnown, parts_of}
use Rattle.operand_drafts.specs.Places.{word_at}
use Rattle.prim_holds.specs.Operands.{IsNamed, fixed_word}
use Rattle.word_selection.specs.Selections.{IsOpNamed}
use Rattle.static_names.specs.declared.things.Thing.{Thing}
use Rattle.static_names.specs.declared.things.Thing.TheVariants as thing
use Rattle.static_names.specs.Named.{fixed_of, of_const, of_arg, made_by, of_op, of_block, closures_below, named}
use Rattle.static_tables.specs.declared.statics.Statics.{Statics}
use Rattle.static_tables.specs.Tables.{bytes_of, methods_in, words_of, front_of, tag_for, address_in, word_in, has, index_of, fixed_in}
use Rattle.static_tables.specs.Gathered.{IsGood, IsCode, IsClosedAt, IsClosing}
use Rattle.static_tables.specs.Gathered as gathered
use Rattle.static_layouts.specs.Layouts.{Entries, layout_of, IsGathered, AreBlockNames, IsSetOut}

-- ---- places are the same

eqb_self : (n : ℕ) → (n == n) ≡ true
eqb_self n = eq-eqb n n refl

fixed_self : (x : Fixed) → same_fixed x x ≡ true
fixed_self (ClosureOf k) = eqb_self k
fixed_self (BuiltinOf b) = eqb_self (number_of b)
fixed_self (OperationOf o) = eqb_self o
fixed_self (TextOf (Literal k)) = eqb_self k
fixed_self (TextOf (PrintName n)) = eqb_self n
fixed_self (SymbolOf n) = eqb_self n
fixed_self (PairOf k) = eqb_self k
fixed_self (TemplateOf t) = eqb_self t

place_alike : (size other : Fixed → ℕ) → ((x : Fixed) → size x ≡ other x) → (xs : List Fixed) (x : Fixed) → place_of same_fixed size xs x ≡ place_of same_fixed other xs x
place_alike size other h [] x = refl
place_alike size other h (y ∷ ys) x =
    ap (λ o. if same_fixed y x then Some 0 else option_map (λ n. size y + n) o) (place_alike size other h ys x) ∙ ap (λ k. if same_fixed y x then Some 0 else option_map (λ n. k + n) (place_of same_fixed other ys x)) (h y)

total_alike : (size other : Fixed → ℕ) → ((x : Fixed) → size x ≡ other x) → (xs : List Fixed) → total_of size xs ≡ total_of other xs
total_alike size other h [] = refl
total_alike size other h (y ∷ ys) = let a = h y in let b = total_alike size other h ys in omega (arith, a, b)

distinct_alike : (size other : Fixed → ℕ) → ((x : Fixed) → size x ≡ other x) → (xs : List Fixed) → AreDistinct same_fixed other xs → AreDistinct same_fixed size xs
distinct_alike size other h [] d = tt
distinct_alike size other h (y ∷ ys) d = (place_alike size other h ys y ∙ d.0, distinct_alike size other h ys d.1)

has_place : (size : Fixed → ℕ) (xs : List Fixed) (y : Fixed) → is_some (place_of same_fixed size xs y) ≡ has xs y
has_place size [] y = refl
has_place size (x ∷ xs) y = by (same_fixed x y) (place_of same_fixed size xs y) (has_place size xs y)
  where
    by : (b : Bool) (o : Option ℕ) → is_some o ≡ has xs y → is_some (if b then Some 0 else option_map (λ n. size x + n) o) ≡ (b || has xs y)
    by true o e = refl
    by false (Some n) e = e
    by false None e = e

-- ---- lists

all_has : (P : Fixed → Type 0) (xs : List Fixed) → ((y : Fixed) → has xs y ≡ true → P y) → AllByRecursion P xs
all_has P [] h = tt
all_has P (x ∷ xs) h = (h x (ap (λ b. b || has xs x) (fixed_self x)), all_has P xs (λ y e. h y (ap (λ b. same_fixed x y || b) e ∙ or_true (same_fixed x y))))
  where
    or_true : (b : Bool) → (b || true) ≡ true
    or_true true = refl
    or_true false = refl

has_joined : (xs ys : List Fixed) (y : Fixed) → has (xs ++ ys) y ≡ (has xs y || has ys y)
has_joined [] ys y = refl
has_joined (x ∷ xs) ys y = by (same_fixed x y) (has_joined xs ys y)
  where
    by : (b : Bool) → has (xs ++ ys) y ≡ (has xs y || has ys y) → (b || has (xs ++ ys) y) ≡ ((b || has xs y) || has ys y)
    by true e = refl
    by false e = e

abbrev Has : List Thing → Fixed → Type 0
Has ts y = has (map fixed_of ts) y ≡ true

has_left : (ts us : List Thing) (y : Fixed) → Has ts y → Has (ts ++ us) y
has_left ts us y e = ap (λ xs. has xs y) (map-append fixed_of ts us) ∙ (has_joined (map fixed_of ts) (map fixed_of us) y ∙ ap (λ b. b || has (map fixed_of us) y) e)

has_right : (ts us : List Thing) (y : Fixed) → Has us y → Has (ts ++ us) y
has_right ts us y e = ap (λ xs. has xs y) (map-append fixed_of ts us) ∙ (has_joined (map fixed_of ts) (map fixed_of us) y ∙ (ap (λ b. has (map fixed_of ts) y || b) e ∙ or_true (has (map fixed_of ts) y)))
  where
    or_true : (b : Bool) → (b || true) ≡ true
    or_true true = refl
    or_true false = refl

has_one : (t : Thing) → Has (t ∷ []) (fixed_of t)
has_one t = ap (λ b. b || false) (fixed_self (fixed_of t))

has_flat : {X : Type 0} (f : X → List Thing) (xs : List X) (i : ℕ) (x : X) (y : Fixed) → slice_get xs i ≡ Some x → Has (f x) y → Has (flat_map f xs) y
has_flat f [] i x y e h = absurd (cc)
has_flat f (z ∷ xs) zero x y e h = let is : z ≡ x = cc in has_left (f z) (flat_map f xs) y (subst (λ w. Has (f w) y) (sym is) h)
has_flat f (z ∷ xs) (suc i) x y e h = has_right (f z) (flat_map f xs) y (has_flat f xs i x y e h)

has_closure : (n k : ℕ) → k < n → Has (closures_below n) (ClosureOf k)
has_closure zero k lt = absurd (omega (arith, lt))
has_closure (suc n) k lt = by (k == n) refl (has_closure n k)
  where
    by : (b : Bool) → (k == n) ≡ b → (k < n → Has (closures_below n) (ClosureOf k)) → Has (closures_below (suc n)) (ClosureOf k)
    by true e h = has_right (closures_below n) (thing.Closure n ∷ []) (ClosureOf k) (subst (λ m. Has (thing.Closure m ∷ []) (ClosureOf k)) (eqb-true k n e) (has_one (thing.Closure k)))
    by false e h = has_left (closures_below n) (thing.Closure n ∷ []) (ClosureOf k) (h (let ne : (k ≡ n → ⊥) = (λ q. true≢false (sym (eq-eqb k n q) ∙ e)) in omega (arith, lt, ne)))

all_at : {X : Type 0} (P : X → Type 0) (xs : List X) (i : ℕ) (x : X) → All P xs → slice_get xs i ≡ Some x → P x
all_at P xs i x h e = subst P (get_or_from_slice_get xs i x x e) (h i x (slice_get_within xs i x e))

get_at : {X : Type 0} (ys : List X) (i : ℕ) (d : X) → i < length ys → slice_get ys i ≡ Some (slice_index_or ys i d)
get_at [] i d lt = absurd (omega (arith, lt))
get_at (y ∷ ys) zero d lt = refl
get_at (y ∷ ys) (suc i) d lt = get_at ys i d (omega (arith, lt))

-- all elements, each with its place
all_of : {X : Type 0} (P : X → Type 0) (xs : List X) → ((i : ℕ) (x : X) → slice_get xs i ≡ Some x → P x) → All P xs
all_of P xs h = λ i d lt. h i (slice_index_or xs i d) (get_at xs i d lt)

each_of : {X : Type 0} (P : X → Type 0) (xs : List X) → ((i : ℕ) (x : X) → slice_get xs i ≡ Some x → P x) → AllByRecursion P xs
each_of P [] h = tt
each_of P (x ∷ xs) h = (h 0 x refl, each_of P xs (λ i y e. h (suc i) y e))

each_from : {X : Type 0} (P : X → Type 0) (xs : List X) → All P xs → AllByRecursion P xs
each_from P xs h = each_of P xs (λ i x e. all_at P xs i x h e)

there_within : {X : Type 0} (xs : List X) (k : ℕ) → k < length xs → (x : X) × (slice_get xs k ≡ Some x)
there_within [] k lt = absurd (omega (arith, lt))
there_within (x ∷ xs) zero lt = (x, refl)
there_within (x ∷ xs) (suc k) lt = there_within xs k (omega (arith, lt))

-- ---- codes of globals

number_found : {X : Type 0} (test : X → Bool) (n : ℕ) (xs : List X) (g : ℕ) (x : X) → slice_get xs g ≡ Some x → test x ≡ true → (code : ℕ) × (number_among test n xs g ≡ Some code)
number_found test n [] g x e h = absurd (cc)
number_found test n (y ∷ xs) zero x e h = let same : y ≡ x = cc in (n, ap (λ b. if b then Some n else None) (ap test same ∙ h))
number_found test n (y ∷ xs) (suc g) x e h = number_found test (if test y then suc n else n) xs g x e h

count_true : {X : Type 0} (test : X → Bool) (x : X) (xs : List X) → test x ≡ true → count_by test (x ∷ xs) ≡ suc (count_by test xs)
count_true test x xs e = let one : ◌≡◌ {A = ℕ} (cond (test x) 1 0) 1 = ap (λ b. cond b 1 0) e in let c = sum_by-cons (λ y. cond (test y) 1 0) x xs in omega (arith, c, one)

count_false : {X : Type 0} (test : X → Bool) (x : X) (xs : List X) → test x ≡ false → count_by test (x ∷ xs) ≡ count_by test xs
count_false test x xs e = let none : ◌≡◌ {A = ℕ} (cond (test x) 1 0) 0 = ap (λ b. cond b 1 0) e in let c = sum_by-cons (λ y. cond (test y) 1 0) x xs in omega (arith, c, none)

number_below : {X : Type 0} (test : X → Bool) (n : ℕ) (xs : List X) (g code : ℕ) → number_among test n xs g ≡ Some code → code < n + count_by test xs
number_below test n [] g code e = absurd (cc)
number_below test n (y ∷ xs) zero code e = by (test y) refl e
  where
    by : (b : Bool) → test y ≡ b → (if b then Some n else None) ≡ Some code → code < n + count_by test (y ∷ xs)
    by true f q = let same : n ≡ code = cc in let c = count_true test y xs f in omega (arith, same, c)
    by false f q = absurd (cc)
number_below test n (y ∷ xs) (suc g) code e = by (test y) refl e (number_below test (suc n) xs g code) (number_below test n xs g code)
  where
    by : (b : Bool) → test y ≡ b → number_among test (if b then suc n else n) xs g ≡ Some code → (number_among test (suc n) xs g ≡ Some code → code < suc n + count_by test xs)
        → (number_among test n xs g ≡ Some code → code < n + count_by test xs) → code < n + count_by test (y ∷ xs)
    by true f q h k = let r = h q in let c = count_true test y xs f in omega (arith, r, c)
    by false f q h k = let r = k q in let c = count_false test y xs f in omega (arith, r, c)

-- ---- the state at first

closure_at : (n : ℕ) (blocks : List Block) (k : ℕ) → k < length blocks → slice_get (static_closures n blocks) k ≡ Some (record { code = n + k; captured = [] })
closure_at n [] k lt = absurd (omega (arith, lt))
closure_at n (b ∷ blocks) zero lt = ap (λ m. Some (record { code = m; captured = [] })) (omega arith)
closure_at n (b ∷ blocks) (suc k) lt = closure_at (suc n) blocks k (omega (arith, lt)) ∙ ap (λ m. Some (record { code = m; captured = [] })) (omega arith)

mapped_at : {X Y : Type 0} (f : X → Y) (xs : List X) (k : ℕ) (x : X) → slice_get xs k ≡ Some x → slice_get (map f xs) k ≡ Some (f x)
mapped_at f [] k x e = absurd (cc)
mapped_at f (z ∷ xs) zero x e = let same : z ≡ x = cc in ap (λ w. Some (f w)) same
mapped_at f (z ∷ xs) (suc k) x e = mapped_at f xs k x e

bytes_there : (o : Option (List ℕ)) → is_some o ≡ true → o ≡ Some (option_map_or (λ bytes. bytes) o [])
bytes_there (Some bytes) e = refl
bytes_there None e = absurd (cc)

-- ---- the whole

module _ (p : Frames) (e : Entries) (listed : ℕ → ℕ) (s : Statics) (w : IsWhole p) (h : IsGathered p s) where
  abbrev l : Layout
  l = layout_of p e listed (fixed_in s)

  sizes : (x : Fixed) → fixed_words l x ≡ words_of p x
  sizes (ClosureOf k) = refl
  sizes (BuiltinOf b) = refl
  sizes (OperationOf o) = refl
  sizes (TextOf t) = refl
  sizes (SymbolOf n) = refl
  sizes (PairOf k) = refl
  sizes (TemplateOf t) = refl

  -- what is there has a place
  placed : (x : Fixed) → has (fixed_in s) x ≡ true → is_some (fixed_place l x) ≡ true
  placed x q = has_place (fixed_words l) (fixed_in s) x ∙ q

  has_it : (x : Fixed) → is_some (fixed_place l x) ≡ true → has (fixed_in s) x ≡ true
  has_it x q = sym (has_place (fixed_words l) (fixed_in s) x) ∙ q

  named_is : (x : Fixed) → Has (named p) x → is_some (fixed_place l x) ≡ true
  named_is x q = placed x (h.named x q)

  words : (x : Fixed) → word_at s.table.items (index_of x) ≡ or_zero (tagged (tag_for x) (fixed_address l x))
  words x = h.statics.table x ∙ ap (λ o. or_zero (tagged (tag_for x) (option_map (λ n. STATICS_START + 4 * (front_of p + n)) o))) (sym (place_alike (fixed_words l) (words_of p) sizes (fixed_in s) x))

  addressed : (tag : ℕ) (x : Fixed) → is_some (fixed_place l x) ≡ true → is_some (tagged tag (fixed_address l x)) ≡ true
  addressed tag x q = by (fixed_place l x) q
    where
      by : (o : Option ℕ) → is_some o ≡ true → is_some (tagged tag (option_map (λ n. STATICS_START + 4 * (front_of p + n)) o)) ≡ true
      by (Some n) f = refl
      by None f = f

  -- ---- words of constants

  some_if : (b : Bool) (n : ℕ) → b ≡ true → is_some (if b then Some n else None) ≡ true
  some_if true n q = refl
  some_if false n q = absurd (cc)

  small_code : (c : ℕ) → c < 128 → nat_lt c 128 ≡ true
  small_code c lt = grind (arith, nat_tests)

  const_word : (c : Const) → IsConst p.shared c → ((y : Fixed) → Has (of_const c) y → is_some (fixed_place l y) ≡ true) → is_some (fixed_word l (val_of c)) ≡ true
  const_word (Constant.Fix x) i there = some_if (in_range x) _ i
  const_word (Constant.Char c) i there = some_if (nat_lt c 128) _ (small_code c i)
  const_word Constant.Nil i there = refl
  const_word Constant.True i there = refl
  const_word (Constant.Sym n) i there = addressed 2 (SymbolOf n.0) (there (SymbolOf n.0) (has_one (thing.Symbol n.0)))
  const_word (Constant.Str k) i there = addressed 2 (TextOf (Literal k)) (there (TextOf (Literal k)) (has_one (thing.Literal k)))
  const_word (Constant.Pair k) i there = addressed 3 (PairOf k) (there (PairOf k) (has_one (thing.Pair k)))

  -- at first no pair stands on the heap
  const_first : (c : Const) → word_for l (bare_state p) (val_of c) ≡ fixed_word l (val_of c)
  const_first (Constant.Fix x) = refl
  const_first (Constant.Char c) = refl
  const_first Constant.Nil = refl
  const_first Constant.True = refl
  const_first (Constant.Sym n) = refl
  const_first (Constant.Str k) = refl
  const_first (Constant.Pair k) = refl

  -- ---- the things that stand there

  fixed_there : (x : Fixed) → has (fixed_in s) x ≡ true → IsGood p x → IsFixedThere l (bare_state p) x
  fixed_there (ClosureOf k) q g = closure_at 0 p.blocks.items k g.1 ∙ ap (λ m. Some (record { code = m; captured = [] })) (omega arith)
  fixed_there (TextOf t) q g = bytes_there (text_of (first_store p.shared) t) g
  fixed_there (PairOf k) q g =
      let at = there_within p.shared.pairs.items k g in
      let is : IsConst p.shared at.0.0 × IsConst p.shared at.0.1 = all_at (λ (c : Const × Const). IsConst p.shared c.0 × IsConst p.shared c.1) p.shared.pairs.items k at.0 w.shared.pairs at.1 in
      let part : (y : Fixed) → Has (of_const at.0.0 ++ of_const at.0.1) y → is_some (fixed_place l y) ≡ true =
      (λ y f. placed y (h.at_pairs k (omega arith) q y (ap (λ o. has (map fixed_of (option_map_or (λ pair. of_const pair.0 ++ of_const pair.1) o [])) y) at.1 ∙ f))) in (
        (val_of at.0.0, val_of at.0.1),
        mapped_at (λ (c : Const × Const). (val_of c.0, val_of c.1)) p.shared.pairs.items k at.0 at.1,
        (
          ap is_some (const_first at.0.0) ∙ const_word at.0.0 is.0 (λ y f. part y (has_left (of_const at.0.0) (of_const at.0.1) y f)),
          (ap is_some (const_first at.0.1) ∙ const_word at.0.1 is.1 (λ y f. part y (has_right (of_const at.0.0) (of_const at.0.1) y f)), tt),
        ),
      )
  fixed_there (SymbolOf n) q g = tt
  fixed_there (BuiltinOf b) q g = tt
  fixed_there (OperationOf o) q g = tt
  fixed_there (TemplateOf t) q g = tt

  -- ---- the layout

  characters : (t : Text) → AllByRecursion (λ byte. byte < 128) (l.bytes t)
  characters (Literal k) = by (slice_get p.shared.strings.items k) refl
    where
      by : (o : Option (List ℕ)) → slice_get p.shared.strings.items k ≡ o → AllByRecursion (λ byte. byte < 128) (option_map_or (λ bytes. bytes) o [])
      by (Some bytes) f = each_from (λ byte. byte < 128) bytes (all_at (λ bs. All (λ b. b < 128) bs) p.shared.strings.items k bytes w.shared.strings f)
      by None f = tt
  characters (PrintName n) = by (slice_get p.shared.names n) refl
    where
      by : (o : Option (List ℕ)) → slice_get p.shared.names n ≡ o → AllByRecursion (λ byte. byte < 128) (option_map_or (λ bytes. bytes) o [])
      by (Some bytes) f =
          let text : IsNameText bytes = all_at IsNameText p.shared.names n bytes w.shared.names f in
          each_of (λ byte. byte < 128) bytes (λ i b q. let r = all_at (λ c. (33 ≤ c) × (c ≤ 126)) bytes i b text.1 q in let low = r.1 in omega (arith, low))
      by None f = tt

  laid_out : IsLaidOut l
  laid_out = record {
    few = let t = total_alike (fixed_words l) (words_of p) sizes (fixed_in s) in let c = h.statics.words in let f = h.statics.few in omega (arith, t, c, f);
    distinct = distinct_alike (fixed_words l) (words_of p) sizes (fixed_in s) h.statics.distinct;
    names = λ n q. let there = has_it (SymbolOf n) q in placed (TextOf (PrintName n)) (h.at_symbols n (h.good (SymbolOf n) there) there (TextOf (PrintName n)) (has_one (thing.PrintName n)));
    characters = λ t q. characters t;
  }

  -- ---- what is named

  proc_kind : (k : GlobalKind) → k ≡ Kind.Proc → is_proc k ≡ true
  proc_kind k q = ap is_proc q

  global_named : (g : ℕ) → option_map (λ info. info.kind) (slice_get p.shared.globals.items g) ≡ Some Kind.Proc → IsNamed l p.shared (Argument.Global g)
  global_named g q = by (slice_get p.shared.globals.items g) refl q
    where
      by : (o : Option Global1) → slice_get p.shared.globals.items g ≡ o → option_map (λ info. info.kind) o ≡ Some Kind.Proc → IsNamed l p.shared (Argument.Global g)
      by (Some info) f k =
          let kind : info.kind ≡ Kind.Proc = cc in
          let r = number_found (λ (x : Global1). is_proc x.kind) 0 p.shared.globals.items g info f (proc_kind info.kind kind) in
          let low = number_below (λ (x : Global1). is_proc x.kind) 0 p.shared.globals.items g r.0 r.1 in
          let code : code_of_global p.shared g ≡ Some r.0 = r.1 in
          rw code (addressed 2 (ClosureOf r.0) (named_is (ClosureOf r.0) (has_left (closures_below (proc_count p.shared)) (flat_map of_block p.blocks.items) (ClosureOf r.0) (has_closure (proc_count p.shared) r.0 (omega (arith, low))))))
      by None f k = absurd (cc)

  arg_named : (a : Arg) → IsArg p a → ((y : Fixed) → Has (of_arg a) y → is_some (fixed_place l y) ≡ true) → IsNamed l p.shared a
  arg_named (Argument.Const c) i there = const_word c i there
  arg_named (Argument.Var x) i there = tt
  arg_named (Argument.Proc k) i there = addressed 2 (ClosureOf k) (there (ClosureOf k) (has_one (thing.Closure k)))
  arg_named (Argument.Global g) i there = global_named g i
  arg_named (Argument.Builtin b) i there = addressed 2 (BuiltinOf b) (there (BuiltinOf b) (has_one (thing.Builtin b)))
  arg_named (Argument.Op o) i there = addressed 2 (OperationOf o) (there (OperationOf o) (has_one (thing.Operation o)))

  args_named : (args : List Arg) → All (IsArg p) args → ((y : Fixed) → Has (flat_map of_arg args) y → is_some (fixed_place l y) ≡ true) → AllByRecursion (IsNamed l p.shared) args
  args_named args i there = each_of (IsNamed l p.shared) args (λ j a q. arg_named a (all_at (IsArg p) args j a i q) (λ y f. there y (has_flat of_arg args j a y q f)))

  made_named : (op : FrameOp) → ((y : Fixed) → Has (made_by op) y → is_some (fixed_place l y) ≡ true) → IsOpNamed l op
  made_named (Op.Prim to b args) there = tt
  made_named (Op.Closure to code kept At.Static) there = there (ClosureOf code) (has_one (thing.Closure code))
  made_named (Op.Closure to code kept At.Heap) there = tt
  made_named (Op.Closure to code kept (At.Frame slot)) there = tt
  made_named (Op.ClosureGet to from slot) there = tt
  made_named (Op.FrameGet to slot) there = tt
  made_named (Op.Cell to value) there = tt
  made_named (Op.CellGet to cell) there = tt
  made_named (Op.CellSet cell value) there = tt
  made_named (Op.GlobalGet to global) there = tt
  made_named (Op.GlobalPut global value first) there = tt
  made_named (Op.Push kept back) there = tt
  made_named Op.Pop there = tt
  made_named (Op.CatchOpen to back) there = tt
  made_named Op.CatchClose there = tt
  made_named (Op.Object to template proc kept) there = there (TemplateOf template) (has_one (thing.Template template))

  block_named : (i : ℕ) (b : Block) → slice_get p.blocks.items i ≡ Some b → AreBlockNames l p b
  block_named i b e =
      let there : BlockNamesAreThere p b = all_at (BlockNamesAreThere p) p.blocks.items i b w.places.blocks e in (
        all_of (λ op. IsOpNamed l op × AllByRecursion (IsNamed l p.shared) (op_args op)) b.ops.items (λ j op f.
            let names : OpNamesAreThere p op × All (IsArg p) (op_args op) = all_at (λ o. OpNamesAreThere p o × All (IsArg p) (op_args o)) b.ops.items j op there.0 f in (
              made_named op (λ y q. in_ops j op f y (has_left (made_by op) (flat_map of_arg (op_args op)) y q)),
              args_named (op_args op) names.1 (λ y q. in_ops j op f y (has_right (made_by op) (flat_map of_arg (op_args op)) y q)),
            )),
        args_named (end_args b.last) there.1.1 (λ y q. in_block y (has_right (flat_map of_op b.ops.items) (flat_map of_arg (end_args b.last)) y q)),
      )
    where
      in_block : (y : Fixed) → Has (of_block b) y → is_some (fixed_place l y) ≡ true
      in_block y q = named_is y (has_right (closures_below (proc_count p.shared)) (flat_map of_block p.blocks.items) y (has_flat of_block p.blocks.items i b y e q))

      in_ops : (j : ℕ) (op : FrameOp) → slice_get b.ops.items j ≡ Some op → (y : Fixed) → Has (of_op op) y → is_some (fixed_place l y) ≡ true
      in_ops j op f y q = in_block y (has_left (flat_map of_op b.ops.items) (flat_map of_arg (end_args b.last)) y (has_flat of_op b.ops.items j op y f q))

  -- ---- methods

  abbrev first_of : Option (ℕ × ℕ) → ℕ
  first_of (Some m) = m.0
  first_of None = 0

  method_operation : (ops codes : List ℕ) (o code i : ℕ) → slice_get (methods_of ops codes) i ≡ Some (o, code) → Has (map thing.Operation ops) (OperationOf o)
  method_operation [] codes o code i q = absurd (cc)
  method_operation (a ∷ ops) [] o code i q = absurd (cc)
  method_operation (a ∷ ops) (c ∷ codes) o code zero q = let same : a ≡ o = ap first_of q in has_left (thing.Operation a ∷ []) (map thing.Operation ops) (OperationOf o) (subst (λ n. Has (thing.Operation n ∷ []) (OperationOf o)) (sym same) (has_one (thing.Operation o)))
  method_operation (a ∷ ops) (c ∷ codes) o code (suc i) q = has_right (thing.Operation a ∷ []) (map thing.Operation ops) (OperationOf o) (method_operation ops codes o code i q)

  get_contained : (xs : List (ℕ × ℕ)) (x : ℕ × ℕ) (i : ℕ) → i < length xs → slice_index_or xs i x ≡ x → slice_get xs i ≡ Some x
  get_contained xs x i lt q = get_at xs i x lt ∙ ap Some q

  operation_there : (t o code : ℕ) → is_some (fixed_place l (TemplateOf t)) ≡ true → Contains (methods_in p t) (o, code) → is_some (fixed_place l (OperationOf o)) ≡ true
  operation_there t o code q c =
      let here = has_it (TemplateOf t) q in
      placed (OperationOf o) (h.at_templates t (h.good (TemplateOf t) here) here (OperationOf o) (by (slice_get p.templates.items t) c))
    where
      by : (x : Option Template) → Contains (option_map_or (λ y. methods_of y.ops y.codes) x []) (o, code) → Has (option_map_or (λ y. map thing.Operation y.ops) x []) (OperationOf o)
      by (Some x) d = method_operation x.ops x.codes o code d.0 (get_contained (methods_of x.ops x.codes) (o, code) d.0 d.1 d.2)
      by None d = absurd (omega (arith, d.1))

  set_out : IsSetOut p l s
  set_out = record {
    laid_out = laid_out;
    fixed = all_has (IsFixedThere l (bare_state p)) (fixed_in s) (λ y q. fixed_there y q (h.good y q));
    blocks = all_of (AreBlockNames l p) p.blocks.items block_named;
    codes = λ k q. (h.good (ClosureOf k) (has_it (ClosureOf k) q)).0;
    operations = operation_there;
    globals = λ k lt. named_is (ClosureOf k) (has_left (closures_below (proc_count p.shared)) (flat_map of_block p.blocks.items) (ClosureOf k) (has_closure (proc_count p.shared) k lt));
    symbols = λ n q. h.good (SymbolOf n) (has_it (SymbolOf n) q);
    words = words;
  }

pub gathered_is_set_out : (p : Frames) (e : Entries) (listed : ℕ → ℕ) (s : Statics) → IsWhole p → IsGathered p s → IsSetOut p (layout_of p e listed (fixed_in s)) s
gathered_is_set_out p e listed s w h = set_out p e listed s w h
