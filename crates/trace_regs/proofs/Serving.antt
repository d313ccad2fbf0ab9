-- Static words of their own serve as homes.
use Rattle.std.proofs.Common.{◌≡◌, ◌≢◌, ℕ, zero, suc, ◌+◌, ◌<◌, ◌≤◌, Bool, List, [], ◌∷◌, ◌++◌, length, replicate, take, drop, get_or, slice_get, filter, true, false, Option, Some, None, All, Contains, refl, sym, ap, subst, ◌∙◌, arith, ⊎_elim}
use Rattle.std.specs.Prelude.{IsSomeAnd}
use Rattle.std.specs.List.{AllByRecursion, flat_map}
use Rattle.std.specs.Option.{option_map_or}
use Rattle.std.proofs.Math.Seq.{drop-append_seam, take-append_seam}
use Rattle.std.proofs.lemmas.List.Elements.{All-cons, All-weaker, All-append, All-replicate, All-contains, All-contains_itself, Contains-append_left, Contains-append_right, Contains-append_cases}
use Rattle.std.proofs.lemmas.Option.{slice_get_within, slice_get-get_or}
use Rattle.t_base.specs.declared.basics.Var.{Var}
use Rattle.word_ir.specs.declared.operands.Operand.{Operand}
use Rattle.word_ir.specs.declared.operands.Operand.TheVariants as operand
use Rattle.word_ir.specs.declared.placed.Home.{Home}
use Rattle.word_ir.specs.declared.placed.Home.TheVariants as home
use Rattle.word_ir.specs.declared.placed.Placed.{Placed}
use Rattle.word_ir.specs.declared.words.StaticWord.{StaticWord}
use Rattle.word_ir.specs.declared.words.StaticWord.TheVariants as first
use Rattle.word_ir.specs.declared.words.WordBlock.{WordBlock}
use Rattle.word_ir.specs.declared.words.Words.{Words}
use Rattle.word_ir.specs.Lines.{Line, lines_of, operands_of, operand_static, uses_of, binds_of, exits_of, statics_of}
use Rattle.word_ir.specs.State.{Keeper, Own, At, keeper_of}
use Rattle.word_ir.specs.Whole.{each_line, open_blocks, static_place, named_statics, IsOperand, IsStatic, IsLineThere, most_statics, HasPlaces, vars_at, binders_in, binders, Includes, IsWhole}
use Rattle.word_ir.specs.WholePlaced.{IsHome, static_home, without, needed, LiesWithin, depth_behind, AreLodged, IsLodgedFrom, HasLodgings, StandBehind, IsWholePlaced, IsPlacedOf, statics_with_homes}
use Rattle.trace_regs.specs.Homes.{IsOutside, Serves}
use Rattle.trace_regs.specs.Assignment.{IsBetween, HaveHomes, added, IsAssigned}
use Rattle.trace_regs.proofs.Blocks.{contains_flat, contains_at}
use Rattle.trace_regs.proofs.WholeCopies.{lines_name, IsLonger, statics_count, binders_same, named_same, longer_whole}

-- ---- lists

contains_from_flat : {X Y : Type 0} (f : X → List Y) (xs : List X) (y : Y) → Contains (flat_map f xs) y → (x : X) × Contains xs x × Contains (f x) y
contains_from_flat f [] y c = absurd (omega (arith, c.1))
contains_from_flat f (x ∷ xs) y c =
    ⊎_elim
    (λ h. (x, (0, omega arith, refl), h))
    (λ h. let r = contains_from_flat f xs y h in let lt : r.1.0 < length xs = r.1.1 in (r.0, (suc r.1.0, omega arith, r.1.2), r.2))
    (Contains-append_cases (f x) (flat_map f xs) y c)

all_flat : {X Y : Type 0} (P : Y → Type 0) (f : X → List Y) (xs : List X) → ((x : X) → Contains xs x → All P (f x)) → All P (flat_map f xs)
all_flat P f [] h = λ k d lt. absurd (omega arith)
all_flat P f (x ∷ xs) h =
    All-append P (f x) (flat_map f xs) (h x (0, omega arith, refl)) (all_flat P f xs (λ z c. let lt : c.0 < length xs = c.1 in h z (suc c.0, omega arith, c.2)))

contains_cons : (w : Var) (vars : List Var) (v : Var) → Contains vars v → Contains (w ∷ vars) v
contains_cons w vars v c = let lt : c.0 < length vars = c.1 in (suc c.0, omega arith, c.2)

contains_tail : (w : Var) (some vars : List Var) (v : Var) (k : ℕ) → k < length (w ∷ some) → get_or (w ∷ some) k v ≡ v → (Contains some v → Contains vars v) → Contains (w ∷ vars) v
contains_tail w some vars v zero lt e h = (0, omega arith, e)
contains_tail w some vars v (suc k) lt e h = contains_cons w vars v (h (k, omega arith, e))

contains_filtered : (p : Var → Bool) (vars : List Var) (v : Var) → Contains (filter p vars) v → Contains vars v
contains_filtered p [] v c = c
contains_filtered p (w ∷ vars) v c = by (p w) refl (contains_filtered p vars v) c
  where
    by : (b : Bool) → p w ≡ b → (Contains (filter p vars) v → Contains vars v) → Contains (filter p (w ∷ vars)) v → Contains (w ∷ vars) v
    by true q h c = let same : filter p (w ∷ vars) ≡ w ∷ filter p vars = rw q refl in let d = subst (λ l. Contains l v) same c in contains_tail w (filter p vars) vars v d.0 d.1 d.2 h
    by false q h c = let same : filter p (w ∷ vars) ≡ filter p vars = rw q refl in contains_cons w vars v (h (subst (λ l. Contains l v) same c))

none_within : {X : Type 0} (xs : List X) (b : ℕ) → b < length xs → slice_get xs b ≡ None → ⊥
none_within [] b lt e = omega arith
none_within (x ∷ xs) zero lt e = cc
none_within (x ∷ xs) (suc b) lt e = none_within xs b (omega arith) e

-- ---- homes

between_home : (words : Words) (low high : ℕ) (h : Home) → high ≤ length words.statics.items → IsBetween low high h → IsHome words h
between_home words low high (home.D i) le is = omega (arith, is)
between_home words low high (home.A i) le is = absurd is
between_home words low high (home.Stack n) le is = absurd is
between_home words low high (home.Static p) le is = omega (arith, le, is.1)

between_outside : (low high : ℕ) (h : Home) → IsBetween low high h → IsOutside h
between_outside low high (home.D i) is = tt
between_outside low high (home.A i) is = tt
between_outside low high (home.Stack n) is = is
between_outside low high (home.Static p) is = tt

between_behind : (low high : ℕ) (h : Home) → IsBetween low high h → All (λ p. low ≤ p) (static_home h)
between_behind low high (home.D i) is = λ k d lt. absurd (omega arith)
between_behind low high (home.A i) is = λ k d lt. absurd (omega arith)
between_behind low high (home.Stack n) is = λ k d lt. absurd (omega arith)
between_behind low high (home.Static p) is = All-cons (λ q. low ≤ q) p [] is.0 (λ k d lt. absurd (omega arith))

-- ---- static words that are named

operand_names : (words : Words) (x : Operand) → IsOperand words x → All (λ p. p < length words.statics.items) (operand_static x)
operand_names words (operand.Var v) is = λ k d lt. absurd (omega arith)
operand_names words (operand.Word n) is = λ k d lt. absurd (omega arith)
operand_names words (operand.Static p) is = All-cons (λ q. q < length words.statics.items) p [] is (λ k d lt. absurd (omega arith))
operand_names words (operand.Code b) is = λ k d lt. absurd (omega arith)
operand_names words (operand.Slot n) is = λ k d lt. absurd (omega arith)

static_names : (words : Words) (w : StaticWord) → IsStatic words w → All (λ p. p < length words.statics.items) (static_place w)
static_names words (first.Word n) is = λ k d lt. absurd (omega arith)
static_names words (first.Static p) is = All-cons (λ q. q < length words.statics.items) p [] is (λ k d lt. absurd (omega arith))
static_names words (first.Code b) is = λ k d lt. absurd (omega arith)

listed : {X : Type 0} (P : X → Type 0) (xs : List X) (x : X) → AllByRecursion P xs → Contains xs x → P x
listed P xs x h c = by xs c.0 c.1 c.2 h
  where
    by : (xs : List _) (k : ℕ) → k < length xs → get_or xs k x ≡ x → AllByRecursion P xs → P x
    by [] k lt e h = absurd (omega arith)
    by (y ∷ ys) zero lt e h = subst P e h.0
    by (y ∷ ys) (suc k) lt e h = by ys k (omega arith) e h.1

names_below : (words : Words) → HasPlaces words → All (λ p. p < length words.statics.items) (named_statics words)
names_below words w =
    let P : ℕ → Type 0 = λ p. p < length words.statics.items in
    All-append P (flat_map static_place words.statics.items) (each_line statics_of words)
    (all_flat P static_place words.statics.items (λ x c. static_names words x (listed (IsStatic words) words.statics.items x w.statics c)))
    (all_flat P (λ (b : WordBlock). flat_map statics_of (lines_of b)) words.blocks.items
    (λ b c. all_flat P statics_of (lines_of b)
    (λ line d.
    let there : IsLineThere words line = All-contains (IsLineThere words) (lines_of b) line (All-contains (λ (x : WordBlock). All (IsLineThere words) (lines_of x)) words.blocks.items b w.lines c) d in
    all_flat P operand_static (operands_of line) (λ x e. operand_names words x (listed (IsOperand words) (operands_of line) x there.0 e)))))

-- ---- variables with homes of their own

module _ (low : ℕ) (vars : List Var) (homes : List Home) (have : HaveHomes low (length vars) vars homes) where
  -- where a variable of the list is
  at_home : (v : Var) (c : Contains vars v) → keeper_of homes v ≡ At (home.Static (low + c.0))
  at_home v c =
      let found : slice_get vars c.0 ≡ Some v = slice_get-get_or vars c.0 v c.1 ∙ ap (λ x. Some x) c.2 in
      ap (λ (o : Option Home). option_map_or At o (Own v.0)) (have.each c.0 v c.1 found)

  own_apart : (v w : Var) → Contains vars v → Contains vars w → v ≢ w → keeper_of homes v ≢ keeper_of homes w
  own_apart v w c d ne same =
      let keepers : At (home.Static (low + c.0)) ≡ At (home.Static (low + d.0)) = sym (at_home v c) ∙ same ∙ at_home w d in
      let places : low + c.0 ≡ low + d.0 = static_is (low + c.0) (low + d.0) keepers in
      let index : c.0 ≡ d.0 = omega (arith, places) in
      let first : get_or vars c.0 v ≡ get_or vars d.0 v = ap (λ (i : ℕ). get_or vars i v) index in
      let second : get_or vars d.0 v ≡ get_or vars d.0 w = default vars d.0 v w d.1 in
      ne (sym c.2 ∙ first ∙ second ∙ d.2)
    where
      static_is : (i j : ℕ) → At (home.Static i) ≡ At (home.Static j) → i ≡ j
      static_is i j e = cc

      default : (xs : List Var) (i : ℕ) (a b : Var) → i < length xs → get_or xs i a ≡ get_or xs i b
      default [] i a b lt = absurd (omega arith)
      default (x ∷ xs) zero a b lt = refl
      default (x ∷ xs) (suc i) a b lt = default xs i a b (omega arith)

  lies : (depth : ℕ) (v : Var) → Contains vars v → LiesWithin depth (keeper_of homes v)
  lies depth v c = subst (λ (k : Keeper). LiesWithin depth k) (sym (at_home v c)) tt

  lodged : (depth : ℕ) (some : List Var) → ((v : Var) → Contains some v → Contains vars v) → AreLodged depth homes some
  lodged depth some within = (
    λ v w c d ne. own_apart v w (within v c) (within w d) ne,
    λ k d lt. lies depth (get_or some k d) (within (get_or some k d) (k, lt, default_same some k d lt)),
  )
    where
      default_same : (xs : List Var) (i : ℕ) (a : Var) → i < length xs → get_or xs i (get_or xs i a) ≡ get_or xs i a
      default_same [] i a lt = absurd (omega arith)
      default_same (x ∷ xs) zero a lt = refl
      default_same (x ∷ xs) (suc i) a lt = default_same xs i a (omega arith)

  -- ---- what lives

  -- at most these live at any block
  abbrev Bounded : List (List Var) → Type 0
  Bounded live = (b : ℕ) (v : Var) → Contains (vars_at live b) v → Contains vars v

  -- lines that use and bind these alone
  abbrev pub AreOf : List Line → Type 0
  AreOf lines = (line : Line) → Contains lines line → ((v : Var) → Contains (uses_of line) v → Contains vars v) × ((v : Var) → Contains (binds_of line) v → Contains vars v)

  rest_of : (line : Line) (rest : List Line) → AreOf (line ∷ rest) → AreOf rest
  rest_of line rest h l c = let lt : c.0 < length rest = c.1 in h l (suc c.0, omega arith, c.2)

  needed_of : (live : List (List Var)) → Bounded live → (lines : List Line) → AreOf lines → (v : Var) → Contains (needed live lines) v → Contains vars v
  needed_of live bounded [] h v c = absurd (omega (arith, c.1))
  needed_of live bounded (line ∷ rest) h v c =
      let uses : List Var = uses_of line in
      let turned : List Var = flat_map (vars_at live) (exits_of line) in
      let behind : List Var = without (binds_of line) (needed live rest) in
      ⊎_elim
      (λ front. ⊎_elim
      (λ used. (h line (0, omega arith, refl)).0 v used)
      (λ there. let r = contains_from_flat (vars_at live) (exits_of line) v there in bounded r.0 v r.2)
      (Contains-append_cases uses turned v front))
      (λ late. needed_of live bounded rest (rest_of line rest h) v (contains_filtered _ (needed live rest) v late))
      (Contains-append_cases (uses ++ turned) behind v c)

  lodged_lines : (live : List (List Var)) → Bounded live → (depth : ℕ) (lines : List Line) → AreOf lines → IsLodgedFrom live [] homes depth lines
  lodged_lines live bounded depth [] h = tt
  lodged_lines live bounded depth (line ∷ rest) h = (
    λ k d lt. omega arith,
    lodged (depth_behind depth line) (binds_of line ++ needed live rest)
        (λ v c. ⊎_elim
        (λ bound. (h line (0, omega arith, refl)).1 v bound)
        (λ late. needed_of live bounded rest (rest_of line rest h) v late)
        (Contains-append_cases (binds_of line) (needed live rest) v c)),
    lodged_lines live bounded (depth_behind depth line) rest (rest_of line rest h),
  )

-- the same for each block
pub same_at : (n b : ℕ) (vars : List Var) → b < n → vars_at (replicate n vars) b ≡ vars
same_at zero b vars lt = absurd (omega arith)
same_at (suc n) zero vars lt = refl
same_at (suc n) (suc b) vars lt = same_at n b vars (omega arith)

same_within : (n b : ℕ) (vars : List Var) (v : Var) → Contains (vars_at (replicate n vars) b) v → Contains vars v
same_within zero b vars v c = absurd (omega (arith, c.1))
same_within (suc n) zero vars v c = c
same_within (suc n) (suc b) vars v c = same_within n b vars v c

-- ---- what is assigned serves

module _ (words : Words) (placed : Placed) (whole : IsWhole words) (few : statics_with_homes words ≤ most_statics) (is : IsAssigned words placed) where
  abbrev own : ℕ
  own = length words.statics.items

  abbrev count : ℕ
  count = length (binders words)

  abbrev homes : List Home
  homes = placed.at.items

  abbrev blocks : List WordBlock
  blocks = placed.words.blocks.items

  longer : IsLonger words placed.words (added words)
  longer = record { shared = is.shared; statics = is.statics; blocks = is.blocks; entry = is.entry }

  total : length placed.words.statics.items ≡ own + added words
  total = statics_count words placed.words (added words) longer

  have : HaveHomes own (length (binders words)) (binders words) homes
  have = is.homes

  room : own + added words ≤ most_statics
  room = let f : statics_with_homes words ≤ most_statics = few in omega (arith, f)

  whole_words : IsWhole placed.words
  whole_words = longer_whole words placed.words (added words) longer whole room

  -- ---- lines of the program

  uses_in : (b : ℕ) (block : WordBlock) → slice_get blocks b ≡ Some block → AreOf own (binders words) homes have (lines_of block)
  uses_in b block found line c = (
    λ v d. All-contains (Contains (binders words)) (each_line uses_of words) v (whole.scopes).bound (subst (λ (l : List Var). Contains l v) uses_same
        (contains_flat (λ (x : WordBlock). flat_map uses_of (lines_of x)) blocks block v (contains_at blocks b block found) (contains_flat uses_of (lines_of block) line v c d))),
    λ v d. subst (λ (l : List Var). Contains l v) (binders_same words placed.words (added words) longer)
        (contains_flat binders_in blocks block v (contains_at blocks b block found) (Contains-append_right block.params (flat_map binds_of (lines_of block)) v (contains_flat binds_of (lines_of block) line v c d))),
  )
    where
      uses_same : each_line uses_of placed.words ≡ each_line uses_of words
      uses_same = lines_name uses_of words.blocks.items placed.words.blocks.items is.blocks

  params_in : (b : ℕ) (block : WordBlock) → slice_get blocks b ≡ Some block → (v : Var) → Contains block.params v → Contains (binders words) v
  params_in b block found v c =
      subst (λ (l : List Var). Contains l v) (binders_same words placed.words (added words) longer)
      (contains_flat binders_in blocks block v (contains_at blocks b block found) (Contains-append_left block.params (flat_map binds_of (lines_of block)) v c))

  -- ---- what lives

  live : List (List Var)
  live = replicate (length blocks) (binders words)

  bounded : (b : ℕ) (v : Var) → Contains (vars_at live b) v → Contains (binders words) v
  unfolding live
  bounded b v c = same_within (length blocks) b (binders words) v c

  needed_in : (b : ℕ) (block : WordBlock) → slice_get blocks b ≡ Some block → (v : Var) → Contains (needed live (lines_of block)) v → Contains (binders words) v
  needed_in b block found v c = needed_of own (binders words) homes have live bounded (lines_of block) (uses_in b block found) v c

  open_lives : (b : ℕ) → b < length blocks → IsSomeAnd (slice_get blocks b) (λ (block : WordBlock). Includes (vars_at live b) (needed live (lines_of block)))
  unfolding live
  open_lives b lt = by (slice_get blocks b) refl
    where
      by : (o : Option WordBlock) → slice_get blocks b ≡ o → IsSomeAnd o (λ (block : WordBlock). Includes (vars_at live b) (needed live (lines_of block)))
      by None e = absurd (none_within blocks b lt e)
      by (Some block) e =
          All-weaker (Contains (needed live (lines_of block))) (Contains (vars_at live b))
          (λ v c. subst (λ (l : List Var). Contains l v) (sym (same_at (length blocks) b (binders words) lt)) (needed_in b block e v c)) (needed live (lines_of block)) (All-contains_itself (needed live (lines_of block)))

  lodgings : HasLodgings placed.words homes
  lodgings = record {
    live = live;
    depths = [];
    opened = All-weaker (λ b. b < length blocks) (λ b. IsSomeAnd (slice_get blocks b) (λ (block : WordBlock). Includes (vars_at live b) (needed live (lines_of block)))) open_lives (open_blocks placed.words) whole_words.places.opened;
    empty = λ k d lt. refl;
    starts = λ b block found. lodged own (binders words) homes have 0 (block.params ++ needed live (lines_of block))
        (λ v c. ⊎_elim (λ p. params_in b block found v p) (λ n. needed_in b block found v n) (Contains-append_cases block.params (needed live (lines_of block)) v c));
    lines = λ b block found. lodged_lines own (binders words) homes have live bounded 0 (lines_of block) (uses_in b block found);
  }

  behind : StandBehind own placed.words homes
  behind = record {
    behind = all_flat (λ p. own ≤ p) static_home homes (λ h c. between_behind own (own + count) h (All-contains (IsBetween own (own + count)) homes h have.only c));
    named = subst (λ (l : List ℕ). All (λ p. p < own) l) (sym (named_same words placed.words (added words) longer)) (names_below words whole.places);
    free = subst (λ (l : List StaticWord). All (λ w. w ≡ first.Word 0) l) (sym (ap (drop own) is.statics ∙ drop-append_seam words.statics.items (replicate (added words) (first.Word 0))))
        (All-replicate (λ w. w ≡ first.Word 0) (added words) (first.Word 0) refl);
  }

  each_bound : (v : Var) → Contains (binders words) v → v.0 < length homes
  each_bound v c =
      slice_get_within homes v.0 (home.Static (own + c.0)) (have.each c.0 v c.1 (slice_get-get_or (binders words) c.0 v c.1 ∙ ap (λ x. Some x) c.2))

  whole_placed : IsWholePlaced placed
  whole_placed = record {
    words = whole_words;
    homes = All-weaker (IsBetween own (own + count)) (IsHome placed.words) (λ h b. between_home placed.words own (own + count) h (omega (arith, total)) b) homes have.only;
    each = subst (λ (l : List Var). All (λ v. v.0 < length homes) l) (sym (binders_same words placed.words (added words) longer)) (contained_all (binders words) each_bound);
    own = own;
    apart = behind;
    even = omega (arith, total);
    lodgings = lodgings;
  }
    where
      contained_all : (vars : List Var) → ((v : Var) → Contains vars v → v.0 < length homes) → All (λ v. v.0 < length homes) vars
      contained_all vars h = All-weaker (Contains vars) (λ v. v.0 < length homes) h vars (All-contains_itself vars)

  placed_of : IsPlacedOf words placed
  placed_of = record {
    shared = is.shared;
    statics = ap (take own) is.statics ∙ take-append_seam words.statics.items (replicate (added words) (first.Word 0));
    blocks = is.blocks;
    entry = is.entry;
    apart = behind;
  }

  pub assigned_serves : Serves words placed
  assigned_serves = record {
    whole = whole_placed;
    of = placed_of;
    outside = All-weaker (IsBetween own (own + count)) IsOutside (λ h b. between_outside own (own + count) h b) homes have.only;
  }
