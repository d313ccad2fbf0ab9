-- What a whole program does at once can be done at once.
use Rattle.std.proofs.Common.{◌≡◌, ◌≢◌, ℕ, zero, suc, ◌+◌, ◌<◌, ◌≤◌, ◌&&◌, nat_le, Bool, true, false, List, [], ◌∷◌, ◌++◌, length, get_or, Option, Some, None, slice_get, refl, sym, ap, subst, ◌∙◌, arith, length-append}
use Rattle.std.specs.Prelude.{All, AllPairs, Contains, nat_lt, if◌then◌else◌}
use Rattle.std.specs.List.{flat_map}
use Rattle.std.specs.Option.{option_map_or}
use Rattle.std.proofs.lemmas.List.{get_or_append_left, get_or-append-add, get_or-map, length-map}
use Rattle.std.proofs.lemmas.List.Elements.{Contains-append_left, Contains-get_or}
use Rattle.std.proofs.lemmas.Bool.{and_parts, leb-true, ltb-true, ltb-false}
use Rattle.std.proofs.lemmas.List.Sums.{AllPass-from_list_all}
use Rattle.t_base.specs.declared.basics.Var.{Var}
use Rattle.word_ir.specs.declared.placed.Home.{Home}
use Rattle.word_ir.specs.declared.placed.Home.TheVariants as home
use Rattle.word_ir.specs.declared.placed.Placed.{Placed}
use Rattle.word_ir.specs.declared.words.WordBlock.{WordBlock}
use Rattle.word_ir.specs.declared.words.WordEnd.{WordEnd}
use Rattle.word_ir.specs.declared.words.WordEnd.TheVariants as last
use Rattle.word_ir.specs.declared.words.Words.{Words}
use Rattle.word_ir.specs.State.{keeper_of, Own, At}
use Rattle.word_ir.specs.Whole.{binders_in}
use Rattle.word_ir.specs.WholePlaced.{IsHome, IsWholePlaced, AreLodged}
use Rattle.parallel_moves.specs.Moves.{scratch, AreParallel}
use Rattle.lap_items.specs.Homes.{home_of, number_of_home, convention}
use Rattle.lap_items.specs.Ends.{is_taken, homes_of_params, homes_of_block, places_of, end_moves}
use Rattle.lap_items.specs.Program.{first_moves, moves_between, CanMove}
use Rattle.lap_items.proofs.Numbers.{IsNear, number_small, same_number}
use Rattle.lap_items.proofs.Parallel.{AreApart, arguments_parallel, between_parallel, nothing_parallel}

-- ---- parts of lists

pairs_left : {X : Type 0} (R : X → X → Type 0) (xs ys : List X) → AllPairs R (xs ++ ys) → AllPairs R xs
pairs_left R xs ys all i j d lt within =
    subst (λ a. R a (get_or xs j d)) (get_or_append_left xs ys d i (omega arith))
    (subst (λ b. R (get_or (xs ++ ys) i d) b) (get_or_append_left xs ys d j within) (all i j d lt (omega (arith, length-append xs ys))))

pairs_right : {X : Type 0} (R : X → X → Type 0) (xs ys : List X) → AllPairs R (xs ++ ys) → AllPairs R ys
pairs_right R xs ys all i j d lt within =
    subst (λ a. R a (get_or ys j d)) (get_or-append-add xs ys i d)
    (subst (λ b. R (get_or (xs ++ ys) (length xs + i) d) b) (get_or-append-add xs ys j d) (all (length xs + i) (length xs + j) d (omega arith) (omega (arith, length-append xs ys))))

params_distinct : (blocks : List WordBlock) (b : ℕ) (block : WordBlock) → AllPairs (λ v w. v ≢ w) (flat_map binders_in blocks) → slice_get blocks b ≡ Some block → AllPairs (λ v w. v ≢ w) block.params
params_distinct [] b block all at = absurd (cc)
params_distinct (first ∷ blocks) zero block all at =
    let same : first ≡ block = cc in
    subst (λ (x : WordBlock). AllPairs (λ v w. v ≢ w) x.params) same (pairs_left (λ v w. v ≢ w) first.params _ (pairs_left (λ v w. v ≢ w) (binders_in first) (flat_map binders_in blocks) all))
params_distinct (first ∷ blocks) (suc b) block all at = params_distinct blocks b block (pairs_right (λ v w. v ≢ w) (binders_in first) (flat_map binders_in blocks) all) at

all_left : {X : Type 0} (P : X → Type 0) (xs ys : List X) → All P (xs ++ ys) → All P xs
all_left P xs ys all k d lt = subst P (get_or_append_left xs ys d k lt) (all k d (omega (arith, length-append xs ys)))

all_right : {X : Type 0} (P : X → Type 0) (xs ys : List X) → All P (xs ++ ys) → All P ys
all_right P xs ys all k d lt = subst P (get_or-append-add xs ys k d) (all (length xs + k) d (omega (arith, length-append xs ys)))

params_all : (P : Var → Type 0) (blocks : List WordBlock) (b : ℕ) (block : WordBlock) → All P (flat_map binders_in blocks) → slice_get blocks b ≡ Some block → All P block.params
params_all P [] b block all at = absurd (cc)
params_all P (first ∷ blocks) zero block all at =
    let same : first ≡ block = cc in
    subst (λ (x : WordBlock). All P x.params) same (all_left P first.params _ (all_left P (binders_in first) (flat_map binders_in blocks) all))
params_all P (first ∷ blocks) (suc b) block all at = params_all P blocks b block (all_right P (binders_in first) (flat_map binders_in blocks) all) at

-- ---- homes

inside : {X : Type 0} (xs : List X) (n : ℕ) (d : X) → n < length xs → slice_get xs n ≡ Some (get_or xs n d)
inside [] n d lt = absurd (omega arith)
inside (x ∷ xs) zero d lt = refl
inside (x ∷ xs) (suc n) d lt = inside xs n d (omega arith)

past : {X : Type 0} (xs : List X) (n : ℕ) (d : X) → length xs ≤ n → get_or xs n d ≡ d
past [] n d out = refl
past (x ∷ xs) zero d out = absurd (omega arith)
past (x ∷ xs) (suc n) d out = past xs n d (omega arith)

kept_at_home : (homes : List Home) (v : Var) → v.0 < length homes → keeper_of homes v ≡ At (home_of homes v)
kept_at_home homes v lt = ap (λ h. option_map_or At h (Own v.0)) (inside homes v.0 (home.D 0) lt)

near_home : (words : Words) (h : Home) → IsHome words h → IsNear (length words.statics.items) h
unfolding IsNear
near_home words (home.D i) is = is
near_home words (home.A i) is = is
near_home words (home.Stack n) is = is
near_home words (home.Static place) is = is

pub homes_small : (placed : Placed) → IsWholePlaced placed → (n : ℕ) → number_of_home (get_or placed.at.items n (home.D 0)) < scratch
homes_small placed whole n = by (nat_lt n (length placed.at.items)) refl where
  by : (b : Bool) → nat_lt n (length placed.at.items) ≡ b → number_of_home (get_or placed.at.items n (home.D 0)) < scratch
  by true e =
      let lt : n < length placed.at.items = ltb-true n (length placed.at.items) e in
      number_small (length placed.words.statics.items) (get_or placed.at.items n (home.D 0)) (whole.words.places.few) (near_home placed.words (get_or placed.at.items n (home.D 0)) (whole.homes n (home.D 0) lt))
  by false e =
      let out : length placed.at.items ≤ n = ltb-false n (length placed.at.items) e in
      let none : get_or placed.at.items n (home.D 0) ≡ home.D 0 = past placed.at.items n (home.D 0) out in
      subst (λ h. number_of_home h < scratch) (sym none) (omega arith)

home_small : (placed : Placed) → IsWholePlaced placed → (v : Var) → number_of_home (home_of placed.at.items v) < scratch
home_small placed whole v = homes_small placed whole v.0

-- two variables of a block's start
two_apart : (placed : Placed) → IsWholePlaced placed → (b : ℕ) (block : WordBlock) → slice_get placed.words.blocks.items b ≡ Some block → (v w : Var) → Contains block.params v → Contains block.params w
    → v.0 < length placed.at.items → w.0 < length placed.at.items → v ≢ w → number_of_home (home_of placed.at.items v) ≢ number_of_home (home_of placed.at.items w)
two_apart placed whole b block at v w has_v has_w in_v in_w other same =
    let homes : List Home = placed.at.items in
    let starts : AreLodged _ homes (block.params ++ _) = whole.lodgings.starts b block at in
    let is : home_of homes v ≡ home_of homes w =
    same_number (length placed.words.statics.items) (home_of homes v) (home_of homes w) whole.words.places.few
    (near_home placed.words (home_of homes v) (whole.homes v.0 (home.D 0) in_v)) (near_home placed.words (home_of homes w) (whole.homes w.0 (home.D 0) in_w)) same in
    starts.0 v w (Contains-append_left block.params _ v has_v) (Contains-append_left block.params _ w has_w) other (kept_at_home homes v in_v ∙ ap At is ∙ sym (kept_at_home homes w in_w))

pub params_apart : (placed : Placed) → IsWholePlaced placed → (b : ℕ) (block : WordBlock) → slice_get placed.words.blocks.items b ≡ Some block → AreApart (homes_of_params placed.at.items block)
params_apart placed whole b block at =
    let none : Var = record { 0 = 0 } in
    let each : All (λ v. v.0 < length placed.at.items) block.params = params_all (λ v. v.0 < length placed.at.items) placed.words.blocks.items b block whole.each at in
    let distinct : AllPairs (λ v w. v ≢ w) block.params = params_distinct placed.words.blocks.items b block whole.words.scopes.bound_once at in
    let homes : List Home = homes_of_params placed.at.items block in
    let long : length homes ≡ length block.params = length-map block.params (home_of placed.at.items) in
    record {
      apart = λ i j d lt within.
          let in_j : j < length block.params = omega (arith, long) in
          let in_i : i < length block.params = omega (arith, long) in
          subst (λ x. number_of_home x ≢ number_of_home (get_or homes j d)) (sym (get_or-map (home_of placed.at.items) block.params i none d in_i))
          (subst (λ y. number_of_home (home_of placed.at.items (get_or block.params i none)) ≢ number_of_home y) (sym (get_or-map (home_of placed.at.items) block.params j none d in_j))
          (two_apart placed whole b block at (get_or block.params i none) (get_or block.params j none) (Contains-get_or block.params i none in_i) (Contains-get_or block.params j none in_j)
          (each i none in_i) (each j none in_j) (distinct i j none lt in_j)));
      small = λ k d lt.
          let in_k : k < length block.params = omega (arith, long) in
          subst (λ x. number_of_home x < scratch) (sym (get_or-map (home_of placed.at.items) block.params k none d in_k)) (home_small placed whole (get_or block.params k none));
    }

-- a list whose numbers rise is apart
rises : ℕ → List Home → Bool
rises n [] = true
rises n (h ∷ places) = nat_le n (number_of_home h) && rises (number_of_home h + 1) places

least : (n : ℕ) (places : List Home) → rises n places ≡ true → (k : ℕ) (d : Home) → k < length places → n ≤ number_of_home (get_or places k d)
unfolding rises
least n [] e k d lt = absurd (omega arith)
least n (h ∷ places) e zero d lt = leb-true n (number_of_home h) (and_parts (nat_le n (number_of_home h)) (rises (number_of_home h + 1) places) e).0
least n (h ∷ places) e (suc k) d lt =
    let first : n ≤ number_of_home h = leb-true n (number_of_home h) (and_parts (nat_le n (number_of_home h)) (rises (number_of_home h + 1) places) e).0 in
    let later : number_of_home h + 1 ≤ number_of_home (get_or places k d) = least (number_of_home h + 1) places (and_parts (nat_le n (number_of_home h)) (rises (number_of_home h + 1) places) e).1 k d (omega arith) in
    omega (arith, first, later)

rising_apart : (n : ℕ) (places : List Home) → rises n places ≡ true → AllPairs (λ a b. number_of_home a ≢ number_of_home b) places
unfolding rises
rising_apart n [] e i j d lt within = absurd (omega arith)
rising_apart n (h ∷ places) e i zero d lt within = absurd (omega arith)
rising_apart n (h ∷ places) e zero (suc j) d lt within =
    let later : number_of_home h + 1 ≤ number_of_home (get_or places j d) = least (number_of_home h + 1) places (and_parts (nat_le n (number_of_home h)) (rises (number_of_home h + 1) places) e).1 j d (omega arith) in
    λ same. absurd (omega (arith, later, same))
rising_apart n (h ∷ places) e (suc i) (suc j) d lt within = rising_apart (number_of_home h + 1) places (and_parts (nat_le n (number_of_home h)) (rises (number_of_home h + 1) places) e).1 i j d (omega arith) (omega arith)

pub convention_apart : AreApart convention
unfolding rises
convention_apart = record {
  apart = rising_apart 0 convention refl;
  small = λ k d lt. ltb-true (number_of_home (get_or convention k d)) scratch (AllPass-from_list_all (λ a. nat_lt (number_of_home a) scratch) convention refl k d lt);
}

block_apart : (placed : Placed) → IsWholePlaced placed → (b : ℕ) → AreApart (homes_of_block placed b)
block_apart placed whole b = by (slice_get placed.words.blocks.items b) refl where
  by : (found : Option WordBlock) → slice_get placed.words.blocks.items b ≡ found → AreApart (option_map_or (homes_of_params placed.at.items) found [])
  by (Some block) at = params_apart placed whole b block at
  by None at = record { apart = λ i j d lt within. absurd (omega arith); small = λ k d lt. absurd (omega arith) }

places_apart : (placed : Placed) → IsWholePlaced placed → (b : ℕ) → AreApart (places_of placed b)
unfolding places_of
places_apart placed whole b = by (is_taken placed.words b) where
  by : (taken : Bool) → AreApart (if taken then convention else homes_of_block placed b)
  by true = convention_apart
  by false = block_apart placed whole b

leaves : (placed : Placed) → IsWholePlaced placed → (end : WordEnd) → AreParallel (end_moves placed end)
unfolding end_moves
leaves placed whole (last.Jump block args) = arguments_parallel placed.at.items args (places_of placed block) (homes_small placed whole) (places_apart placed whole block)
leaves placed whole (last.Enter code args) = arguments_parallel placed.at.items args convention (homes_small placed whole) convention_apart
leaves placed whole (last.Test kind a b at_true at_false) = nothing_parallel
leaves placed whole last.Stop = nothing_parallel

enters : (placed : Placed) → IsWholePlaced placed → (b : ℕ) (block : WordBlock) → slice_get placed.words.blocks.items b ≡ Some block → AreParallel (first_moves placed b block)
unfolding first_moves
enters placed whole b block at = by (is_taken placed.words b) where
  by : (taken : Bool) → AreParallel (if taken then moves_between convention (homes_of_params placed.at.items block) else [])
  by true = between_parallel convention (homes_of_params placed.at.items block) convention_apart.small (params_apart placed whole b block at)
  by false = nothing_parallel

pub whole_can_move : (placed : Placed) → IsWholePlaced placed → CanMove placed
whole_can_move placed whole = record { enters = enters placed whole; leaves = λ b block at. leaves placed whole block.last }
