-- The machine at boot stands for the start of the words.
use Rattle.std.proofs.Common.{◌≡◌, ℕ, zero, suc, ◌+◌, ◌-◌, ◌*◌, ◌/◌, ◌%◌, ◌^◌, ◌<◌, ◌≤◌, ◌==◌, ◌||◌, Bool, true, false, List, [], ◌∷◌, ◌++◌, length, take, drop, replicate, Option, Some, None, slice_get, refl, ap, sym, subst, ◌∙◌, arith}
use Rattle.std.specs.Prelude.{option_map, All}
use Rattle.std.specs.Int.{w32, from_be_bytes, to_be_bytes}
use Rattle.std.specs.List.{flat_map, list_any, AllByRecursion}
use Rattle.std.proofs.lemmas.Bool.{eq-eqb, le-leb, lt-ltb, le-ltb}
use Rattle.std.proofs.lemmas.List.{drop-replicate, take-replicate, length-replicate, get_or-replicate}
use Rattle.std.proofs.lemmas.Nat.{from_be_bytes-to_be_bytes_4}
use Rattle.std.proofs.lemmas.Option.{slice_get_within, get_or_from_slice_get, slice_get-map}
use Rattle.word_ir.specs.declared.placed.Home.{Home}
use Rattle.word_ir.specs.declared.placed.Home.TheVariants as home
use Rattle.word_ir.specs.declared.placed.Placed.{Placed}
use Rattle.word_ir.specs.declared.words.StaticWord.{StaticWord}
use Rattle.word_ir.specs.declared.words.StaticWord.TheVariants as first
use Rattle.word_ir.specs.Word.{Word, Number}
use Rattle.word_ir.specs.Storage.{STATICS_START, HEAP_START, STACK_START, static_at, place_from}
use Rattle.word_ir.specs.State.{Setting, At, held, start, static_word, stack_end}
use Rattle.word_ir.specs.Step.{placed_in}
use Rattle.word_ir.specs.Whole.{IsStatic, static_code, each_line}
use Rattle.word_ir.specs.Lines.{codes_of}
use Rattle.word_ir.specs.WholePlaced.{IsHome, IsWholePlaced}
use Rattle.static_bytes.specs.Bytes.{long_of, static_bytes}
use Rattle.static_bytes.proofs.Order.{four_each, stand_in_order}
use Rattle.m68020_step.specs.Boot.{is_size, boot_of}
use Rattle.m68020_step.specs.Step.{State}
use Rattle.m68020_step.specs.Storage.{bytes_in, bytes_at, long_at}
use Rattle.lap_items.specs.Ends.{is_taken}
use Rattle.lap_runs.specs.Represents.{real, IsKnown, IsThere, HasWord, Represents}
use Rattle.lap_paths.specs.Paths.{Assembly}
use Rattle.lap_paths.proofs.Puts.{real_small}
use Rattle.lap_paths.proofs.WordStorage.{Stands, InStatics, InHeap, InStack, stands, is_whole, visible}
use Rattle.lap_starts.specs.Laws.{StartsRepresented, HomesServe}

-- ---- lists

all_at : {X : Type 0} (P : X → Type 0) (xs : List X) (k : ℕ) (x : X) → AllByRecursion P xs → slice_get xs k ≡ Some x → P x
all_at P [] k x all here = absurd (cc)
all_at P (y ∷ xs) zero x all here = let same : y ≡ x = cc in subst P same all.0
all_at P (y ∷ xs) (suc k) x all here = all_at P xs k x all.1 here

each_at : {X : Type 0} (P : X → Type 0) (xs : List X) (k : ℕ) (x : X) → All P xs → slice_get xs k ≡ Some x → P x
each_at P xs k x all here = subst P (get_or_from_slice_get xs k x x here) (all k x (slice_get_within xs k x here))

same_replicated : (n i : ℕ) (x w : Word) → slice_get (replicate n x) i ≡ Some w → x ≡ w
same_replicated n i x w here =
    sym (get_or-replicate n i x x (omega (arith, slice_get_within (replicate n x) i w here, length-replicate n x))) ∙ get_or_from_slice_get (replicate n x) i w x here

or_left : (a b : Bool) → a ≡ true → (a || b) ≡ true
or_left true b h = refl
or_left false b h = absurd (cc)

or_right : (a b : Bool) → b ≡ true → (a || b) ≡ true
or_right true b h = refl
or_right false b h = h

or_more : (x y z : Bool) → (x || y) ≡ true → (y ≡ true → z ≡ true) → (x || z) ≡ true
or_more true y z h k = refl
or_more false y z h k = k h

any_left : (p : ℕ → Bool) (xs ys : List ℕ) → list_any p xs ≡ true → list_any p (xs ++ ys) ≡ true
any_left p [] ys h = absurd (cc)
any_left p (x ∷ xs) ys h = or_more (p x) (list_any p xs) (list_any p (xs ++ ys)) h (any_left p xs ys)

any_right : (p : ℕ → Bool) (xs ys : List ℕ) → list_any p ys ≡ true → list_any p (xs ++ ys) ≡ true
any_right p [] ys h = h
any_right p (x ∷ xs) ys h = or_right (p x) (list_any p (xs ++ ys)) (any_right p xs ys h)

-- the code of a static word is taken
code_listed : (statics : List StaticWord) (k block : ℕ) → slice_get statics k ≡ Some (first.Code block) → list_any (λ c. c == block) (flat_map static_code statics) ≡ true
code_listed [] k block here = absurd (cc)
code_listed (x ∷ statics) zero block here =
    let same : first.Code block ≡ x = cc in
    subst (λ y. list_any (λ c. c == block) (static_code y ++ flat_map static_code statics) ≡ true) same (or_left (block == block) _ (eq-eqb block block refl))
code_listed (x ∷ statics) (suc k) block here = any_right (λ c. c == block) (static_code x) (flat_map static_code statics) (code_listed statics k block here)

-- ---- long words of storage at boot

long_in : (from : ℕ) (bytes : List ℕ) (at long : ℕ) → from ≤ at → at - from + 4 ≤ length bytes → long < 2 ^ 32 → take 4 (drop (at - from) bytes) ≡ to_be_bytes w32 long → option_map (λ b. from_be_bytes w32 b) (bytes_in from bytes at 4) ≡ Some long
long_in from bytes at long low high small is =
    rw (le-leb from at low, le-leb (at - from + 4) (length bytes) high) (ap (λ (b : List ℕ). Some (from_be_bytes w32 b)) is ∙ ap (λ (n : ℕ). Some n) (from_be_bytes-to_be_bytes_4 long small))

zeros_there : (n d : ℕ) → d + 4 ≤ n → take 4 (drop d (replicate n 0)) ≡ to_be_bytes w32 0
zeros_there n d le = ap (take 4) (drop-replicate d n 0) ∙ take-replicate 4 (n - d) 0 (omega (arith, le))

module _ (placed : Placed) (a : Assembly) (heap stack entry : ℕ) (whole : IsWholePlaced placed) (heap_size : is_size heap ≡ true) (stack_size : is_size stack ≡ true) where
  abbrev m : Setting
  m = placed_in placed (record { heap = heap; stack = stack })

  abbrev statics : List StaticWord
  statics = placed.words.statics.items

  abbrev t : State
  t = boot_of a.bytes (static_bytes statics a.labels) entry (record { heap = heap; stack = stack })

  real_static : (x : StaticWord) → real a.labels (static_word x) ≡ long_of a.labels x
  real_static (first.Word n) = refl
  real_static (first.Static p) = refl
  real_static (first.Code b) = refl

  known_static : (k : ℕ) (x : StaticWord) → slice_get statics k ≡ Some x → IsKnown m (static_word x)
  unfolding is_taken
  known_static k (first.Word n) here = all_at (IsStatic placed.words) statics k (first.Word n) whole.words.places.statics here
  known_static k (first.Static p) here = omega arith
  known_static k (first.Code b) here =
      let lt : b < length placed.words.blocks.items = all_at (IsStatic placed.words) statics k (first.Code b) whole.words.places.statics here in
      rw (lt-ltb b (length placed.words.blocks.items) lt) (any_left (λ c. c == b) (flat_map static_code statics) (each_line codes_of placed.words) (code_listed statics k b here))

  static_long : (at k : ℕ) (x : StaticWord) → slice_get statics k ≡ Some x → STATICS_START ≤ at → at < HEAP_START → at - STATICS_START ≡ 4 * k → long_at t.storage at ≡ Some (long_of a.labels x)
  unfolding long_at bytes_at
  static_long at k x here low high place =
      let inside = slice_get_within statics k x here in
      let small : long_of a.labels x < 2 ^ 32 = subst (λ (n : ℕ). n < 2 ^ 32) (real_static x) (real_small a m (static_word x) (known_static k x here)) in
      rw (le-ltb at STATICS_START low, lt-ltb at HEAP_START high)
      (long_in STATICS_START (static_bytes statics a.labels) at (long_of a.labels x) low (omega (arith, place, inside, four_each statics a.labels)) small
      (ap (λ (d : ℕ). take 4 (drop d (static_bytes statics a.labels))) place ∙ stand_in_order statics a.labels k x here))

  words_hold : (at : ℕ) (w : Word) → Stands (start m).storage at w → at % 4 ≡ 0 → (long_at t.storage at ≡ Some (real a.labels w)) × IsKnown m w
  unfolding long_at bytes_at
  words_hold at w (InStatics low high there) by_four = by (slice_get statics (place_from STATICS_START at)) refl (sym (slice_get-map static_word statics (place_from STATICS_START at)) ∙ there)
    where
      by : (o : Option StaticWord) → slice_get statics (place_from STATICS_START at) ≡ o → option_map static_word o ≡ Some w → (long_at t.storage at ≡ Some (real a.labels w)) × IsKnown m w
      by None e h = absurd (cc)
      by (Some x) e h =
          let word : static_word x ≡ w = cc in
          subst (λ y. (long_at t.storage at ≡ Some (real a.labels y)) × IsKnown m y) word
          (static_long at (place_from STATICS_START at) x e low high (omega (arith, low, by_four)) ∙ ap (λ (n : ℕ). Some n) (sym (real_static x)), known_static (place_from STATICS_START at) x e)
  words_hold at w (InHeap low high there) by_four =
      let word : Number 0 ≡ w = same_replicated (heap / 4) (place_from HEAP_START at) (Number 0) w there in
      let inside = slice_get_within (replicate (heap / 4) (Number 0)) (place_from HEAP_START at) w there in
      let d : at - HEAP_START + 4 ≤ heap = omega (arith, inside, length-replicate (heap / 4) (Number 0), by_four, low) in
      subst (λ y. (long_at t.storage at ≡ Some (real a.labels y)) × IsKnown m y) word (
        rw (le-ltb at STATICS_START (omega (arith, low)), le-ltb at HEAP_START low, lt-ltb at STACK_START high)
            (long_in HEAP_START (replicate heap 0) at 0 low (omega (arith, d, length-replicate {A = ℕ} heap 0)) (omega arith) (zeros_there heap (at - HEAP_START) d)),
        omega arith,
      )
  words_hold at w (InStack low there) by_four =
      let word : Number 0 ≡ w = same_replicated (stack / 4) (place_from STACK_START at) (Number 0) w there in
      let inside = slice_get_within (replicate (stack / 4) (Number 0)) (place_from STACK_START at) w there in
      let d : at - STACK_START + 4 ≤ stack = omega (arith, inside, length-replicate (stack / 4) (Number 0), by_four, low) in
      subst (λ y. (long_at t.storage at ≡ Some (real a.labels y)) × IsKnown m y) word (
        rw (le-ltb at STATICS_START (omega (arith, low)), le-ltb at HEAP_START (omega (arith, low)), le-ltb at STACK_START low)
            (long_in STACK_START (replicate stack 0) at 0 low (omega (arith, d, length-replicate {A = ℕ} stack 0)) (omega arith) (zeros_there stack (at - STACK_START) d)),
        omega arith,
      )

  -- no home has a word
  homes_hold : (k : ℕ) (h : Home) (w : Word) → slice_get m.homes k ≡ Some h → held (start m) (At h) ≡ Some w → HasWord m a.labels t h w
  homes_hold k (home.D i) w here has = absurd (cc)
  homes_hold k (home.A i) w here has = absurd (cc)
  homes_hold k (home.Static p) w here has = absurd (cc)
  homes_hold k (home.Stack n) w here has = by (stands (start m).storage (stack_end m + 4 * n) w has)
    where
      by : Stands (start m).storage (stack_end m + 4 * n) w → HasWord m a.labels t (home.Stack n) w
      by (InStatics low high there) = absurd (omega (arith, high))
      by (InHeap low high there) = absurd (omega (arith, high))
      by (InStack low there) = absurd (omega (arith, slice_get_within (replicate (stack / 4) (Number 0)) _ w there, length-replicate (stack / 4) (Number 0)))

  static_there : (p : ℕ) → p < length statics → IsThere t.storage (static_at p)
  static_there p lt =
      let found = element statics p lt in
      let few : length statics ≤ 2 ^ 25 = whole.words.places.few in
      (long_of a.labels found.0, static_long (static_at p) p found.0 found.1 (omega (arith, lt, few)) (omega (arith, lt, few)) (omega (arith, lt, few)))
    where
      element : (xs : List StaticWord) (i : ℕ) → i < length xs → (x : StaticWord) × (slice_get xs i ≡ Some x)
      element [] i lt = absurd (omega arith)
      element (x ∷ xs) zero lt = (x, refl)
      element (x ∷ xs) (suc i) lt = element xs i (omega arith)

  represented : Represents m a.labels (start m) t
  represented = record {
    homes = homes_hold;
    words = λ at w here. let v = visible m (start m) at w here in words_hold at w (stands (start m).storage at w v.there) (is_whole (start m).storage at w v.there);
    statics = static_there;
    next = refl;
    limit = refl;
    end = refl;
    top = refl;
  }

pub starts_represented : StartsRepresented
starts_represented placed a heap stack entry whole heap_size stack_size = represented placed a heap stack entry whole heap_size stack_size

pub homes_serve : HomesServe
homes_serve placed sizes whole heap stack = record {
  homes = λ k h here. each_at (IsHome placed.words) placed.at.items k h whole.homes here;
  few = whole.words.places.few;
  heap = heap;
  stack = stack;
}
