-- The row that makes a pair.
use Rattle.std.proofs.Common.{◌≡◌, ℕ, zero, suc, ◌+◌, ◌-◌, ◌*◌, ◌/◌, ◌^◌, ◌<◌, ◌≤◌, false, List, [], ◌∷◌, ◌++◌, length, replicate, slice_get, slice_set, Some, None, option_map, pos, inl, inr, refl, sym, ap, ◌∙◌, subst, arith, length-append}
use Rattle.std.specs.List.{flat_map, AllByRecursion}
use Rattle.std.proofs.lemmas.Bool.{lt-ltb, le-ltb, ne_eqb, cases_lt}
use Rattle.std.proofs.lemmas.Option.{slice_get_within}
use Rattle.std.proofs.lemmas.List.{length-set, length-replicate}
use Rattle.program_runs.specs.Runs.{Full}
use Rattle.t_base.specs.declared.basics.Var.{Var}
use Rattle.t_base.specs.declared.builtins.Builtin.TheVariants as builtin
use Rattle.t_prim.specs.Values.{Val, PairV, Store, Text, Literal, PrintName, with_new_pair, text_of}
use Rattle.t_prim.specs.Operands.{Row, Changes}
use Rattle.word_ir.specs.declared.operands.Operand.{Operand}
use Rattle.word_ir.specs.declared.operands.Operand.TheVariants as operand
use Rattle.word_ir.specs.declared.words.WordOp.TheVariants as op
use Rattle.word_ir.specs.declared.words.Arith.TheVariants as kind
use Rattle.word_ir.specs.declared.words.Words.{Words}
use Rattle.word_ir.specs.Word.{Word, Number, moved, wrap}
use Rattle.word_ir.specs.Storage.{Sizes, Regions, HEAP_START, STACK_START, long_at}
use Rattle.word_ir.specs.Computing as computing
use Rattle.word_ir.specs.Computing.{computed}
use Rattle.word_ir.specs.State.{Own, kept}
use Rattle.word_ir.specs.Step.{words_in}
use Rattle.word_ir.specs.Stamps.{Stamp}
use Rattle.frame_ir.specs.States.{State, Thing, APair, AVector, AClosure, AnObject, AnEscape, ACell, with_store, new_things, thing_words}
use Rattle.tagged_words.proofs.Chars.{signed_natural, fitted_natural}
use Rattle.word_trees.specs.Trees.{Tree, Do}
use Rattle.word_trees.specs.Cores.{Core, word_in, stamp_in, heap_left, storing, taking}
use Rattle.word_trees.proofs.Operations.{service_of_two_ends}
use Rattle.word_trees.proofs.Performing.{performs_more, ends, take_performs, no_heap_performs, store_performs, compute_performs}
use Rattle.frame_words.specs.Segments.{place_of, total_of, AreDistinct}
use Rattle.frame_words.specs.Layouts.{Layout, PairOf, fixed_place}
use Rattle.frame_words.specs.ValueWords.{same_thing, heap_place, word_for, or_zero, tagged, or_other}
use Rattle.frame_words.specs.Contents.{Escapes, thing_contents}
use Rattle.frame_words.specs.Holding.{IsMade, HoldsData}
use Rattle.frame_words.specs.Growing.{WordsStay, Adds}
use Rattle.frame_words.proofs.Segments.{get_left, place_last, later_place}
use Rattle.frame_words.proofs.Identity.{thing_symmetric}
use Rattle.frame_words.proofs.Sizes.{thing_sized, thing_same}
use Rattle.frame_words.proofs.Reading.{heap_long, fixed_is, heap_within}
use Rattle.frame_words.proofs.Growing.{words_stay, data_grow, distinct_more, sizes_stay, total_alike}
use Rattle.select_rows.specs.Macros.{var, of_var, word, never}
use Rattle.select_rows.specs.Kept.{IsOlder, Has, Keeps}
use Rattle.select_rows.specs.Codes.{code_of, IsCodeOf, make, take}
use Rattle.select_rows.proofs.Keeping.{keeps_same, may_reach, older_kept, newest_kept, get_set_other, get_some}
use Rattle.select_rows.proofs.Results.{performs}
use Rattle.select_rows.proofs.Puts.{arrive_changed}

-- ---- stores into the heap

pub stored_heap : (c : Core) (k : ℕ) (x : Word) (stamp : Stamp) → k < 2 ^ 26 → storing c (HEAP_START + 4 * k) x stamp ≡ record c { storage = record c.storage { heap = slice_set c.storage.heap k x }; longs = record c.longs { heap = slice_set c.longs.heap k stamp } }
stored_heap c k x stamp lt =
    let place : (HEAP_START + 4 * k - HEAP_START) / 4 ≡ k = omega arith in
    rw (le-ltb (HEAP_START + 4 * k) HEAP_START (omega arith), lt-ltb (HEAP_START + 4 * k) STACK_START (omega (arith, lt)), place) refl

fill_more : (n : ℕ) (a b z : Word) → 2 ≤ n → slice_set (slice_set (replicate n z) 0 a) 1 b ≡ a ∷ b ∷ replicate (n - 2) z
fill_more zero a b z le = absurd (omega (arith, le))
fill_more (suc zero) a b z le = absurd (omega (arith, le))
fill_more (suc (suc n)) a b z le = let m : suc (suc n) - 2 ≡ n = omega arith in rw m refl

pub fill_two : (f : List Word) (n : ℕ) (a b z : Word) → 2 ≤ n → slice_set (slice_set (f ++ replicate n z) (length f) a) (suc (length f)) b ≡ (f ++ a ∷ b ∷ []) ++ replicate (n - 2) z
fill_two [] n a b z le = fill_more n a b z le
fill_two (x ∷ f) n a b z le = ap (λ ws. x ∷ ws) (fill_two f n a b z le)

pub joined_length : {X : Type 0} (content : X → List Word) (size : X → ℕ) (xs : List X) → ((x : X) → length (content x) ≡ size x) → length (flat_map content xs) ≡ total_of size xs
joined_length content size [] sized = refl
joined_length content size (x ∷ xs) sized = omega (arith, length-append (content x) (flat_map content xs), sized x, joined_length content size xs sized)

-- ---- a pair more

pub get_last : {X : Type 0} (xs : List X) (x : X) → slice_get (xs ++ x ∷ []) (length xs) ≡ Some x
get_last [] x = refl
get_last (y ∷ xs) x = get_last xs x

not_this : (l : Layout) (s : State) (y : Thing) → IsMade l s y → same_thing y (APair (length s.store.pairs)) ≡ false
not_this l s (APair k) m = ne_eqb k (length s.store.pairs) (λ eq. absurd (omega (arith, slice_get_within s.store.pairs k m.0 m.1, eq)))
not_this l s (AVector k) m = refl
not_this l s (AClosure i) m = refl
not_this l s (AnObject i) m = refl
not_this l s (AnEscape b) m = refl
not_this l s (ACell k) m = refl

absent : (l : Layout) (s : State) (size : Thing → ℕ) (xs : List Thing) → AllByRecursion (IsMade l s) xs → place_of same_thing size xs (APair (length s.store.pairs)) ≡ None
absent l s size [] h = refl
absent l s size (y ∷ xs) h = later_place same_thing size y (APair (length s.store.pairs)) xs None (not_this l s y h.0) (absent l s size xs h.1)

new_pair : (s : Store) (v w : Val) → new_things s (with_new_pair s v w) ≡ APair (length s.pairs) ∷ []
new_pair s v w =
    let n : length (s.pairs ++ (v, w) ∷ []) ≡ length s.pairs + 1 = length-append s.pairs ((v, w) ∷ []) in
    rw (lt-ltb (length s.pairs) (length (s.pairs ++ (v, w) ∷ [])) (omega (arith, n)), le-ltb (length s.vectors) (length s.vectors) (omega arith)) refl

same_text : (s : Store) (v w : Val) (t : Text) (b : List ℕ) → text_of s t ≡ Some b → text_of (with_new_pair s v w) t ≡ Some b
same_text s v w (Literal k) b h = h
same_text s v w (PrintName n) b h = h

module _ (sizes : Sizes) (l : Layout) (e : Escapes) (s : State) (v w : Val) (storage : Regions Word) (next : ℕ) (output : List ℕ) (h : HoldsData sizes l e s storage next output) where
  abbrev pub consed : State
  consed = with_store s (with_new_pair s.store v w)

  pub pair_adds : Adds l s consed
  pair_adds = record {
    more = APair (length s.store.pairs) ∷ [];
    made = ap (λ more. s.made ++ more) (new_pair s.store v w);
    pairs = λ k p at. get_left s.store.pairs ((v, w) ∷ []) k p at;
    vectors = λ k items at. at;
    closures = λ i c at. at;
    objects = λ i object at. at;
    cells = λ k x at. at;
    frames = omega arith;
    texts = same_text s.store v w;
    pairs_apart = λ k p found.
        let m = fixed_is sizes l e s storage next output h (PairOf k) p found in
        rw (ne_eqb (length s.store.pairs) k (λ eq. absurd (omega (arith, slice_get_within s.store.pairs k m.0 m.1, eq)))) refl;
    closures_apart = λ i p found. refl;
  }

  pub pair_words_stay : WordsStay l s consed
  pair_words_stay = words_stay l s consed pair_adds h.made

  -- the pair's place is that of the first free word
  pair_place : heap_place consed (APair (length s.store.pairs)) ≡ Some s.store.heap
  unfolding pair_adds
  pair_place =
      let total : total_of (thing_words consed) s.made ≡ s.store.heap = sym (total_alike (thing_words s) (thing_words consed) s.made (sizes_stay l s consed pair_adds h.made)) ∙ sym h.taken in
      subst (λ m. place_of same_thing (thing_words consed) m (APair (length s.store.pairs)) ≡ Some s.store.heap) (sym pair_adds.made)
      (place_last same_thing (thing_words consed) s.made (APair (length s.store.pairs)) (thing_same (APair (length s.store.pairs))) (absent l s (thing_words consed) s.made h.made) ∙ ap Some total)

  pub pair_word : word_for l consed (PairV (length s.store.pairs)) ≡ Some (next + 3)
  pair_word =
      let n : HEAP_START + 4 * s.store.heap + 3 ≡ next + 3 = omega (arith, h.next_is) in
      ap (λ o. tagged 3 (or_other (option_map (λ p. HEAP_START + 4 * p) o) (Rattle.frame_words.specs.Layouts.fixed_address l (PairOf (length s.store.pairs))))) pair_place ∙ ap Some n

  -- the heap with the pair behind what was there
  pub pair_held : (na nb : ℕ) → word_for l s v ≡ Some na → word_for l s w ≡ Some nb → 8 ≤ HEAP_START + sizes.heap - next → HoldsData sizes l e consed (record storage { heap = slice_set (slice_set storage.heap s.store.heap (Number na)) (suc s.store.heap) (Number nb) }) (next + 8) output
  unfolding pair_adds
  pair_held na nb va vb room =
      let stay : WordsStay l s consed = pair_words_stay in
      let size : length (flat_map (thing_contents l e s) s.made) ≡ s.store.heap = joined_length (thing_contents l e s) (thing_words s) s.made (thing_sized l e s) ∙ sym h.taken in
      let contents : flat_map (thing_contents l e consed) (APair (length s.store.pairs) ∷ []) ≡ Number na ∷ Number nb ∷ [] =
      rw (get_last s.store.pairs (v, w), ap or_zero (stay.values v na va), ap or_zero (stay.values w nb vb)) refl in
      let two : 2 ≤ sizes.heap / 4 - s.store.heap = omega (arith, room, h.next_is, h.room) in
      let less : sizes.heap / 4 - s.store.heap - 2 ≡ sizes.heap / 4 - (s.store.heap + 2) = omega arith in
      let filled : slice_set (slice_set storage.heap s.store.heap (Number na)) (suc s.store.heap) (Number nb) ≡ (flat_map (thing_contents l e s) s.made ++ Number na ∷ Number nb ∷ []) ++ replicate (sizes.heap / 4 - s.store.heap - 2) (Number 0) =
      subst (λ k. slice_set (slice_set storage.heap k (Number na)) (suc k) (Number nb) ≡ (flat_map (thing_contents l e s) s.made ++ Number na ∷ Number nb ∷ []) ++ replicate (sizes.heap / 4 - s.store.heap - 2) (Number 0)) size
      (ap (λ ws. slice_set (slice_set ws (length (flat_map (thing_contents l e s) s.made)) (Number na)) (suc (length (flat_map (thing_contents l e s) s.made))) (Number nb)) h.heap
      ∙ fill_two (flat_map (thing_contents l e s) s.made) (sizes.heap / 4 - s.store.heap) (Number na) (Number nb) (Number 0) two) in
      let known : AllByRecursion (IsMade l consed) (APair (length s.store.pairs) ∷ []) = (((v, w), get_last s.store.pairs (v, w), (ap Rattle.std.specs.Prelude.is_some (stay.values v na va), (ap Rattle.std.specs.Prelude.is_some (stay.values w nb vb), tt))), tt) in
      data_grow sizes l e s consed storage (record storage { heap = slice_set (slice_set storage.heap s.store.heap (Number na)) (suc s.store.heap) (Number nb) }) next (next + 8) output output h pair_adds refl
      (filled ∙ (ap (λ ws. (flat_map (thing_contents l e s) s.made ++ ws) ++ replicate (sizes.heap / 4 - s.store.heap - 2) (Number 0)) (sym contents) ∙ ap (λ k. (flat_map (thing_contents l e s) s.made ++ flat_map (thing_contents l e consed) (APair (length s.store.pairs) ∷ [])) ++ replicate k (Number 0)) less))
      (omega arith) (omega (arith, h.next_is)) (omega (arith, room, h.next_is, h.room))
      (subst (AreDistinct same_thing (thing_words consed)) (sym pair_adds.made) (distinct_more same_thing (thing_words s) (thing_words consed) s.made (APair (length s.store.pairs)) thing_symmetric h.distinct (absent l s (thing_words s) s.made h.made)))
      known refl h.output_is

-- ---- the code

module _ (words : Words) (sizes : Sizes) (l : Layout) (e : Escapes) (t : ℕ) (s : State) (c : Core) (to : Var) (rest : Tree) (h : HoldsData sizes l e s c.storage c.next c.output) (a b : Operand) (v w : Val) (ha : Has l s t c a v) (hb : Has l s t c b w) where
  free : ℕ
  free = s.store.heap

  -- the core behind both stores, with the stamps that are stored
  abbrev stored : Core → Stamp → Stamp → Core
  stored d first second = record d {
    storage = record d.storage { heap = slice_set (slice_set d.storage.heap s.store.heap (Number ha.number)) (suc s.store.heap) (Number hb.number) };
    longs = record d.longs { heap = slice_set (slice_set d.longs.heap s.store.heap first) (suc s.store.heap) second };
  }

  escapes_stay : (first second : Stamp) (birth p : ℕ) → heap_place s (AnEscape birth) ≡ Some p → slice_get (slice_set (slice_set c.longs.heap s.store.heap first) (suc s.store.heap) second) (p + 1) ≡ slice_get c.longs.heap (p + 1)
  escapes_stay first second birth p found =
      let le = heap_within sizes l e s c.storage c.next c.output h (AnEscape birth) p found in
      get_set_other (slice_set c.longs.heap s.store.heap first) (suc s.store.heap) (p + 1) second (λ eq. absurd (omega (arith, le, eq)))
      ∙ get_set_other c.longs.heap s.store.heap (p + 1) first (λ eq. absurd (omega (arith, le, eq)))

  consed_keeps : (first second : Stamp) → 8 ≤ heap_left sizes c → Keeps sizes l e t s (consed sizes l e s v w c.storage c.next c.output h) c (stored (taking c (var t) 8) first second)
  consed_keeps first second room = record {
    data_held = pair_held sizes l e s v w c.storage c.next c.output h ha.number hb.number ha.is hb.is room;
    words = pair_words_stay sizes l e s v w c.storage c.next c.output h;
    top = refl;
    stack = refl;
    inner = refl;
    stamps_of_stack = refl;
    live = refl;
    escapes = λ birth p found. escapes_stay first second birth p found;
    variables = λ x lt. older_kept c.env t x (Number c.next) lt;
    stamps = λ x lt. older_kept c.stamps t x None lt;
  }

  heap_length : length c.storage.heap ≡ sizes.heap / 4
  heap_length =
      let n : length c.storage.heap ≡ length (flat_map (thing_contents l e s) s.made) + length (replicate (sizes.heap / 4 - s.store.heap) (Number 0)) = ap length h.heap ∙ length-append (flat_map (thing_contents l e s) s.made) (replicate (sizes.heap / 4 - s.store.heap) (Number 0)) in
      let m : length (replicate (sizes.heap / 4 - s.store.heap) (Number 0)) ≡ sizes.heap / 4 - s.store.heap = length-replicate (sizes.heap / 4 - s.store.heap) (Number 0) in
      omega (arith, n, m, joined_length (thing_contents l e s) (thing_words s) s.made (thing_sized l e s), h.taken, h.room)

  -- what the variable of the pair's address and the operands hold on the way
  older_taken : (y : Operand) → IsOlder t y → word_in (taking c (var t) 8) y ≡ word_in c y
  older_taken (operand.Var x) o = older_kept c.env t x.0 (Number c.next) o
  older_taken (operand.Word n) o = refl
  older_taken (operand.Static p) o = refl
  older_taken (operand.Code p) o = refl
  older_taken (operand.Slot n) o = refl

  same_core : (d x : Core) (y : Operand) → x.env ≡ d.env → x.top ≡ d.top → word_in x y ≡ word_in d y
  same_core d x (operand.Var k) env top = ap (λ m. kept m (Own k.0)) env
  same_core d x (operand.Word n) env top = refl
  same_core d x (operand.Static p) env top = refl
  same_core d x (operand.Code p) env top = refl
  same_core d x (operand.Slot n) env top = ap (λ m. Some (Number (wrap (m + n)))) top

  first_address : moved c.next (pos 0) ≡ HEAP_START + 4 * s.store.heap
  first_address = omega (arith, h.next_is)

  second_address : moved c.next (pos 4) ≡ HEAP_START + 4 * suc s.store.heap
  second_address = omega (arith, h.next_is)

  address_sum : 8 ≤ heap_left sizes c → computed kind.Add c.next 3 ≡ computing.Gives (c.next + 3)
  address_sum room =
      let small : c.next + 3 < 2 ^ 31 = omega (arith, h.next_is, h.room, h.small) in
      rw (signed_natural c.next (omega (arith, small))) (fitted_natural (c.next + 3) small)

  abbrev row_of_pair : Row
  row_of_pair = Changes (with_new_pair s.store v w) (PairV (length s.store.pairs))

  abbrev tag_code : Tree
  tag_code = make kind.Add (of_var t) (word 3) to rest

  abbrev taken : Core
  taken = taking c (var t) 8

  abbrev half : Stamp → Core
  half first = record taken { storage = record c.storage { heap = slice_set c.storage.heap s.store.heap (Number ha.number) }; longs = record c.longs { heap = slice_set c.longs.heap s.store.heap first } }

  tag_performs : (first second : Stamp) → 8 ≤ heap_left sizes c → performs words sizes l e t s c to rest row_of_pair 1 3 tag_code (stored taken first second)
  tag_performs first second room =
      compute_performs words sizes _ c.next 3 (c.next + 3) (newest_kept c.env t (Number c.next)) refl (address_sum room)
      (arrive_changed words sizes l e t s c to rest (stored taken first second) (with_new_pair s.store v w) (PairV (length s.store.pairs)) (c.next + 3) None (consed_keeps first second room) (pair_word sizes l e s v w c.storage c.next c.output h))

  second_performs : (first : Stamp) → 8 ≤ heap_left sizes c → performs words sizes l e t s c to rest row_of_pair 1 6 (Do (op.Store (of_var t) (pos 4) b) tag_code) (half first)
  second_performs first room =
      let small : suc s.store.heap < 2 ^ 26 = omega (arith, room, h.next_is, h.room, h.small) in
      let old = get_some (slice_set c.storage.heap s.store.heap (Number ha.number)) (suc s.store.heap) (omega (arith, length-set c.storage.heap s.store.heap (Number ha.number), heap_length, room, h.next_is, h.room)) in
      let second : Stamp = stamp_in (words_in words sizes) (half first) b in
      let there : storing (half first) (moved c.next (pos 4)) (Number hb.number) second ≡ stored taken first second = ap (λ address. storing (half first) address (Number hb.number) second) second_address ∙ stored_heap (half first) (suc s.store.heap) (Number hb.number) second small in
      store_performs words sizes _ c.next (Number hb.number) old.0 (newest_kept c.env t (Number c.next)) (same_core taken (half first) b refl refl ∙ (older_taken b hb.older ∙ hb.held))
      (ap (long_at (half first).storage) second_address ∙ (heap_long (half first).storage (suc s.store.heap) small ∙ old.1))
      (may_reach words sizes (half first) (of_var t) (moved c.next (pos 4)) (omega (arith, second_address, small)))
      (subst (λ d. performs words sizes l e t s c to rest row_of_pair 1 3 tag_code d) (sym there) (tag_performs first second room))

  room_performs : 8 ≤ heap_left sizes c → performs words sizes l e t s c to rest row_of_pair 1 11 (take t 8 (Do (op.Store (of_var t) (pos 0) a) (Do (op.Store (of_var t) (pos 4) b) tag_code))) c
  room_performs room =
      let small : s.store.heap < 2 ^ 26 = omega (arith, room, h.next_is, h.room, h.small) in
      let old = get_some c.storage.heap s.store.heap (omega (arith, heap_length, room, h.next_is, h.room)) in
      let first : Stamp = stamp_in (words_in words sizes) taken a in
      let there : storing taken (moved c.next (pos 0)) (Number ha.number) first ≡ half first = ap (λ address. storing taken address (Number ha.number) first) first_address ∙ stored_heap taken s.store.heap (Number ha.number) first small in
      take_performs words sizes _ 8 refl room refl
      (store_performs words sizes _ c.next (Number ha.number) old.0 (newest_kept c.env t (Number c.next)) (older_taken a ha.older ∙ ha.held)
      (ap (long_at c.storage) first_address ∙ (heap_long c.storage s.store.heap small ∙ old.1))
      (may_reach words sizes taken (of_var t) (moved c.next (pos 0)) (omega (arith, first_address, small)))
      (subst (λ d. performs words sizes l e t s c to rest row_of_pair 1 6 (Do (op.Store (of_var t) (pos 4) b) tag_code) d) (sym there) (second_performs first room)))

  full_performs : heap_left sizes c < 8 → performs words sizes l e t s c to rest row_of_pair 1 11 (take t 8 (Do (op.Store (of_var t) (pos 0) a) (Do (op.Store (of_var t) (pos 4) b) tag_code))) c
  full_performs lacking =
      performs_more words sizes _ 11 (omega arith)
      (no_heap_performs words sizes _ 8 refl lacking
      (ends words sizes _ 3 _ c (Full false 8 (heap_left sizes c)) (service_of_two_ends words sizes c 4 (word 8) (word 0) 8 0 (Full false 8 (heap_left sizes c)) never refl refl refl)
      (λ block place moves steps. inr (record {
        asked = 8;
        more = omega arith;
        lacking = lacking;
        ends = record { core = c; keeps = keeps_same sizes l e t s c h; block = block; place = place; moves = moves; steps = steps; there = refl };
      }))))

  pub cons_performs : performs words sizes l e t s c to rest row_of_pair 1 11 (take t 8 (Do (op.Store (of_var t) (pos 0) a) (Do (op.Store (of_var t) (pos 4) b) tag_code))) c
  cons_performs = elim (cases_lt (heap_left sizes c) 8) [
    | inl lacking ↦ full_performs lacking
    | inr room ↦ room_performs room
  ]

pub cons_row : IsCodeOf builtin.Cons (code_of builtin.Cons)
cons_row words sizes l e t s c to rest a b v w h ha hb = cons_performs words sizes l e t s c to rest h a b v w ha hb
