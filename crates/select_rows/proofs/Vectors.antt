-- The row that makes a vector.
use Rattle.std.proofs.Common.{◌≡◌, ℕ, zero, suc, ◌+◌, ◌-◌, ◌*◌, ◌/◌, ◌%◌, ◌^◌, ◌<◌, ◌≤◌, ◌==◌, nat_lt, Bool, true, false, List, [], ◌∷◌, ◌++◌, length, replicate, slice_get, slice_set, Some, None, option_map, ℤ, pos, negsuc, inl, inr, refl, sym, ap, ◌∙◌, subst, arith, length-append, append-nil}
use Rattle.std.specs.List.{flat_map, AllByRecursion}
use Rattle.std.specs.Option.{option_map_or}
use Rattle.std.proofs.lemmas.Bool.{lt-ltb, le-ltb, ltb-true, ltb-false, ne_eqb, eqb-true, eqb-false, cases_lt}
use Rattle.std.proofs.lemmas.Nat.Bits.{and_high_mask}
use Rattle.std.proofs.lemmas.Option.{slice_get_within}
use Rattle.std.proofs.lemmas.List.{length-set, length-replicate, replicate-append-replicate}
use Rattle.program_runs.specs.Runs.{Full}
use Rattle.t_base.specs.declared.basics.Var.{Var}
use Rattle.t_base.specs.declared.builtins.Builtin.TheVariants as builtin
use Rattle.t_base.specs.declared.faults.Fault.TheVariants.{IndexRange}
use Rattle.t_prim.specs.Values.{Val, FixV, VectorV, Store, Text, Literal, PrintName, vector_words, with_new_vector, text_of}
use Rattle.t_prim.specs.Operands.{Row, Changes, with_size}
use Rattle.word_ir.specs.declared.operands.Operand.{Operand}
use Rattle.word_ir.specs.declared.operands.Operand.TheVariants as operand
use Rattle.word_ir.specs.declared.words.Arith.TheVariants as kind
use Rattle.word_ir.specs.declared.words.Test.TheVariants as test
use Rattle.word_ir.specs.declared.words.WordOp.TheVariants as op
use Rattle.word_ir.specs.declared.words.Words.{Words}
use Rattle.word_ir.specs.Word.{Word, Number, moved, wrap}
use Rattle.word_ir.specs.Storage.{Sizes, Regions, HEAP_START, long_at}
use Rattle.word_ir.specs.Computing as computing
use Rattle.word_ir.specs.Computing.{computed, compared}
use Rattle.word_ir.specs.Step.{words_in}
use Rattle.word_ir.specs.Stamps.{Stamp}
use Rattle.frame_ir.specs.States.{State, Thing, APair, AVector, AClosure, AnObject, AnEscape, ACell, with_store, new_things, thing_words}
use Rattle.tagged_words.specs.Tags.{IsFixnum, fixnum_word}
use Rattle.tagged_words.proofs.Chars.{signed_natural, fitted_natural}
use Rattle.tagged_words.proofs.Fixnums.{natural_word, lt_fixnums}
use Rattle.word_trees.specs.Trees.{Tree, Do, Or, Ask, Take}
use Rattle.word_trees.specs.Cores.{Core, word_in, stamp_in, heap_left, binding, storing, taking}
use Rattle.word_trees.proofs.Operations.{service_of_two_ends}
use Rattle.word_trees.proofs.Performing.{performs_more, ends, take_performs, no_heap_performs, store_performs, compute_performs, ask_performs_true, ask_performs_false}
use Rattle.frame_words.specs.Segments.{place_of, total_of, AreDistinct}
use Rattle.frame_words.specs.Layouts.{Layout, padded}
use Rattle.frame_words.specs.ValueWords.{same_thing, heap_place, word_for, tagged}
use Rattle.frame_words.specs.Contents.{Escapes, values, thing_contents, vector_contents}
use Rattle.frame_words.specs.Holding.{AreKnown, IsMade, HoldsData}
use Rattle.frame_words.specs.Growing.{WordsStay, Adds}
use Rattle.frame_words.proofs.Segments.{get_left, place_last, later_place}
use Rattle.frame_words.proofs.Identity.{thing_symmetric}
use Rattle.frame_words.proofs.Sizes.{thing_sized, thing_same}
use Rattle.frame_words.proofs.Reading.{heap_long, heap_within}
use Rattle.frame_words.proofs.Growing.{words_stay, data_grow, distinct_more, sizes_stay, total_alike}
use Rattle.select_rows.specs.Macros.{fault, var, of_var, word, never}
use Rattle.select_rows.specs.Kept.{IsOlder, Keeps, Binds}
use Rattle.select_rows.specs.Codes.{code_of, IsCodeOf, make, no_heap, small_vector, large_vector, LARGE, EIGHTS}
use Rattle.select_rows.proofs.Keeping.{keeps_same, keeps_binds, binds_one, binds_then, bound_word, has_binds, may_reach, older_kept, newest_kept, get_set_other, get_some}
use Rattle.select_rows.proofs.Checks.{fault_performs}
use Rattle.select_rows.proofs.Results.{performs}
use Rattle.select_rows.proofs.NumberRows.{fixnum_performs_one}
use Rattle.select_rows.proofs.Puts.{arrive_changed}
use Rattle.select_rows.proofs.Pairs.{stored_heap, fill_two, joined_length, get_last}

-- ---- a vector more

not_this : (l : Layout) (s : State) (y : Thing) → IsMade l s y → same_thing y (AVector (length s.store.vectors)) ≡ false
not_this l s (APair k) m = refl
not_this l s (AVector k) m = ne_eqb k (length s.store.vectors) (λ eq. absurd (omega (arith, slice_get_within s.store.vectors k m.0 m.1, eq)))
not_this l s (AClosure i) m = refl
not_this l s (AnObject i) m = refl
not_this l s (AnEscape b) m = refl
not_this l s (ACell k) m = refl

absent : (l : Layout) (s : State) (size : Thing → ℕ) (xs : List Thing) → AllByRecursion (IsMade l s) xs → place_of same_thing size xs (AVector (length s.store.vectors)) ≡ None
absent l s size [] h = refl
absent l s size (y ∷ xs) h = later_place same_thing size y (AVector (length s.store.vectors)) xs None (not_this l s y h.0) (absent l s size xs h.1)

new_vector : (s : Store) (n : ℕ) (v : Val) → new_things s (with_new_vector s n v) ≡ AVector (length s.vectors) ∷ []
new_vector s n v =
    let m : length (s.vectors ++ replicate n v ∷ []) ≡ length s.vectors + 1 = length-append s.vectors (replicate n v ∷ []) in
    rw (le-ltb (length s.pairs) (length s.pairs) (omega arith), lt-ltb (length s.vectors) (length (s.vectors ++ replicate n v ∷ [])) (omega (arith, m))) refl

same_text : (s : Store) (n : ℕ) (v : Val) (t : Text) (b : List ℕ) → text_of s t ≡ Some b → text_of (with_new_vector s n v) t ≡ Some b
same_text s n v (Literal k) b h = h
same_text s n v (PrintName m) b h = h

zeros : (l : Layout) (u : State) (n : ℕ) → values l u (replicate n (FixV (pos 0))) ≡ replicate n (Number 0)
zeros l u zero = refl
zeros l u (suc n) = ap (λ ws. Number 0 ∷ ws) (zeros l u n)

known_zeros : (l : Layout) (u : State) (n : ℕ) → AreKnown l u (replicate n (FixV (pos 0)))
known_zeros l u zero = tt
known_zeros l u (suc n) = (refl, known_zeros l u n)

-- header, length and zeros, up to an even count
vector_zeros : (n : ℕ) → padded (Number 0x11 ∷ Number (4 * n) ∷ replicate n (Number 0)) ≡ Number 0x11 ∷ Number (4 * n) ∷ replicate (n + n % 2) (Number 0)
vector_zeros n =
    let size : length (Number 0x11 ∷ Number (4 * n) ∷ replicate n (Number 0)) ≡ 2 + n = omega (arith, length-replicate n (Number 0)) in
    let odd : (2 + n) % 2 ≡ n % 2 = omega arith in
    ap (λ k. (Number 0x11 ∷ Number (4 * n) ∷ replicate n (Number 0)) ++ replicate (k % 2) (Number 0)) size
    ∙ (ap (λ k. (Number 0x11 ∷ Number (4 * n) ∷ replicate n (Number 0)) ++ replicate k (Number 0)) odd
    ∙ ap (λ ws. Number 0x11 ∷ Number (4 * n) ∷ ws) (replicate-append-replicate n (n % 2) (Number 0)))

module _ (sizes : Sizes) (l : Layout) (e : Escapes) (s : State) (n : ℕ) (storage : Regions Word) (next : ℕ) (output : List ℕ) (h : HoldsData sizes l e s storage next output) where
  abbrev pub grown : State
  grown = with_store s (with_new_vector s.store n (FixV (pos 0)))

  abbrev made_thing : Thing
  made_thing = AVector (length s.store.vectors)

  vector_adds : Adds l s grown
  vector_adds = record {
    more = AVector (length s.store.vectors) ∷ [];
    made = ap (λ more. s.made ++ more) (new_vector s.store n (FixV (pos 0)));
    pairs = λ k p at. at;
    vectors = λ k items at. get_left s.store.vectors (replicate n (FixV (pos 0)) ∷ []) k items at;
    closures = λ i c at. at;
    objects = λ i object at. at;
    cells = λ k x at. at;
    frames = omega arith;
    texts = same_text s.store n (FixV (pos 0));
    pairs_apart = λ k p found. refl;
    closures_apart = λ i p found. refl;
  }

  pub vector_words_stay : WordsStay l s grown
  vector_words_stay = words_stay l s grown vector_adds h.made

  there : slice_get grown.store.vectors (length s.store.vectors) ≡ Some (replicate n (FixV (pos 0)))
  there = get_last s.store.vectors (replicate n (FixV (pos 0)))

  -- the vector's place is that of the first free word
  vector_place : heap_place grown (AVector (length s.store.vectors)) ≡ Some s.store.heap
  unfolding vector_adds
  vector_place =
      let total : total_of (thing_words grown) s.made ≡ s.store.heap = sym (total_alike (thing_words s) (thing_words grown) s.made (sizes_stay l s grown vector_adds h.made)) ∙ sym h.taken in
      subst (λ m. place_of same_thing (thing_words grown) m (AVector (length s.store.vectors)) ≡ Some s.store.heap) (sym vector_adds.made)
      (place_last same_thing (thing_words grown) s.made (AVector (length s.store.vectors)) (thing_same (AVector (length s.store.vectors))) (absent l s (thing_words grown) s.made h.made) ∙ ap Some total)

  pub vector_word : word_for l grown (VectorV (length s.store.vectors)) ≡ Some (next + 2)
  vector_word =
      let m : HEAP_START + 4 * s.store.heap + 2 ≡ next + 2 = omega (arith, h.next_is) in
      ap (λ o. tagged 2 (option_map (λ p. HEAP_START + 4 * p) o)) vector_place ∙ ap Some m

  contents : thing_contents l e grown (AVector (length s.store.vectors)) ≡ Number 0x11 ∷ Number (4 * n) ∷ replicate (n + n % 2) (Number 0)
  contents =
      let size : length (replicate n (FixV (pos 0))) ≡ n = length-replicate n (FixV (pos 0)) in
      ap (λ o. option_map_or (vector_contents l grown) o []) there
      ∙ (ap (λ ws. padded (Number 0x11 ∷ Number (4 * length (replicate n (FixV (pos 0)))) ∷ ws)) (zeros l grown n)
      ∙ (ap (λ m. padded (Number 0x11 ∷ Number (4 * m) ∷ replicate n (Number 0))) size ∙ vector_zeros n))

  all_contents : flat_map (thing_contents l e grown) (AVector (length s.store.vectors) ∷ []) ≡ Number 0x11 ∷ Number (4 * n) ∷ replicate (n + n % 2) (Number 0)
  all_contents = append-nil (thing_contents l e grown (AVector (length s.store.vectors))) ∙ contents

  -- the heap with the vector behind what was there
  pub vector_held : 4 * vector_words n ≤ HEAP_START + sizes.heap - next → HoldsData sizes l e grown (record storage { heap = slice_set (slice_set storage.heap s.store.heap (Number 0x11)) (suc s.store.heap) (Number (4 * n)) }) (next + 4 * vector_words n) output
  unfolding vector_adds
  vector_held room =
      let size : length (flat_map (thing_contents l e s) s.made) ≡ s.store.heap = joined_length (thing_contents l e s) (thing_words s) s.made (thing_sized l e s) ∙ sym h.taken in
      let two : 2 ≤ sizes.heap / 4 - s.store.heap = omega (arith, room, h.next_is, h.room) in
      let more : sizes.heap / 4 - s.store.heap - 2 ≡ n + n % 2 + (sizes.heap / 4 - (s.store.heap + vector_words n)) = omega (arith, room, h.next_is, h.room) in
      let front : List Word = flat_map (thing_contents l e s) s.made in
      let filled : slice_set (slice_set storage.heap s.store.heap (Number 0x11)) (suc s.store.heap) (Number (4 * n)) ≡ (front ++ Number 0x11 ∷ Number (4 * n) ∷ []) ++ replicate (sizes.heap / 4 - s.store.heap - 2) (Number 0) =
      subst (λ k. slice_set (slice_set storage.heap k (Number 0x11)) (suc k) (Number (4 * n)) ≡ (front ++ Number 0x11 ∷ Number (4 * n) ∷ []) ++ replicate (sizes.heap / 4 - s.store.heap - 2) (Number 0)) size
      (ap (λ ws. slice_set (slice_set ws (length front) (Number 0x11)) (suc (length front)) (Number (4 * n))) h.heap
      ∙ fill_two front (sizes.heap / 4 - s.store.heap) (Number 0x11) (Number (4 * n)) (Number 0) two) in
      let parted : (front ++ Number 0x11 ∷ Number (4 * n) ∷ []) ++ replicate (sizes.heap / 4 - s.store.heap - 2) (Number 0) ≡ (front ++ Number 0x11 ∷ Number (4 * n) ∷ replicate (n + n % 2) (Number 0)) ++ replicate (sizes.heap / 4 - (s.store.heap + vector_words n)) (Number 0) =
      ap (λ k. (front ++ Number 0x11 ∷ Number (4 * n) ∷ []) ++ replicate k (Number 0)) more ∙ regrouped front (Number 0x11) (Number (4 * n)) (n + n % 2) (sizes.heap / 4 - (s.store.heap + vector_words n)) in
      let long : length (replicate n (FixV (pos 0))) ≡ n = length-replicate n (FixV (pos 0)) in
      let words : thing_words grown (AVector (length s.store.vectors)) ≡ vector_words n = ap (λ o. option_map_or (λ items. vector_words (length items)) o 0) there ∙ ap vector_words long in
      let known : AllByRecursion (IsMade l grown) (AVector (length s.store.vectors) ∷ []) = ((replicate n (FixV (pos 0)), there, known_zeros l grown n), tt) in
      data_grow sizes l e s grown storage (record storage { heap = slice_set (slice_set storage.heap s.store.heap (Number 0x11)) (suc s.store.heap) (Number (4 * n)) }) next (next + 4 * vector_words n) output output h vector_adds refl
      (filled ∙ (parted ∙ ap (λ ws. (front ++ ws) ++ replicate (sizes.heap / 4 - (s.store.heap + vector_words n)) (Number 0)) (sym all_contents)))
      (omega (arith, words)) (omega (arith, h.next_is)) (omega (arith, room, h.next_is, h.room))
      (subst (AreDistinct same_thing (thing_words grown)) (sym vector_adds.made) (distinct_more same_thing (thing_words s) (thing_words grown) s.made (AVector (length s.store.vectors)) thing_symmetric h.distinct (absent l s (thing_words s) s.made h.made)))
      known refl h.output_is
    where
      regrouped : (xs : List Word) (a b : Word) (p q : ℕ) → (xs ++ a ∷ b ∷ []) ++ replicate (p + q) (Number 0) ≡ (xs ++ a ∷ b ∷ replicate p (Number 0)) ++ replicate q (Number 0)
      regrouped [] a b p q = ap (λ ws. a ∷ b ∷ ws) (sym (replicate-append-replicate p q (Number 0)))
      regrouped (x ∷ xs) a b p q = ap (λ ws. x ∷ ws) (regrouped xs a b p q)

-- ---- arithmetic

sum_small : (n m : ℕ) → n + m < 2 ^ 31 → computed kind.Add n m ≡ computing.Gives (n + m)
sum_small n m lt = rw (signed_natural n (omega (arith, lt)), signed_natural m (omega (arith, lt))) (fitted_natural (n + m) lt)

-- bytes of a vector
rounded : (n : ℕ) → 4 * n + 12 < 2 ^ 31 → computed kind.And (4 * n + 12) EIGHTS ≡ computing.Gives (4 * vector_words n)
rounded n lt =
    let e : (4 * n + 12) / 2 ^ 3 * 2 ^ 3 ≡ 4 * vector_words n = omega arith in
    ap computing.Gives (and_high_mask 32 3 (omega arith) (4 * n + 12) (omega (arith, lt)) ∙ e)

-- ---- the code

module _ (words : Words) (sizes : Sizes) (l : Layout) (e : Escapes) (t : ℕ) (s : State) (c : Core) (to : Var) (rest : Tree) (h : HoldsData sizes l e s c.storage c.next c.output) (a : Operand) (n : ℕ) (older : IsOlder t a) (ea : word_in c a ≡ Some (Number (4 * n))) where
  abbrev row_of_vector : Row
  row_of_vector = Changes (with_new_vector s.store n (FixV (pos 0))) (VectorV (length s.store.vectors))

  -- no room for so many bytes
  lacks : (d : Core) (bytes : Operand) (asked : ℕ) → Binds t c d → word_in d bytes ≡ Some (Number asked) → asked ≡ 4 * vector_words n → heap_left sizes c < asked → performs words sizes l e t s c to rest row_of_vector 1 3 (no_heap bytes) d
  lacks d bytes asked binds eb is lacking =
      let left : heap_left sizes d ≡ heap_left sizes c = ap (λ k. HEAP_START + sizes.heap - k) binds.next in
      ends words sizes _ 3 _ d (Full false asked (heap_left sizes d)) (service_of_two_ends words sizes d 4 bytes (word 0) asked 0 (Full false asked (heap_left sizes d)) never eb refl refl)
      (λ block place moves steps. inr (record {
        asked = asked;
        more = omega (arith, is);
        lacking = lacking;
        ends = record { core = d; keeps = keeps_binds sizes l e t s c c d (keeps_same sizes l e t s c h) binds; block = block; place = place; moves = moves; steps = steps; there = ap (λ k. Rattle.word_trees.specs.Cores.ended d block place moves steps (Some (Full false asked k))) left };
      }))

  -- ---- with room

  module _ (d : Core) (binds : Binds t c d) (size : word_in d (of_var (t + 1)) ≡ Some (Number (4 * vector_words n))) where
    abbrev bytes : ℕ
    bytes = 4 * vector_words n

    abbrev taken : Core
    taken = taking d (var (t + 2)) (4 * vector_words n)

    next_is : d.next ≡ HEAP_START + 4 * s.store.heap
    next_is = binds.next ∙ h.next_is

    abbrev half : Stamp → Core
    half first = record taken { storage = record d.storage { heap = slice_set d.storage.heap s.store.heap (Number 0x11) }; longs = record d.longs { heap = slice_set d.longs.heap s.store.heap first } }

    abbrev stored : Stamp → Stamp → Core
    stored first second = record taken {
      storage = record d.storage { heap = slice_set (slice_set d.storage.heap s.store.heap (Number 0x11)) (suc s.store.heap) (Number (4 * n)) };
      longs = record d.longs { heap = slice_set (slice_set d.longs.heap s.store.heap first) (suc s.store.heap) second };
    }

    kept_here : Keeps sizes l e t s s c d
    kept_here = keeps_binds sizes l e t s c c d (keeps_same sizes l e t s c h) binds

    room_here : 4 * vector_words n ≤ heap_left sizes c → 4 * vector_words n ≤ HEAP_START + sizes.heap - d.next
    room_here room = subst (λ k. 4 * vector_words n ≤ HEAP_START + sizes.heap - k) (sym binds.next) room

    grown_keeps : (first second : Stamp) → 4 * vector_words n ≤ heap_left sizes c → Keeps sizes l e t s (grown sizes l e s n d.storage d.next d.output kept_here.data_held) c (stored first second)
    grown_keeps first second room = record {
      data_held = vector_held sizes l e s n d.storage d.next d.output kept_here.data_held (room_here room);
      words = vector_words_stay sizes l e s n d.storage d.next d.output kept_here.data_held;
      top = kept_here.top;
      stack = kept_here.stack;
      inner = kept_here.inner;
      stamps_of_stack = kept_here.stamps_of_stack;
      live = kept_here.live;
      escapes = λ birth p found.
          let le = heap_within sizes l e s c.storage c.next c.output h (AnEscape birth) p found in
          get_set_other (slice_set d.longs.heap s.store.heap first) (suc s.store.heap) (p + 1) second (λ eq. absurd (omega (arith, le, eq)))
          ∙ (get_set_other d.longs.heap s.store.heap (p + 1) first (λ eq. absurd (omega (arith, le, eq))) ∙ kept_here.escapes birth p found);
      variables = λ x lt. older_kept d.env (t + 2) x (Number d.next) (omega (arith, lt)) ∙ binds.variables x lt;
      stamps = λ x lt. older_kept d.stamps (t + 2) x None (omega (arith, lt)) ∙ binds.stamps x lt;
    }

    heap_length : length d.storage.heap ≡ sizes.heap / 4
    heap_length =
        let m : length c.storage.heap ≡ length (flat_map (thing_contents l e s) s.made) + length (replicate (sizes.heap / 4 - s.store.heap) (Number 0)) = ap length h.heap ∙ length-append (flat_map (thing_contents l e s) s.made) (replicate (sizes.heap / 4 - s.store.heap) (Number 0)) in
        let k : length (replicate (sizes.heap / 4 - s.store.heap) (Number 0)) ≡ sizes.heap / 4 - s.store.heap = length-replicate (sizes.heap / 4 - s.store.heap) (Number 0) in
        let all : length c.storage.heap ≡ sizes.heap / 4 = omega (arith, m, k, joined_length (thing_contents l e s) (thing_words s) s.made (thing_sized l e s), h.taken, h.room) in
        ap (λ m. length m.heap) binds.storage ∙ all

    -- the operand on the way
    operand_half : (first : Stamp) (y : Operand) → IsOlder t y → word_in (half first) y ≡ word_in c y
    operand_half first (operand.Var x) o = older_kept d.env (t + 2) x.0 (Number d.next) (omega (arith, o)) ∙ binds.variables x.0 o
    operand_half first (operand.Word k) o = refl
    operand_half first (operand.Static p) o = refl
    operand_half first (operand.Code p) o = refl
    operand_half first (operand.Slot k) o = ap (λ m. Some (Number (wrap (m + k)))) binds.top

    first_address : moved d.next (pos 0) ≡ HEAP_START + 4 * s.store.heap
    first_address = omega (arith, next_is)

    second_address : moved d.next (pos 4) ≡ HEAP_START + 4 * suc s.store.heap
    second_address = omega (arith, next_is)

    abbrev tag_code : Tree
    tag_code = make kind.Add (of_var (t + 2)) (word 2) to rest

    tag_performs : (first second : Stamp) → 4 * vector_words n ≤ heap_left sizes c → performs words sizes l e t s c to rest row_of_vector 1 3 tag_code (stored first second)
    tag_performs first second room =
        compute_performs words sizes _ d.next 2 (d.next + 2) (newest_kept d.env (t + 2) (Number d.next)) refl (sum_small d.next 2 (omega (arith, next_is, h.room, h.small)))
        (arrive_changed words sizes l e t s c to rest (stored first second) (with_new_vector s.store n (FixV (pos 0))) (VectorV (length s.store.vectors)) (d.next + 2) None (grown_keeps first second room) (vector_word sizes l e s n d.storage d.next d.output kept_here.data_held))

    second_performs : (first : Stamp) → 4 * vector_words n ≤ heap_left sizes c → performs words sizes l e t s c to rest row_of_vector 1 6 (Do (op.Store (of_var (t + 2)) (pos 4) a) tag_code) (half first)
    second_performs first room =
        let some : 8 ≤ 4 * vector_words n = omega arith in
        let small : suc s.store.heap < 2 ^ 26 = omega (arith, room, some, h.next_is, h.room, h.small) in
        let old = get_some (slice_set d.storage.heap s.store.heap (Number 0x11)) (suc s.store.heap) (omega (arith, length-set d.storage.heap s.store.heap (Number 0x11), heap_length, room, some, h.next_is, h.room)) in
        let second : Stamp = stamp_in (words_in words sizes) (half first) a in
        let there : storing (half first) (moved d.next (pos 4)) (Number (4 * n)) second ≡ stored first second = ap (λ address. storing (half first) address (Number (4 * n)) second) second_address ∙ stored_heap (half first) (suc s.store.heap) (Number (4 * n)) second small in
        store_performs words sizes _ d.next (Number (4 * n)) old.0 (newest_kept d.env (t + 2) (Number d.next)) (operand_half first a older ∙ ea)
        (ap (long_at (half first).storage) second_address ∙ (heap_long (half first).storage (suc s.store.heap) small ∙ old.1))
        (may_reach words sizes (half first) (of_var (t + 2)) (moved d.next (pos 4)) (omega (arith, second_address, small)))
        (subst (λ x. performs words sizes l e t s c to rest row_of_vector 1 3 tag_code x) (sym there) (tag_performs first second room))

    stores_perform : 4 * vector_words n ≤ heap_left sizes c → performs words sizes l e t s c to rest row_of_vector 1 11 (Or (Take (var (t + 2)) (of_var (t + 1))) (no_heap (of_var (t + 1))) (Do (op.Store (of_var (t + 2)) (pos 0) (word 0x11)) (Do (op.Store (of_var (t + 2)) (pos 4) a) tag_code))) d
    stores_perform room =
        let some : 8 ≤ 4 * vector_words n = omega arith in
        let whole : 4 * vector_words n % 8 ≡ 0 = omega arith in
        let small : s.store.heap < 2 ^ 26 = omega (arith, room, some, h.next_is, h.room, h.small) in
        let old = get_some d.storage.heap s.store.heap (omega (arith, heap_length, room, some, h.next_is, h.room)) in
        let first : Stamp = stamp_in (words_in words sizes) taken (word 0x11) in
        let there : storing taken (moved d.next (pos 0)) (Number 0x11) first ≡ half first = ap (λ address. storing taken address (Number 0x11) first) first_address ∙ stored_heap taken s.store.heap (Number 0x11) first small in
        take_performs words sizes _ (4 * vector_words n) size (room_here room) whole
        (store_performs words sizes _ d.next (Number 0x11) old.0 (newest_kept d.env (t + 2) (Number d.next)) refl
        (ap (long_at d.storage) first_address ∙ (heap_long d.storage s.store.heap small ∙ old.1))
        (may_reach words sizes taken (of_var (t + 2)) (moved d.next (pos 0)) (omega (arith, first_address, small)))
        (subst (λ x. performs words sizes l e t s c to rest row_of_vector 1 6 (Do (op.Store (of_var (t + 2)) (pos 4) a) tag_code) x) (sym there) (second_performs first room)))

    no_room_performs : heap_left sizes c < 4 * vector_words n → performs words sizes l e t s c to rest row_of_vector 1 11 (Or (Take (var (t + 2)) (of_var (t + 1))) (no_heap (of_var (t + 1))) (Do (op.Store (of_var (t + 2)) (pos 0) (word 0x11)) (Do (op.Store (of_var (t + 2)) (pos 4) a) tag_code))) d
    no_room_performs lacking =
        let left : heap_left sizes d < 4 * vector_words n = subst (λ k. HEAP_START + sizes.heap - k < 4 * vector_words n) (sym binds.next) lacking in
        performs_more words sizes _ 11 (omega arith)
        (no_heap_performs words sizes _ (4 * vector_words n) size left (lacks d (of_var (t + 1)) (4 * vector_words n) binds size refl lacking))

    take_or_end : performs words sizes l e t s c to rest row_of_vector 1 11 (Or (Take (var (t + 2)) (of_var (t + 1))) (no_heap (of_var (t + 1))) (Do (op.Store (of_var (t + 2)) (pos 0) (word 0x11)) (Do (op.Store (of_var (t + 2)) (pos 4) a) tag_code))) d
    take_or_end = elim (cases_lt (heap_left sizes c) (4 * vector_words n)) [
      | inl lacking ↦ no_room_performs lacking
      | inr room ↦ stores_perform room
    ]

  -- ---- how many

  small_performs : 4 * n < LARGE → performs words sizes l e t s c to rest row_of_vector 1 17 (small_vector a t to rest) c
  small_performs lt =
      let d : Core = binding c (var t) (Number (4 * n + 12)) None in
      let b : Binds t c d = binds_one t c t (Number (4 * n + 12)) None (omega arith) in
      let d' : Core = binding d (var (t + 1)) (Number (4 * vector_words n)) None in
      let more : Binds t d d' = binds_one t d (t + 1) (Number (4 * vector_words n)) None (omega arith) in
      compute_performs words sizes _ (4 * n) 12 (4 * n + 12) ea refl (sum_small (4 * n) 12 (omega (arith, lt)))
      (compute_performs words sizes _ (4 * n + 12) EIGHTS (4 * vector_words n) (bound_word c t (Number (4 * n + 12)) None) refl (rounded n (omega (arith, lt)))
      (take_or_end d' (binds_then t c d d' b more) (bound_word d (t + 1) (Number (4 * vector_words n)) None)))

  no_heap_so_large : 2 ^ 28 < 4 * vector_words n → heap_left sizes c < 4 * vector_words n
  no_heap_so_large large = omega (arith, large, h.next_is, h.small)

  large_by : (b : Bool) → (4 * n == 2147483644) ≡ b → n < 536870912 → LARGE ≤ 4 * n → performs words sizes l e t s c to rest row_of_vector 1 6 (large_vector a) c
  large_by true eq lt le =
      let m : 4 * n ≡ 2147483644 = eqb-true (4 * n) 2147483644 eq in
      let is : 2147483656 ≡ 4 * vector_words n = omega (arith, m) in
      ask_performs_true words sizes _ (Number (4 * n)) (Number 2147483644) ea refl (ap Some eq)
      (lacks c (word 2147483656) 2147483656 (Rattle.select_rows.proofs.Keeping.binds_same t c) refl is (subst (λ k. heap_left sizes c < k) (sym is) (no_heap_so_large (omega (arith, m)))))
  large_by false eq lt le =
      let m : 4 * n ≡ 2147483644 → ⊥ = eqb-false (4 * n) 2147483644 eq in
      let below : 4 * n < 2147483644 = not_last n m lt in
      let is : 2147483648 ≡ 4 * vector_words n = omega (arith, below, le) in
      ask_performs_false words sizes _ (Number (4 * n)) (Number 2147483644) ea refl (ap Some eq)
      (lacks c (word 2147483648) 2147483648 (Rattle.select_rows.proofs.Keeping.binds_same t c) refl is (subst (λ k. heap_left sizes c < k) (sym is) (no_heap_so_large (omega (arith, is)))))
    where
      not_last : (n : ℕ) → (4 * n ≡ 2147483644 → ⊥) → n < 536870912 → 4 * n < 2147483644
      not_last n m lt = elim (cases_lt (4 * n) 2147483644) [
        | inl below ↦ below
        | inr above ↦ absurd (m (omega (arith, lt, above)))
      ]

  sized_by : (b : Bool) → nat_lt (4 * n) LARGE ≡ b → n < 536870912 → performs words sizes l e t s c to rest row_of_vector 1 20 (Ask test.Below a (word LARGE) (small_vector a t to rest) (large_vector a)) c
  sized_by true eq lt = ask_performs_true words sizes _ (Number (4 * n)) (Number LARGE) ea refl (ap Some eq) (small_performs (ltb-true (4 * n) LARGE eq))
  sized_by false eq lt =
      performs_more words sizes _ 20 (omega arith)
      (ask_performs_false words sizes _ (Number (4 * n)) (Number LARGE) ea refl (ap Some eq) (large_by (4 * n == 2147483644) refl lt (ltb-false (4 * n) LARGE eq)))

  pub sized_performs : n < 536870912 → performs words sizes l e t s c to rest row_of_vector 1 20 (Ask test.Below a (word LARGE) (small_vector a t to rest) (large_vector a)) c
  sized_performs lt = sized_by (nat_lt (4 * n) LARGE) refl lt

module _ (words : Words) (sizes : Sizes) (l : Layout) (e : Escapes) (t : ℕ) (s : State) (c : Core) (to : Var) (rest : Tree) (h : HoldsData sizes l e s c.storage c.next c.output) (a : Operand) (older : IsOlder t a) where
  sign_by : (x : ℤ) → IsFixnum x → word_in c a ≡ Some (Number (fixnum_word x)) → performs words sizes l e t s c to rest (with_size x (λ n. Changes (with_new_vector s.store n (FixV (pos 0))) (VectorV (length s.store.vectors)))) 1 23 (Ask test.Lt a (word 0) (fault 6) (Ask test.Below a (word LARGE) (small_vector a t to rest) (large_vector a))) c
  sign_by (pos n) fix ea =
      let n_small : n < 536870912 = ltb-true n 536870912 fix.ranged in
      let en : word_in c a ≡ Some (Number (4 * n)) = ea ∙ ap (λ k. Some (Number k)) (natural_word n) in
      ask_performs_false words sizes _ (Number (fixnum_word (pos n))) (Number 0) ea refl (ap Some (lt_fixnums (pos n) (pos 0) fix (record { ranged = refl }) ∙ le-ltb n 0 (omega arith)))
      (sized_performs words sizes l e t s c to rest h a n older en n_small)
  sign_by (negsuc n) fix ea =
      performs_more words sizes _ 23 (omega arith)
      (ask_performs_true words sizes _ (Number (fixnum_word (negsuc n))) (Number 0) ea refl (ap Some (lt_fixnums (negsuc n) (pos 0) fix (record { ranged = refl })))
      (fault_performs words sizes l e t s c to rest 6 IndexRange c refl (keeps_same sizes l e t s c h)))

pub make_vector_row : IsCodeOf builtin.MakeVector (code_of builtin.MakeVector)
make_vector_row words sizes l e t s c to rest a v h ha =
    fixnum_performs_one words sizes l e t s c to rest 23 a v (λ x. with_size x (λ n. Changes (with_new_vector s.store n (FixV (pos 0))) (VectorV (length s.store.vectors)))) _ ha h (omega arith)
    (λ x f ea. sign_by words sizes l e t s c to rest h a ha.older x f ea)
