-- The state behind a group of closures: where they stand, and what their words and contents are.
use Rattle.std.proofs.Common.{◌≡◌, ℕ, suc, ◌+◌, ◌*◌, ◌<◌, false, List, [], ◌∷◌, ◌++◌, length, slice_get, Some, None, option_map, refl, sym, ap, ◌∙◌, subst, arith}
use Rattle.std.specs.List.{flat_map, AllByRecursion}
use Rattle.std.specs.Option.{option_map_or}
use Rattle.std.proofs.lemmas.Bool.{eq-eqb, ne_eqb}
use Rattle.std.proofs.lemmas.Option.{slice_get_within}
use Rattle.t_prim.specs.Values.{Text, Literal, PrintName, ClosureV, text_of}
use Rattle.word_ir.specs.Word.{Word}
use Rattle.word_ir.specs.Storage.{Sizes, Regions, HEAP_START}
use Rattle.frame_ir.specs.Values.{Closure, record_words}
use Rattle.frame_ir.specs.States.{State, Thing, APair, AVector, AClosure, AnObject, AnEscape, ACell, thing_words}
use Rattle.frame_words.specs.Segments.{place_of, total_of, AreDistinct}
use Rattle.frame_words.specs.Layouts.{Layout, ClosureOf, fixed_address}
use Rattle.frame_words.specs.ValueWords.{same_thing, heap_place, word_for, tagged, or_other}
use Rattle.frame_words.specs.Contents.{Escapes, closure_contents, thing_contents}
use Rattle.frame_words.specs.Holding.{IsMade, AreCaptured, HoldsData}
use Rattle.frame_words.specs.Growing.{WordsStay, Adds}
use Rattle.frame_words.proofs.Segments.{get_left, get_right, missed, first_place, later_place}
use Rattle.frame_words.proofs.Growing.{words_stay, sizes_stay, total_alike}
use Rattle.frame_words.proofs.Reading.{fixed_is}
use Rattle.frame_heap.specs.Groups.{closures_from, words_of_records, with_records}

-- ---- lists of things

-- behind others
place_behind : (size : Thing → ℕ) (xs ys : List Thing) (x : Thing) (q : ℕ) → place_of same_thing size xs x ≡ None → place_of same_thing size ys x ≡ Some q → place_of same_thing size (xs ++ ys) x ≡ Some (total_of size xs + q)
place_behind size [] ys x q h k = let n : q ≡ 0 + q = omega arith in k ∙ ap Some n
place_behind size (y ∷ xs) ys x q h k =
    let m = missed same_thing size y x xs h in
    let n : size y + (total_of size xs + q) ≡ size y + total_of size xs + q = omega arith in
    later_place same_thing size y x (xs ++ ys) (Some (total_of size xs + q)) m.0 (place_behind size xs ys x q m.1 k) ∙ ap Some n

none_of_both : (size : Thing → ℕ) (xs ys : List Thing) (x : Thing) → place_of same_thing size xs x ≡ None → place_of same_thing size ys x ≡ None → place_of same_thing size (xs ++ ys) x ≡ None
none_of_both size [] ys x h k = k
none_of_both size (y ∷ xs) ys x h k =
    let m = missed same_thing size y x xs h in
    later_place same_thing size y x (xs ++ ys) None m.0 (none_of_both size xs ys x m.1 k)

none_resized : (size other : Thing → ℕ) (xs : List Thing) (x : Thing) → place_of same_thing size xs x ≡ None → place_of same_thing other xs x ≡ None
none_resized size other [] x h = refl
none_resized size other (y ∷ xs) x h = let m = missed same_thing size y x xs h in later_place same_thing other y x xs None m.0 (none_resized size other xs x m.1)

distinct_both : (size other : Thing → ℕ) (xs ys : List Thing) → AreDistinct same_thing size xs → AreDistinct same_thing other ys → AllByRecursion (λ x. place_of same_thing other ys x ≡ None) xs → AreDistinct same_thing other (xs ++ ys)
distinct_both size other [] ys d k apart = k
distinct_both size other (x ∷ xs) ys d k apart = (none_of_both other xs ys x (none_resized size other xs x d.0) apart.0, distinct_both size other xs ys d.1 k apart.1)

all_of_made : (P R : Thing → Type 0) (xs : List Thing) → ((x : Thing) → P x → R x) → AllByRecursion P xs → AllByRecursion R xs
all_of_made P R [] f h = tt
all_of_made P R (x ∷ xs) f h = (f x h.0, all_of_made P R xs f h.1)

-- ---- closures from a number on

pub no_closure_from : (size : Thing → ℕ) (n i : ℕ) (cs : List Closure) → i < n → place_of same_thing size (closures_from n cs) (AClosure i) ≡ None
no_closure_from size n i [] lt = refl
no_closure_from size n i (c ∷ cs) lt = later_place same_thing size (AClosure n) (AClosure i) (closures_from (suc n) cs) None (ne_eqb n i (λ eq. absurd (omega (arith, eq, lt)))) (no_closure_from size (suc n) i cs (omega (arith, lt)))

pub no_pair_from : (size : Thing → ℕ) (n k : ℕ) (cs : List Closure) → place_of same_thing size (closures_from n cs) (APair k) ≡ None
no_pair_from size n k [] = refl
no_pair_from size n k (c ∷ cs) = later_place same_thing size (AClosure n) (APair k) (closures_from (suc n) cs) None refl (no_pair_from size (suc n) k cs)

no_vector_from : (size : Thing → ℕ) (n k : ℕ) (cs : List Closure) → place_of same_thing size (closures_from n cs) (AVector k) ≡ None
no_vector_from size n k [] = refl
no_vector_from size n k (c ∷ cs) = later_place same_thing size (AClosure n) (AVector k) (closures_from (suc n) cs) None refl (no_vector_from size (suc n) k cs)

no_object_from : (size : Thing → ℕ) (n k : ℕ) (cs : List Closure) → place_of same_thing size (closures_from n cs) (AnObject k) ≡ None
no_object_from size n k [] = refl
no_object_from size n k (c ∷ cs) = later_place same_thing size (AClosure n) (AnObject k) (closures_from (suc n) cs) None refl (no_object_from size (suc n) k cs)

pub no_escape_from : (size : Thing → ℕ) (n k : ℕ) (cs : List Closure) → place_of same_thing size (closures_from n cs) (AnEscape k) ≡ None
no_escape_from size n k [] = refl
no_escape_from size n k (c ∷ cs) = later_place same_thing size (AClosure n) (AnEscape k) (closures_from (suc n) cs) None refl (no_escape_from size (suc n) k cs)

no_cell_from : (size : Thing → ℕ) (n k : ℕ) (cs : List Closure) → place_of same_thing size (closures_from n cs) (ACell k) ≡ None
no_cell_from size n k [] = refl
no_cell_from size n k (c ∷ cs) = later_place same_thing size (AClosure n) (ACell k) (closures_from (suc n) cs) None refl (no_cell_from size (suc n) k cs)

distinct_from : (size : Thing → ℕ) (n : ℕ) (cs : List Closure) → AreDistinct same_thing size (closures_from n cs)
distinct_from size n [] = tt
distinct_from size n (c ∷ cs) = (no_closure_from size (suc n) n cs (omega arith), distinct_from size (suc n) cs)

-- their sizes
abbrev AreSized : (Thing → ℕ) → ℕ → List Closure → Type 0
AreSized size n cs = (j : ℕ) (c : Closure) → slice_get cs j ≡ Some c → size (AClosure (n + j)) ≡ record_words (length c.captured)

sized_rest : (size : Thing → ℕ) (n : ℕ) (c : Closure) (cs : List Closure) → AreSized size n (c ∷ cs) → AreSized size (suc n) cs
sized_rest size n c cs h j x at = let e : suc n + j ≡ n + suc j = omega arith in ap (λ i. size (AClosure i)) e ∙ h (suc j) x at

sized_first : (size : Thing → ℕ) (n : ℕ) (c : Closure) (cs : List Closure) → AreSized size n (c ∷ cs) → size (AClosure n) ≡ record_words (length c.captured)
sized_first size n c cs h = let e : n ≡ n + 0 = omega arith in ap (λ i. size (AClosure i)) e ∙ h 0 c refl

total_from : (size : Thing → ℕ) (n : ℕ) (cs : List Closure) → AreSized size n cs → total_of size (closures_from n cs) ≡ words_of_records cs
total_from size n [] h = refl
total_from size n (c ∷ cs) h = let a = sized_first size n c cs h in let b = total_from size (suc n) cs (sized_rest size n c cs h) in omega (arith, a, b)

place_from : (size : Thing → ℕ) (n : ℕ) (pre : List Closure) (c : Closure) (post : List Closure) → AreSized size n (pre ++ c ∷ post) → place_of same_thing size (closures_from n (pre ++ c ∷ post)) (AClosure (n + length pre)) ≡ Some (words_of_records pre)
place_from size n [] c post h = first_place same_thing size (AClosure n) (AClosure (n + 0)) (closures_from (suc n) post) (eq-eqb n (n + 0) (omega arith))
place_from size n (p ∷ pre) c post h =
    let e : n + suc (length pre) ≡ suc n + length pre = omega arith in
    let a = sized_first size n p (pre ++ c ∷ post) h in
    let b : size (AClosure n) + words_of_records pre ≡ record_words (length p.captured) + words_of_records pre = omega (arith, a) in
    let deep = place_from size (suc n) pre c post (sized_rest size n p (pre ++ c ∷ post) h) in
    later_place same_thing size (AClosure n) (AClosure (n + suc (length pre))) (closures_from (suc n) (pre ++ c ∷ post)) (Some (words_of_records pre)) (ne_eqb n (n + suc (length pre)) (λ eq. absurd (omega (arith, eq))))
    (ap (λ i. place_of same_thing size (closures_from (suc n) (pre ++ c ∷ post)) (AClosure i)) e ∙ deep)
    ∙ ap Some b

-- ---- the state behind

pub same_text : (s : State) (cs : List Closure) (t : Text) (b : List ℕ) → text_of s.store t ≡ Some b → text_of (with_records s cs).store t ≡ Some b
same_text s cs (Literal k) b h = h
same_text s cs (PrintName n) b h = h

module _ (sizes : Sizes) (l : Layout) (e : Escapes) (s : State) (storage : Regions Word) (next : ℕ) (output : List ℕ) (h : HoldsData sizes l e s storage next output) (cs : List Closure) where
  abbrev u : State
  u = with_records s cs

  abbrev n : ℕ
  n = length s.closures

  abbrev pub records_add : Adds l s (with_records s cs)
  records_add = record {
    more = closures_from (length s.closures) cs;
    made = refl;
    pairs = λ k p at. at;
    vectors = λ k items at. at;
    closures = λ i c at. get_left s.closures cs i c at;
    objects = λ i object at. at;
    cells = λ k x at. at;
    frames = omega arith;
    texts = same_text s cs;
    pairs_apart = λ k p found. no_pair_from (thing_words u) (length s.closures) k cs;
    closures_apart = λ i p found.
        let there = fixed_is sizes l e s storage next output h (ClosureOf i) p found in
        no_closure_from (thing_words u) (length s.closures) i cs (slice_get_within s.closures i (record { code = i; captured = [] }) there);
  }

  pub records_stay : WordsStay l s (with_records s cs)
  records_stay = words_stay l s u records_add h.made

  record_at : (j : ℕ) (c : Closure) → slice_get cs j ≡ Some c → slice_get (s.closures ++ cs) (length s.closures + j) ≡ Some c
  record_at j c at = get_right s.closures cs j ∙ at

  sized : AreSized (thing_words u) (length s.closures) cs
  sized j c at = ap (λ o. option_map_or (λ x. record_words (length x.captured)) o 0) (record_at j c at)

  pub records_total : total_of (thing_words u) (closures_from (length s.closures) cs) ≡ words_of_records cs
  records_total = total_from (thing_words u) (length s.closures) cs sized

  old_total : total_of (thing_words u) s.made ≡ s.store.heap
  old_total = sym (total_alike (thing_words s) (thing_words u) s.made (sizes_stay l s u records_add h.made)) ∙ sym h.taken

  not_new : (j : ℕ) (y : Thing) → IsMade l s y → same_thing y (AClosure (length s.closures + j)) ≡ false
  not_new j (APair k) m = refl
  not_new j (AVector k) m = refl
  not_new j (AClosure i) m = ne_eqb i (length s.closures + j) (λ eq. absurd (omega (arith, slice_get_within s.closures i m.0 m.1, eq)))
  not_new j (AnObject i) m = refl
  not_new j (AnEscape b) m = refl
  not_new j (ACell k) m = refl

  absent : (j : ℕ) (xs : List Thing) → AllByRecursion (IsMade l s) xs → place_of same_thing (thing_words u) xs (AClosure (length s.closures + j)) ≡ None
  absent j [] m = refl
  absent j (y ∷ xs) m = later_place same_thing (thing_words u) y (AClosure (length s.closures + j)) xs None (not_new j y m.0) (absent j xs m.1)

  -- the word of each
  pub record_word : (pre : List Closure) (c : Closure) (post : List Closure) → cs ≡ pre ++ c ∷ post → word_for l u (ClosureV (length s.closures + length pre)) ≡ Some (HEAP_START + 4 * (s.store.heap + words_of_records pre) + 2)
  record_word pre c post is =
      let place : place_of same_thing (thing_words u) (closures_from (length s.closures) cs) (AClosure (length s.closures + length pre)) ≡ Some (words_of_records pre) =
      subst (λ ys. place_of same_thing (thing_words u) (closures_from (length s.closures) ys) (AClosure (length s.closures + length pre)) ≡ Some (words_of_records pre)) (sym is)
      (place_from (thing_words u) (length s.closures) pre c post (λ j x at. sized j x (ap (λ ys. slice_get ys j) is ∙ at))) in
      let found : heap_place u (AClosure (length s.closures + length pre)) ≡ Some (s.store.heap + words_of_records pre) =
      place_behind (thing_words u) s.made (closures_from (length s.closures) cs) (AClosure (length s.closures + length pre)) (words_of_records pre) (absent (length pre) s.made h.made) place
      ∙ ap (λ k. Some (k + words_of_records pre)) old_total in
      ap (λ o. tagged 2 (or_other (option_map (λ p. HEAP_START + 4 * p) o) (fixed_address l (ClosureOf (length s.closures + length pre))))) found

  old_apart : (y : Thing) → IsMade l s y → place_of same_thing (thing_words u) (closures_from (length s.closures) cs) y ≡ None
  old_apart (APair k) m = no_pair_from (thing_words u) (length s.closures) k cs
  old_apart (AVector k) m = no_vector_from (thing_words u) (length s.closures) k cs
  old_apart (AClosure i) m = no_closure_from (thing_words u) (length s.closures) i cs (slice_get_within s.closures i m.0 m.1)
  old_apart (AnObject i) m = no_object_from (thing_words u) (length s.closures) i cs
  old_apart (AnEscape b) m = no_escape_from (thing_words u) (length s.closures) b cs
  old_apart (ACell k) m = no_cell_from (thing_words u) (length s.closures) k cs

  pub records_distinct : AreDistinct same_thing (thing_words u) u.made
  records_distinct =
      distinct_both (thing_words s) (thing_words u) s.made (closures_from (length s.closures) cs) h.distinct (distinct_from (thing_words u) (length s.closures) cs)
      (all_of_made (IsMade l s) (λ y. place_of same_thing (thing_words u) (closures_from (length s.closures) cs) y ≡ None) s.made old_apart h.made)

  -- the contents, and that they are made
  contents_by : (m : ℕ) (xs : List Closure) → ((j : ℕ) (c : Closure) → slice_get xs j ≡ Some c → slice_get u.closures (m + j) ≡ Some c) → flat_map (thing_contents l e u) (closures_from m xs) ≡ flat_map (closure_contents l u) xs
  contents_by m [] at = refl
  contents_by m (c ∷ xs) at =
      let zero_is : m ≡ m + 0 = omega arith in
      let first : slice_get u.closures m ≡ Some c = ap (slice_get u.closures) zero_is ∙ at 0 c refl in
      let rest : flat_map (thing_contents l e u) (closures_from (suc m) xs) ≡ flat_map (closure_contents l u) xs =
      contents_by (suc m) xs (λ j x there. let k : suc m + j ≡ m + suc j = omega arith in ap (slice_get u.closures) k ∙ at (suc j) x there) in
      let here : thing_contents l e u (AClosure m) ≡ closure_contents l u c = ap (λ o. option_map_or (closure_contents l u) o []) first in
      ap (λ ws. ws ++ flat_map (thing_contents l e u) (closures_from (suc m) xs)) here ∙ ap (λ ws. closure_contents l u c ++ ws) rest

  pub records_contents : flat_map (thing_contents l e u) (closures_from (length s.closures) cs) ≡ flat_map (closure_contents l u) cs
  records_contents = contents_by (length s.closures) cs record_at

  made_by : (m : ℕ) (xs : List Closure) → ((j : ℕ) (c : Closure) → slice_get xs j ≡ Some c → slice_get u.closures (m + j) ≡ Some c) → AllByRecursion (λ c. AreCaptured l u c.captured) xs → AllByRecursion (IsMade l u) (closures_from m xs)
  made_by m [] at k = tt
  made_by m (c ∷ xs) at k =
      let zero_is : m ≡ m + 0 = omega arith in (
        (c, ap (slice_get u.closures) zero_is ∙ at 0 c refl, k.0),
        made_by (suc m) xs (λ j x there. let i : suc m + j ≡ m + suc j = omega arith in ap (slice_get u.closures) i ∙ at (suc j) x there) k.1,
      )

  pub records_made : AllByRecursion (λ c. AreCaptured l u c.captured) cs → AllByRecursion (IsMade l u) (closures_from (length s.closures) cs)
  records_made k = made_by (length s.closures) cs record_at k
