-- The code of a group of closures: room, addresses, records.
use Rattle.std.proofs.Common.{◌≡◌, ℕ, zero, suc, ◌+◌, ◌-◌, ◌*◌, ◌/◌, ◌%◌, ◌^◌, ◌<◌, ◌≤◌, inl, inr, true, false, List, [], ◌∷◌, ◌++◌, length, map, replicate, Option, Some, None, is_some, refl, sym, ap, ◌∙◌, subst, arith, append_assoc, append-nil, length-append}
use Rattle.std.specs.List.{flat_map, list_all, AllByRecursion}
use Rattle.std.proofs.lemmas.Bool.{cases_lt}
use Rattle.std.proofs.lemmas.List.{length-replicate}
use Rattle.program_runs.specs.Runs.{Full}
use Rattle.t_base.specs.declared.basics.Var.{Var}
use Rattle.t_prim.specs.Values.{ClosureV}
use Rattle.word_ir.specs.declared.operands.Operand.TheVariants as operand
use Rattle.word_ir.specs.declared.words.Arith.TheVariants as kind
use Rattle.word_ir.specs.declared.words.Words.{Words}
use Rattle.word_ir.specs.Word.{Word, Number, Code}
use Rattle.word_ir.specs.Storage.{Sizes, HEAP_START}
use Rattle.word_ir.specs.Computing as computing
use Rattle.word_ir.specs.Computing.{computed}
use Rattle.word_ir.specs.State.{Own, kept}
use Rattle.word_ir.specs.State as word_state
use Rattle.word_ir.specs.Stamps.{Stamp, Stamped}
use Rattle.frame_ir.specs.declared.forms.Place.{Place}
use Rattle.frame_ir.specs.declared.forms.Place.TheVariants as At
use Rattle.frame_ir.specs.Values.{Value, Lasting, Closure, Env, is_lasting, record_words}
use Rattle.frame_ir.specs.States.{State, AClosure, thing_words}
use Rattle.frame_ir.specs.Arguments.{kept_values}
use Rattle.frame_ir.specs.Groups.{Making, heap_count, address, with_addresses, youngest_birth, addressed}
use Rattle.tagged_words.proofs.Chars.{signed_natural, fitted_natural}
use Rattle.word_trees.specs.Trees.{Tree}
use Rattle.word_trees.specs.Cores.{Core, some_stamp, heap_left, binding}
use Rattle.word_trees.specs.Leads.{Performs}
use Rattle.word_trees.proofs.Operations.{service_of_two_ends}
use Rattle.word_trees.proofs.Performing.{performs_more, arrives, ends, moves_performs, take_performs, no_heap_performs, compute_performs}
use Rattle.frame_words.specs.Layouts.{Layout, ClosureOf, fixed_place}
use Rattle.frame_words.specs.ValueWords.{heap_place, word_for}
use Rattle.frame_words.specs.Contents.{Escapes, captures, closure_contents, thing_contents}
use Rattle.frame_words.specs.Holding.{AreCaptured, HoldsData}
use Rattle.frame_words.proofs.Sizes.{thing_sized}
use Rattle.frame_words.proofs.Changing.{joined_length}
use Rattle.frame_words.proofs.Growing.{no_place, joined_append}
use Rattle.select_rows.specs.Macros.{var, word, never}
use Rattle.select_rows.proofs.Keeping.{older_kept, newest_kept, keeps_same}
use Rattle.frame_stacks.specs.Stacks.{Ways}
use Rattle.frame_stacks.specs.Frames.{HoldsVariable, HoldsVariables, Holds}
use Rattle.frame_pushes.proofs.Kept.{values_count}
use Rattle.frame_heap.specs.Groups.{with_record, heap_records, IsOutside, AreOutside, words_of_records, with_records}
use Rattle.frame_heap.specs.Codes.{take_words, heap_stores, words_at, group_words, static_closure, address_code, addresses, record_code, records, make_group}
use Rattle.frame_heap.specs.Laws.{GoesOnOrFull, AreKept, group_cost}
use Rattle.frame_heap.proofs.Filling.{with_heap, IsFilled, zeros_left, least_less, HaveWords, words_count, heap_store_performs, heap_vars_perform}
use Rattle.frame_heap.proofs.Held.{stands_kept}
use Rattle.frame_heap.proofs.Grown.{grown_held}
use Rattle.frame_heap.proofs.Closures.{records_add, records_stay, records_total, record_word, records_distinct, records_contents, records_made, no_escape_from}
use Rattle.frame_heap.proofs.Variables.{one_bound, same_variables, captured_words}

-- ---- counts

abbrev least_of : List Making → ℕ
least_of [] = 0
least_of (m ∷ ms) = 1

words_both : (cs ds : List Closure) → words_of_records (cs ++ ds) ≡ words_of_records cs + words_of_records ds
words_both [] ds = omega arith
words_both (c ∷ cs) ds = omega (arith, words_both cs ds)

one_more : (at : Place) (c : Closure) (post : List Closure) → with_record at c post ≡ with_record at c [] ++ post
one_more At.Heap c post = refl
one_more (At.Frame slot) c post = refl
one_more At.Static c post = refl

one_count : (at : Place) (c : Closure) → length (with_record at c []) ≡ heap_count at
one_count At.Heap c = refl
one_count (At.Frame slot) c = refl
one_count At.Static c = refl

one_words : (at : Place) (c : Closure) → words_of_records (with_record at c []) ≡ words_at at (length c.captured)
one_words At.Heap c = omega arith
one_words (At.Frame slot) c = refl
one_words At.Static c = refl

-- the most moves of the records alone
abbrev record_cost : List Making → ℕ
record_cost [] = 0
record_cost (m ∷ ms) = 6 + 3 * length m.kept + record_cost ms

both_costs : (ms : List Making) → 3 * length ms + record_cost ms ≡ group_cost ms
both_costs [] = refl
both_costs (m ∷ ms) = omega (arith, both_costs ms)

even_words : (ms : List Making) → group_words ms % 2 ≡ 0
even_words [] = refl
even_words (m ∷ ms) = let a = even_at m.at (length m.kept) in omega (arith, a, even_words ms)
  where
    even_at : (at : Place) (k : ℕ) → words_at at k % 2 ≡ 0
    even_at At.Heap k = omega arith
    even_at (At.Frame slot) k = refl
    even_at At.Static k = refl

abbrev SameCounts : List Making → List (List Value) → Type 0
SameCounts [] vss = Unit {0}
SameCounts (m ∷ ms) [] = ⊥
SameCounts (m ∷ ms) (vs ∷ vss) = (length vs ≡ length m.kept) × SameCounts ms vss

kept_counts : (env : Env) (ms : List Making) (vss : List (List Value)) → AreKept env ms vss → SameCounts ms vss
kept_counts env [] vss h = tt
kept_counts env (m ∷ ms) [] h = absurd h
kept_counts env (m ∷ ms) (vs ∷ vss) h = (values_count env m.kept vs h.0, kept_counts env ms vss h.1)

all_words : (ms : List Making) (vss : List (List Value)) → SameCounts ms vss → group_words ms ≡ words_of_records (heap_records ms vss)
all_words [] vss h = refl
all_words (m ∷ ms) [] h = absurd h
all_words (m ∷ ms) (vs ∷ vss) h =
    let a = ap words_of_records (one_more m.at (record { code = m.code; captured = vs }) (heap_records ms vss)) in
    let b = words_both (with_record m.at (record { code = m.code; captured = vs }) []) (heap_records ms vss) in
    let d = one_words m.at (record { code = m.code; captured = vs }) in
    let e : words_at m.at (length vs) ≡ words_at m.at (length m.kept) = ap (words_at m.at) h.0 in
    omega (arith, a, b, d, e, all_words ms vss h.1)

sum_computed : (x y : ℕ) → x + y < 2 ^ 31 → computed kind.Add x y ≡ computing.Gives (x + y)
sum_computed x y lt = rw (signed_natural x (omega (arith, lt)), signed_natural y (omega (arith, lt))) (fitted_natural (x + y) lt)

module _ (words : Words) (sizes : Sizes) (Q : Stamped → Type 0) (l : Layout) (e : Escapes) (g : Ways) (t : ℕ) (s : State) (cs : List Closure) (start : Core) (h : HoldsData sizes l e s start.storage start.next start.output)
    (apart : (i p : ℕ) → fixed_place l (ClosureOf i) ≡ Some p → heap_place s (AClosure i) ≡ None) (room : 4 * (s.store.heap + words_of_records cs) ≤ sizes.heap) where
  abbrev u : State
  u = with_records s cs

  abbrev base_word : Option Word
  base_word = Some (Number (HEAP_START + 4 * s.store.heap))

  -- ---- addresses

  some_is : (o : Option ℕ) → is_some o ≡ true → (p : ℕ) × (o ≡ Some p)
  some_is (Some p) q = (p, refl)
  some_is None q = absurd (cc)

  static_word : (code : ℕ) → is_some (fixed_place l (ClosureOf code)) ≡ true → word_for l u (ClosureV code) ≡ Some (static_closure l code)
  static_word code there =
      let p = some_is (fixed_place l (ClosureOf code)) there in
      let was : heap_place s (AClosure code) ≡ None = apart code p.0 p.1 in
      let add = records_add sizes l e s start.storage start.next start.output h cs in
      let none : heap_place u (AClosure code) ≡ None = no_place l s u add h.made (AClosure code) was (add.closures_apart code p.0 p.1) in
      rw (none, p.1) refl

  one_address : (at : Place) (to : Var) (code k birth : ℕ) (vs : List Value) (pre post : List Closure) (env : Env) (d : Core) (least cost : ℕ) (tail : Tree)
      → cs ≡ pre ++ with_record at (record { code = code; captured = vs }) post → IsOutside l at code vs → length vs ≡ k → to.0 < t → HoldsVariables sizes l g t u env d → (0 < words_at at k → kept d.env (Own t) ≡ base_word)
      → ((x : Word) (stamp : Stamp) → HoldsVariables sizes l g t u ((to.0, address (length s.closures + length pre) birth code at) ∷ env) (binding d to x stamp) → Performs words sizes Q least cost tail (binding d to x stamp))
      → Performs words sizes Q 1 (3 + cost) (address_code l t (words_of_records pre) to code at tail) d
  one_address At.Heap to code k birth vs pre post env d least cost tail is outside count below held base next =
      let all : words_of_records cs ≡ words_of_records pre + (record_words (length vs) + words_of_records post) = ap words_of_records is ∙ words_both pre (record { code = code; captured = vs } ∷ post) in
      let small : sizes.heap ≤ 2 ^ 28 = h.small in
      let has : kept d.env (Own t) ≡ base_word = base (omega arith) in
      let number : HEAP_START + 4 * (s.store.heap + words_of_records pre) + 2 ≡ HEAP_START + 4 * s.store.heap + (4 * words_of_records pre + 2) = omega arith in
      let known = record_word sizes l e s start.storage start.next start.output h cs pre (record { code = code; captured = vs }) post is in
      compute_performs words sizes Q (HEAP_START + 4 * s.store.heap) (4 * words_of_records pre + 2) (HEAP_START + 4 * s.store.heap + (4 * words_of_records pre + 2)) has refl
      (sum_computed (HEAP_START + 4 * s.store.heap) (4 * words_of_records pre + 2) (omega (arith, room, all, small)))
      (next (Number (HEAP_START + 4 * s.store.heap + (4 * words_of_records pre + 2))) None
      (one_bound sizes l g t u env d to (Lasting (ClosureV (length s.closures + length pre))) (Number (HEAP_START + 4 * s.store.heap + (4 * words_of_records pre + 2))) None below
      (record { number = HEAP_START + 4 * s.store.heap + (4 * words_of_records pre + 2); known = known ∙ ap Some number; is = refl }) held))
  one_address (At.Frame slot) to code k birth vs pre post env d least cost tail is outside count below held base next = absurd outside
  one_address At.Static to code k birth vs pre post env d least cost tail is outside count below held base next =
      performs_more words sizes Q (3 + cost) (omega arith)
      (moves_performs words sizes Q (Number (static_closure l code)) refl
      (next (Number (static_closure l code)) None
      (one_bound sizes l g t u env d to (Lasting (ClosureV code)) (Number (static_closure l code)) None below
      (record { number = static_closure l code; known = static_word code outside.1; is = refl }) held)))

  addresses_perform : (ms : List Making) (vss : List (List Value)) (pre : List Closure) (birth : ℕ) (env : Env) (d : Core) (cost : ℕ) (rest : Tree)
      → cs ≡ pre ++ heap_records ms vss → AreOutside l ms vss → SameCounts ms vss → AllByRecursion (λ m. m.to.0 < t) ms → HoldsVariables sizes l g t u env d → (0 < group_words ms → kept d.env (Own t) ≡ base_word)
      → ((ws : word_state.Env Word) (stamps : word_state.Env Stamp) → HoldsVariables sizes l g t u (with_addresses (length s.closures + length pre) birth ms env) (record d { env = ws; stamps = stamps }) → kept ws (Own t) ≡ kept d.env (Own t) → Performs words sizes Q 0 cost rest (record d { env = ws; stamps = stamps }))
      → Performs words sizes Q (least_of ms) (3 * length ms + cost) (addresses l t (words_of_records pre) ms rest) d
  addresses_perform [] vss pre birth env d cost rest is outside counts below held base next =
      let n : cost ≡ 3 * 0 + cost = omega arith in
      subst (λ k. Performs words sizes Q 0 k rest d) n (next d.env d.stamps held refl)
  addresses_perform (m ∷ ms) [] pre birth env d cost rest is outside counts below held base next = absurd outside
  addresses_perform (m ∷ ms) (vs ∷ vss) pre birth env d cost rest is outside counts below held base next =
      let n : 3 + (3 * length ms + cost) ≡ 3 * length (m ∷ ms) + cost = omega arith in
      let c : Closure = record { code = m.code; captured = vs } in
      let more : List Closure = pre ++ with_record m.at c [] in
      let is_more : cs ≡ more ++ heap_records ms vss = is ∙ (ap (λ ys. pre ++ ys) (one_more m.at c (heap_records ms vss)) ∙ sym (append_assoc pre (with_record m.at c []) (heap_records ms vss))) in
      let place : words_of_records more ≡ words_of_records pre + words_at m.at (length m.kept) = words_both pre (with_record m.at c []) ∙ (ap (λ k. words_of_records pre + k) (one_words m.at c ∙ ap (words_at m.at) counts.0)) in
      let number : length s.closures + length more ≡ length s.closures + length pre + heap_count m.at = let a = length-append pre (with_record m.at c []) in let b = one_count m.at c in omega (arith, a, b) in
      subst (λ k. Performs words sizes Q 1 k (addresses l t (words_of_records pre) (m ∷ ms) rest) d) n
      (one_address m.at m.to m.code (length m.kept) birth vs pre (heap_records ms vss) env d (least_of ms) (3 * length ms + cost) (addresses l t (words_of_records pre + words_at m.at (length m.kept)) ms rest) is outside.0 counts.0 below.0 held
      (λ some. base (omega (arith, some)))
      (λ x stamp bound.
      subst (λ k. Performs words sizes Q (least_of ms) (3 * length ms + cost) (addresses l t k ms rest) (binding d m.to x stamp)) place
      (addresses_perform ms vss more birth ((m.to.0, address (length s.closures + length pre) birth m.code m.at) ∷ env) (binding d m.to x stamp) cost rest is_more outside.1 counts.1 below.1 bound
      (λ some. older_other d t m.to x below.0 ∙ base (omega (arith, some)))
      (λ ws stamps all same.
      next ws stamps
      (subst (λ k. HoldsVariables sizes l g t u (with_addresses k birth ms ((m.to.0, address (length s.closures + length pre) birth m.code m.at) ∷ env)) (record d { env = ws; stamps = stamps })) number all)
      (same ∙ older_other d t m.to x below.0)))))
    where
      older_other : (d : Core) (t : ℕ) (to : Var) (x : Word) → to.0 < t → kept ((Own to.0, x) ∷ d.env) (Own t) ≡ kept d.env (Own t)
      older_other d t to x lt = rw (Rattle.std.proofs.lemmas.Bool.ne_eqb to.0 t (λ eq. absurd (omega (arith, eq, lt)))) refl

  -- ---- records

  abbrev written : List Closure → List Word
  written ys = flat_map (closure_contents l u) ys

  -- header, code and values in one list
  joined_record : (done : List Word) (a b : Word) (ws zeros : List Word) → (((((done ++ a ∷ []) ++ b ∷ []) ++ Number 0 ∷ []) ++ ws) ++ zeros) ≡ done ++ ((a ∷ b ∷ Number 0 ∷ ws) ++ zeros)
  joined_record done a b ws zeros = simp append_assoc refl

  one_record : (at : Place) (code : ℕ) (xs : List Var) (vs : List Value) (pre : List Closure) (d : Core) (done : List Word) (left cost : ℕ) (tail : Tree)
      → (at ≡ At.Heap → HaveWords d.env xs (captures l u vs)) → length vs ≡ length xs → (0 < words_at at (length xs) → kept d.env (Own t) ≡ base_word) → IsFilled d start.longs.heap s.store.heap done (words_at at (length xs) + left) → length done ≡ s.store.heap + words_of_records pre → IsOutside l at code vs
      → s.store.heap + words_of_records pre + words_at at (length xs) ≤ 2 ^ 26
      → ((hs : List Word) (stamps : List Stamp) → IsFilled (with_heap d hs stamps) start.longs.heap s.store.heap (done ++ written (with_record at (record { code = code; captured = vs }) [])) left → Performs words sizes Q 0 cost tail (with_heap d hs stamps))
      → Performs words sizes Q 0 (6 + 3 * length xs + cost) (record_code l t (words_of_records pre) code xs at tail) d
  one_record At.Heap code xs vs pre d done left cost tail has count base filled is outside low next =
      let address : kept d.env (Own t) ≡ base_word = base (omega arith) in
      let pad : ℕ = length (Number 0x1D ∷ Code (l.closure_entry code) ∷ Number 0 ∷ captures l u vs) % 2 in
      let held : HaveWords d.env xs (captures l u vs) = has refl in
      let n = words_count d.env xs (captures l u vs) held in
      let left_is : record_words (length xs) + left ≡ suc (suc (1 + (length xs + (pad + left)))) = omega (arith, n) in
      let m : 3 + (3 + (3 * length xs + cost)) ≡ 6 + 3 * length xs + cost = omega arith in
      let all : List Word = written (record { code = code; captured = vs } ∷ []) in
      subst (λ k. Performs words sizes Q 0 k (record_code l t (words_of_records pre) code xs At.Heap tail) d) m
      (least_less words sizes Q 1 (3 + (3 + (3 * length xs + cost))) (record_code l t (words_of_records pre) code xs At.Heap tail) d
      (heap_store_performs words sizes Q t s.store.heap start.longs.heap s.store.heap (omega arith) 1 (3 + (3 * length xs + cost)) (words_of_records pre) d done (suc (1 + (length xs + (pad + left)))) (word 0x1D) (Number 0x1D)
      (heap_stores t (suc (words_of_records pre)) (operand.Code (l.closure_entry code) ∷ []) (heap_stores t (words_of_records pre + 3) (map operand.Var xs) tail)) (subst (IsFilled d start.longs.heap s.store.heap done) left_is filled) address is (omega (arith, low)) refl
      (λ hs ls first here others.
      heap_store_performs words sizes Q t s.store.heap start.longs.heap s.store.heap (omega arith) 0 (3 * length xs + cost) (suc (words_of_records pre)) (with_heap d hs ls) (done ++ Number 0x1D ∷ []) (1 + (length xs + (pad + left))) (operand.Code (l.closure_entry code)) (Code (l.closure_entry code))
      (heap_stores t (words_of_records pre + 3) (map operand.Var xs) tail) first address (let k = length-append done (Number 0x1D ∷ []) in omega (arith, k, is)) (omega (arith, low)) refl
      (λ hs' ls' second here' others'.
      heap_vars_perform words sizes Q t s.store.heap start.longs.heap s.store.heap (omega arith) cost tail xs (captures l u vs) (words_of_records pre + 3) (with_heap d hs' ls') (((done ++ Number 0x1D ∷ []) ++ Code (l.closure_entry code) ∷ []) ++ Number 0 ∷ []) (pad + left)
      (zeros_left 1 (length xs + (pad + left)) second) address
      (let k = length-append done (Number 0x1D ∷ []) in let k' = length-append (done ++ Number 0x1D ∷ []) (Code (l.closure_entry code) ∷ []) in let k'' = length-append ((done ++ Number 0x1D ∷ []) ++ Code (l.closure_entry code) ∷ []) (Number 0 ∷ []) in omega (arith, k, k', k'', is))
      (omega (arith, low)) held
      (λ hs'' ls'' third.
      next hs'' ls''
      (subst (λ ws. IsFilled (with_heap d hs'' ls'') start.longs.heap s.store.heap ws left)
      (joined_record done (Number 0x1D) (Code (l.closure_entry code)) (captures l u vs) (replicate pad (Number 0)) ∙ ap (λ ws. done ++ ws) (sym (append-nil (closure_contents l u (record { code = code; captured = vs })))))
      (zeros_left pad left third)))))))
  one_record (At.Frame slot) code xs vs pre d done left cost tail has count base filled is outside low next = absurd outside
  one_record At.Static code xs vs pre d done left cost tail has count base filled is outside low next =
      let n : 0 + left ≡ left = omega arith in
      performs_more words sizes Q (6 + 3 * length xs + cost) (omega arith)
      (next d.storage.heap d.longs.heap (subst (λ ws. IsFilled d start.longs.heap s.store.heap ws left) (sym (append-nil done)) (subst (IsFilled d start.longs.heap s.store.heap done) n filled)))

  written_both : (xs ys : List Closure) → written (xs ++ ys) ≡ written xs ++ written ys
  written_both xs ys = joined_append (closure_contents l u) xs ys

  record_length : (c : Closure) → length (closure_contents l u c) ≡ record_words (length c.captured)
  record_length c =
      let n : length (captures l u c.captured) ≡ length c.captured = Rattle.std.proofs.lemmas.List.length-map c.captured _ in
      let ws : List Word = Number 0x1D ∷ Code (l.closure_entry c.code) ∷ Number 0 ∷ captures l u c.captured in
      let k = length-append ws (replicate (length ws % 2) (Number 0)) in
      let z = length-replicate (length ws % 2) (Number 0) in
      omega (arith, n, k, z)

  written_length : (ys : List Closure) → length (written ys) ≡ words_of_records ys
  written_length [] = refl
  written_length (c ∷ ys) = let k = length-append (closure_contents l u c) (written ys) in omega (arith, k, record_length c, written_length ys)

  records_perform : (ms : List Making) (vss : List (List Value)) (pre : List Closure) (env : Env) (front : List Word) (d : Core) (left cost : ℕ) (rest : Tree)
      → length front ≡ s.store.heap → cs ≡ pre ++ heap_records ms vss → AreOutside l ms vss → AreKept env ms vss → HoldsVariables sizes l g t u env d → (0 < group_words ms → kept d.env (Own t) ≡ base_word)
      → IsFilled d start.longs.heap s.store.heap (front ++ written pre) (group_words ms + left)
      → ((hs : List Word) (stamps : List Stamp) → IsFilled (with_heap d hs stamps) start.longs.heap s.store.heap (front ++ written cs) left → Performs words sizes Q 0 cost rest (with_heap d hs stamps))
      → Performs words sizes Q 0 (record_cost ms + cost) (records l t (words_of_records pre) ms rest) d
  records_perform [] vss pre env front d left cost rest sized is outside known held base filled next =
      let n : 0 + left ≡ left = omega arith in
      let m : cost ≡ 0 + cost = omega arith in
      let same : pre ≡ cs = sym (is ∙ append-nil pre) in
      subst (λ k. Performs words sizes Q 0 k rest d) m
      (next d.storage.heap d.longs.heap (subst (λ ys. IsFilled d start.longs.heap s.store.heap (front ++ written ys) left) same (subst (IsFilled d start.longs.heap s.store.heap (front ++ written pre)) n filled)))
  records_perform (m ∷ ms) [] pre env front d left cost rest sized is outside known held base filled next = absurd outside
  records_perform (m ∷ ms) (vs ∷ vss) pre env front d left cost rest sized is outside known held base filled next =
      let c : Closure = record { code = m.code; captured = vs } in
      let more : List Closure = pre ++ with_record m.at c [] in
      let is_more : cs ≡ more ++ heap_records ms vss = is ∙ (ap (λ ys. pre ++ ys) (one_more m.at c (heap_records ms vss)) ∙ sym (append_assoc pre (with_record m.at c []) (heap_records ms vss))) in
      let count : length vs ≡ length m.kept = values_count env m.kept vs known.0 in
      let place : words_of_records more ≡ words_of_records pre + words_at m.at (length m.kept) = words_both pre (with_record m.at c []) ∙ (ap (λ k. words_of_records pre + k) (one_words m.at c ∙ ap (words_at m.at) count)) in
      let small : sizes.heap ≤ 2 ^ 28 = h.small in
      let total : words_of_records cs ≡ words_of_records more + words_of_records (heap_records ms vss) = ap words_of_records is_more ∙ words_both more (heap_records ms vss) in
      let done_length : length (front ++ written pre) ≡ s.store.heap + words_of_records pre = let k = length-append front (written pre) in omega (arith, k, sized, written_length pre) in
      let left_is : group_words (m ∷ ms) + left ≡ words_at m.at (length m.kept) + (group_words ms + left) = omega arith in
      let n : 6 + 3 * length m.kept + (record_cost ms + cost) ≤ record_cost (m ∷ ms) + cost = omega arith in
      let low : s.store.heap + words_of_records pre + words_at m.at (length m.kept) ≤ 2 ^ 26 = in_heap m.at (length m.kept) (words_of_records pre) (words_of_records more) (words_of_records (heap_records ms vss)) place total (room_words m.at (length m.kept) pre more (words_of_records (heap_records ms vss)) place total) in
      performs_more words sizes Q (record_cost (m ∷ ms) + cost) n
      (one_record m.at m.code m.kept vs pre d (front ++ written pre) (group_words ms + left) (record_cost ms + cost) (records l t (words_of_records pre + words_at m.at (length m.kept)) ms rest)
      (λ heap. let q : list_all is_lasting vs ≡ true = lasting_of m.at m.code vs heap outside.0 in (captured_words sizes l g t u env d m.kept vs held known.0 q).held) count
      (λ some. base (omega (arith, some))) (subst (IsFilled d start.longs.heap s.store.heap (front ++ written pre)) left_is filled) done_length outside.0 low
      (λ hs stamps now.
      subst (λ k. Performs words sizes Q 0 (record_cost ms + cost) (records l t k ms rest) (with_heap d hs stamps)) place
      (records_perform ms vss more env front (with_heap d hs stamps) left cost rest sized is_more outside.1 known.1
      (same_variables sizes l g t u env d (with_heap d hs stamps) refl refl held) (λ some. base (omega (arith, some)))
      (subst (λ ws. IsFilled (with_heap d hs stamps) start.longs.heap s.store.heap ws (group_words ms + left))
      (append_assoc front (written pre) (written (with_record m.at c [])) ∙ ap (λ ws. front ++ ws) (sym (written_both pre (with_record m.at c [])))) now)
      next)))
    where
      lasting_of : (at : Place) (code : ℕ) (vs : List Value) → at ≡ At.Heap → IsOutside l at code vs → list_all is_lasting vs ≡ true
      lasting_of At.Heap code vs q o = o
      lasting_of (At.Frame slot) code vs q o = absurd o
      lasting_of At.Static code vs q o = absurd (cc)

      room_words : (at : Place) (k : ℕ) (pre more : List Closure) (post : ℕ) → words_of_records more ≡ words_of_records pre + words_at at k → words_of_records cs ≡ words_of_records more + post → 4 * (s.store.heap + (words_of_records more + post)) ≤ sizes.heap
      room_words at k pre more post place total = omega (arith, room, total)

      in_heap : (at : Place) (k pre more post : ℕ) → more ≡ pre + words_at at k → words_of_records cs ≡ more + post → 4 * (s.store.heap + (more + post)) ≤ sizes.heap → s.store.heap + pre + words_at at k ≤ 2 ^ 26
      in_heap at k pre more post place total le = let small : sizes.heap ≤ 2 ^ 28 = h.small in omega (arith, place, le, small)

  captured_by : (at : Place) (code : ℕ) (xs : List Var) (vs : List Value) (env : Env) (d : Core) → HoldsVariables sizes l g t u env d → kept_values env xs ≡ Some vs → IsOutside l at code vs → AllByRecursion (λ c. AreCaptured l u c.captured) (with_record at (record { code = code; captured = vs }) [])
  captured_by At.Heap code xs vs env d held known outside = ((captured_words sizes l g t u env d xs vs held known outside).known, tt)
  captured_by (At.Frame slot) code xs vs env d held known outside = tt
  captured_by At.Static code xs vs env d held known outside = tt

  all_in_front : (at : Place) (c : Closure) (cs' : List Closure) → AllByRecursion (λ c. AreCaptured l u c.captured) (with_record at c []) → AllByRecursion (λ c. AreCaptured l u c.captured) cs' → AllByRecursion (λ c. AreCaptured l u c.captured) (with_record at c cs')
  all_in_front At.Heap c cs' one rest = (one.0, rest)
  all_in_front (At.Frame slot) c cs' one rest = rest
  all_in_front At.Static c cs' one rest = rest

  all_captured : (ms : List Making) (vss : List (List Value)) (env : Env) (d : Core) → HoldsVariables sizes l g t u env d → AreKept env ms vss → AreOutside l ms vss → AllByRecursion (λ c. AreCaptured l u c.captured) (heap_records ms vss)
  all_captured [] vss env d held known outside = tt
  all_captured (m ∷ ms) [] env d held known outside = tt
  all_captured (m ∷ ms) (vs ∷ vss) env d held known outside =
      all_in_front m.at (record { code = m.code; captured = vs }) (heap_records ms vss) (captured_by m.at m.code m.kept vs env d held known.0 outside.0) (all_captured ms vss env d held known.1 outside.1)

-- ---- the whole

module _ (words : Words) (sizes : Sizes) (l : Layout) (e : Escapes) (g : Ways) (t : ℕ) (s : State) (env : Env) (c : Core) (m : Making) (ms : List Making) (vss : List (List Value)) (rest : Tree) (h : Holds sizes l e g t s env c) (known : AreKept (addressed (m ∷ ms) env s) (m ∷ ms) vss) (outside : AreOutside l (m ∷ ms) vss) (below : AllByRecursion (λ x. x.to.0 < t) (m ∷ ms)) where
  abbrev all : List Making
  all = m ∷ ms

  abbrev made : List Closure
  made = heap_records (m ∷ ms) vss

  abbrev behind : State
  behind = with_records s (heap_records (m ∷ ms) vss)

  abbrev Q : Stamped → Type 0
  Q = GoesOnOrFull words sizes l e g t s (with_records s (heap_records (m ∷ ms) vss)) (addressed (m ∷ ms) env s) c rest

  counts : SameCounts (m ∷ ms) vss
  counts = kept_counts (addressed (m ∷ ms) env s) (m ∷ ms) vss known

  total : group_words (m ∷ ms) ≡ words_of_records (heap_records (m ∷ ms) vss)
  total = all_words (m ∷ ms) vss counts

  abbrev front : List Word
  front = flat_map (thing_contents l e s) s.made

  front_length : length (flat_map (thing_contents l e s) s.made) ≡ s.store.heap
  front_length = joined_length (thing_contents l e s) (thing_words s) s.made (thing_sized l e s) ∙ sym h.data_held.taken

  abbrev left : ℕ
  left = sizes.heap / 4 - (s.store.heap + words_of_records (heap_records (m ∷ ms) vss))

  module _ (room : 4 * (s.store.heap + words_of_records (heap_records (m ∷ ms) vss)) ≤ sizes.heap) (w : word_state.Env Word) (stamps : word_state.Env Stamp) (next : ℕ) (next_is : next ≡ HEAP_START + 4 * (s.store.heap + words_of_records (heap_records (m ∷ ms) vss))) (base : 0 < group_words (m ∷ ms) → kept w (Own t) ≡ Some (Number (HEAP_START + 4 * s.store.heap))) where
    abbrev d : Core
    d = record c { env = w; stamps = stamps; next = next }

    started : IsFilled d c.longs.heap s.store.heap (front ++ []) (group_words (m ∷ ms) + left)
    started =
        let n : sizes.heap / 4 - s.store.heap ≡ group_words (m ∷ ms) + left = omega (arith, total, room) in
        record {
          heap = h.data_held.heap ∙ (ap (λ k. front ++ replicate k (Number 0)) n ∙ ap (λ ws. ws ++ replicate (group_words (m ∷ ms) + left) (Number 0)) (sym (append-nil front)));
          stamps = λ i lt. refl;
        }

    finished : (w' : word_state.Env Word) (stamps' : word_state.Env Stamp) → HoldsVariables sizes l g t behind (addressed (m ∷ ms) env s) (record d { env = w'; stamps = stamps' }) → (hs : List Word) (ls : List Stamp)
        → IsFilled (with_heap (record d { env = w'; stamps = stamps' }) hs ls) c.longs.heap s.store.heap (front ++ flat_map (closure_contents l behind) made) left → Holds sizes l e g t behind (addressed (m ∷ ms) env s) (with_heap (record d { env = w'; stamps = stamps' }) hs ls)
    finished w' stamps' variables hs ls filled =
        grown_held sizes l e g t s behind env c h (records_add sizes l e s c.storage c.next c.output h.data_held made)
        (record {
          words = ap (λ n. s.store.heap + n) (sym (records_total sizes l e s c.storage c.next c.output h.data_held made));
          room = room;
          distinct = records_distinct sizes l e s c.storage c.next c.output h.data_held made;
          made = records_made sizes l e s c.storage c.next c.output h.data_held made
              (all_captured words sizes Q l e g t s made c h.data_held h.escapes.closures_apart room (m ∷ ms) vss (addressed (m ∷ ms) env s) (record d { env = w'; stamps = stamps' }) variables known outside);
          globals = refl;
          output = refl;
          no_escape = λ birth. no_escape_from (thing_words behind) (length s.closures) birth made;
        })
        w' stamps' next hs ls next_is
        (subst (λ ws. IsFilled (with_heap (record d { env = w'; stamps = stamps' }) hs ls) c.longs.heap s.store.heap (front ++ ws) left) (sym (records_contents sizes l e s c.storage c.next c.output h.data_held made)) filled)
        (addressed (m ∷ ms) env s)
        (same_variables sizes l g t behind (addressed (m ∷ ms) env s) (record d { env = w'; stamps = stamps' }) (with_heap (record d { env = w'; stamps = stamps' }) hs ls) refl refl variables)

    old_variable : (x : ℕ) (v : Value) → HoldsVariable sizes l g t s d x v → HoldsVariable sizes l g t behind d x v
    old_variable x v o = record { older = o.older; word = o.word; stamp = o.stamp; held = o.held; stamped = o.stamped; stands = stands_kept sizes l e g s behind c d (records_stay sizes l e s c.storage c.next c.output h.data_held made) v o.word o.stamp o.stands }

    old_variables : HoldsVariables sizes l g t s env d → HoldsVariables sizes l g t behind env d
    old_variables held = record { each = λ x v found. old_variable x v (held.each x v found) }

    body : HoldsVariables sizes l g t s env d → Performs words sizes Q 1 (group_cost (m ∷ ms)) (addresses l t 0 (m ∷ ms) (records l t 0 (m ∷ ms) rest)) d
    body held =
        let costs = both_costs (m ∷ ms) in
        let no_pre : length s.closures + 0 ≡ length s.closures = omega arith in
        performs_more words sizes Q (group_cost (m ∷ ms)) (omega (arith, costs))
        (addresses_perform words sizes Q l e g t s made c h.data_held h.escapes.closures_apart room (m ∷ ms) vss [] (youngest_birth s) env d (record_cost (m ∷ ms) + 0) (records l t 0 (m ∷ ms) rest) refl outside counts below (old_variables held) base
        (λ w' stamps' bound same.
        let variables : HoldsVariables sizes l g t behind (addressed (m ∷ ms) env s) (record d { env = w'; stamps = stamps' }) =
        subst (λ k. HoldsVariables sizes l g t behind (with_addresses k (youngest_birth s) (m ∷ ms) env) (record d { env = w'; stamps = stamps' })) no_pre bound in
        records_perform words sizes Q l e g t s made c h.data_held h.escapes.closures_apart room (m ∷ ms) vss [] (addressed (m ∷ ms) env s) front (record d { env = w'; stamps = stamps' }) left 0 rest front_length refl outside known variables
        (λ some. same ∙ base some) (record { heap = started.heap; stamps = started.stamps })
        (λ hs ls filled.
        arrives words sizes Q
        (λ block place moves steps spelled. inl (record { core = with_heap (record d { env = w'; stamps = stamps' }) hs ls; holds = finished w' stamps' variables hs ls filled; block = block; place = place; moves = moves; steps = steps; there = refl; spelled = spelled })))))

  full : (n : ℕ) → group_words (m ∷ ms) ≡ suc n → heap_left sizes c < 4 * suc n → Performs words sizes Q 1 (5 + group_cost (m ∷ ms)) (take_words t (suc n) (addresses l t 0 (m ∷ ms) (records l t 0 (m ∷ ms) rest))) c
  full n is lacking =
      performs_more words sizes Q (5 + group_cost (m ∷ ms)) (omega arith)
      (no_heap_performs words sizes Q (4 * suc n) refl lacking
      (ends words sizes Q 3 _ c (Full false (4 * suc n) (heap_left sizes c)) (service_of_two_ends words sizes c 4 (word (4 * suc n)) (word 0) (4 * suc n) 0 (Full false (4 * suc n) (heap_left sizes c)) never refl refl refl)
      (λ block place moves steps. inr (record {
        asked = 4 * suc n;
        more = omega (arith, is, total);
        lacking = lacking;
        ends = record { core = c; keeps = keeps_same sizes l e t s c h.data_held; block = block; place = place; moves = moves; steps = steps; there = refl };
      }))))

  temporary : (x : Word) (stamp : Stamp) (next : ℕ) → HoldsVariables sizes l g t s env (record (binding c (var t) x stamp) { next = next })
  temporary x stamp next = record {
    each = λ y v found.
        let o : HoldsVariable sizes l g t s c y v = h.variables.each y v found in
        record { older = o.older; word = o.word; stamp = o.stamp; held = older_kept c.env t y x o.older ∙ o.held; stamped = ap some_stamp (older_kept c.stamps t y stamp o.older) ∙ o.stamped; stands = o.stands };
  }

  taken : (n : ℕ) → group_words (m ∷ ms) ≡ suc n → 4 * suc n ≤ heap_left sizes c → Performs words sizes Q 1 (5 + group_cost (m ∷ ms)) (take_words t (suc n) (addresses l t 0 (m ∷ ms) (records l t 0 (m ∷ ms) rest))) c
  taken n is enough =
      let whole : 4 * suc n % 8 ≡ 0 = omega (arith, is, even_words (m ∷ ms)) in
      let next_is : c.next + 4 * suc n ≡ HEAP_START + 4 * (s.store.heap + words_of_records (heap_records (m ∷ ms) vss)) = omega (arith, is, total, h.data_held.next_is) in
      let room : 4 * (s.store.heap + words_of_records (heap_records (m ∷ ms) vss)) ≤ sizes.heap = omega (arith, is, total, enough, h.data_held.next_is) in
      performs_more words sizes Q (5 + group_cost (m ∷ ms)) (omega arith)
      (take_performs words sizes Q (4 * suc n) refl enough whole
      (body room ((Own t, Number c.next) ∷ c.env) ((Own t, None) ∷ c.stamps) (c.next + 4 * suc n) next_is (λ some. newest_kept c.env t (Number c.next) ∙ ap (λ a. Some (Number a)) h.data_held.next_is)
      (temporary (Number c.next) None (c.next + 4 * suc n))))

  by_words : (n : ℕ) → group_words (m ∷ ms) ≡ n → Performs words sizes Q 1 (5 + group_cost (m ∷ ms)) (take_words t n (addresses l t 0 (m ∷ ms) (records l t 0 (m ∷ ms) rest))) c
  by_words zero is =
      let room : 4 * (s.store.heap + words_of_records (heap_records (m ∷ ms) vss)) ≤ sizes.heap = omega (arith, is, total, h.data_held.room) in
      let next_is : c.next ≡ HEAP_START + 4 * (s.store.heap + words_of_records (heap_records (m ∷ ms) vss)) = omega (arith, is, total, h.data_held.next_is) in
      performs_more words sizes Q (5 + group_cost (m ∷ ms)) (omega arith)
      (body room c.env c.stamps c.next next_is (λ some. absurd (omega (arith, some, is))) (same_variables sizes l g t s env c c refl refl h.variables))
  by_words (suc n) is = elim (cases_lt (heap_left sizes c) (4 * suc n)) [
    | inl lacking ↦ full n is lacking
    | inr enough ↦ taken n is enough
  ]

  pub whole_group : Performs words sizes Q 1 (5 + group_cost (m ∷ ms)) (make_group l t (m ∷ ms) rest) c
  whole_group = by_words (group_words (m ∷ ms)) refl

pub group_performs : (words : Words) (sizes : Sizes) (l : Layout) (e : Escapes) (g : Ways) (t : ℕ) (s : State) (env : Env) (c : Core) (m : Making) (ms : List Making) (vss : List (List Value)) (rest : Tree) → Holds sizes l e g t s env c → AreKept (addressed (m ∷ ms) env s) (m ∷ ms) vss → AreOutside l (m ∷ ms) vss → AllByRecursion (λ x. x.to.0 < t) (m ∷ ms) → Performs words sizes (GoesOnOrFull words sizes l e g t s (with_records s (heap_records (m ∷ ms) vss)) (addressed (m ∷ ms) env s) c rest) 1 (5 + group_cost (m ∷ ms)) (make_group l t (m ∷ ms) rest) c
group_performs words sizes l e g t s env c m ms vss rest h known outside below = whole_group words sizes l e g t s env c m ms vss rest h known outside below
