-- Words of the heap that were taken are stored one by one.
use Rattle.std.proofs.Common.{◌≡◌, ℕ, suc, ◌+◌, ◌*◌, ◌^◌, ◌<◌, ◌≤◌, List, [], ◌∷◌, ◌++◌, length, map, replicate, slice_get, slice_set, Some, pos, refl, sym, ap, ◌∙◌, subst, arith, length-append, append_assoc, append-nil}
use Rattle.std.proofs.lemmas.List.{length-replicate, replicate-append-replicate}
use Rattle.t_base.specs.declared.basics.Var.{Var}
use Rattle.word_ir.specs.declared.operands.Operand.{Operand}
use Rattle.word_ir.specs.declared.operands.Operand.TheVariants as operand
use Rattle.word_ir.specs.declared.words.WordOp.TheVariants as op
use Rattle.word_ir.specs.declared.words.Words.{Words}
use Rattle.word_ir.specs.Word.{Word, Number, moved}
use Rattle.word_ir.specs.Storage.{Sizes, HEAP_START, long_at}
use Rattle.word_ir.specs.State.{Own, kept}
use Rattle.word_ir.specs.State as word_state
use Rattle.word_ir.specs.Step.{words_in}
use Rattle.word_ir.specs.Stamps.{Stamp, Stamped}
use Rattle.word_trees.specs.Trees.{Tree, Do}
use Rattle.word_trees.specs.Cores.{Core, at, word_in, stamp_in, storing}
use Rattle.word_trees.specs.Leads.{Leads, Performs}
use Rattle.word_trees.proofs.Performing.{store_performs}
use Rattle.frame_words.proofs.Reading.{heap_long}
use Rattle.select_rows.specs.Macros.{of_var}
use Rattle.select_rows.proofs.Keeping.{may_reach, get_set, get_set_other, get_some}
use Rattle.select_rows.proofs.Pairs.{stored_heap}
use Rattle.frame_heap.specs.Codes.{heap_stores}

-- with another heap
abbrev pub with_heap : Core → List Word → List Stamp → Core
with_heap c ws stamps = record c { storage = record c.storage { heap = ws }; longs = record c.longs { heap = stamps } }

-- The heap has some words and then zeros. Stamps below a place are as before.
pub record IsFilled (d : Core) (old : List Stamp) (free : ℕ) (done : List Word) (left : ℕ) : Type 0 where
  pub heap : d.storage.heap ≡ done ++ replicate left (Number 0)
  pub stamps : (i : ℕ) → i < free → slice_get d.longs.heap i ≡ slice_get old i

-- ---- lists

set_first : (done : List Word) (left : ℕ) (w : Word) → slice_set (done ++ replicate (suc left) (Number 0)) (length done) w ≡ (done ++ w ∷ []) ++ replicate left (Number 0)
set_first [] left w = refl
set_first (x ∷ done) left w = ap (λ ws. x ∷ ws) (set_first done left w)

filled_length : (done : List Word) (left : ℕ) → length (done ++ replicate left (Number 0)) ≡ length done + left
filled_length done left = length-append done (replicate left (Number 0)) ∙ ap (λ n. length done + n) (length-replicate left (Number 0))

-- words that stay 0
pub zeros_left : {d : Core} {old : List Stamp} {free : ℕ} {done : List Word} (n left : ℕ) → IsFilled d old free done (n + left) → IsFilled d old free (done ++ replicate n (Number 0)) left
zeros_left {d} {old} {free} {done} n left h = record {
  heap = h.heap ∙ (ap (λ ws. done ++ ws) (sym (replicate-append-replicate n left (Number 0))) ∙ sym (append_assoc done (replicate n (Number 0)) (replicate left (Number 0))));
  stamps = h.stamps;
}

-- ---- the code

pub least_less : (words : Words) (sizes : Sizes) (Q : Stamped → Type 0) (least cost : ℕ) (tree : Tree) (c : Core) → Performs words sizes Q least cost tree c → Performs words sizes Q 0 cost tree c
least_less words sizes Q least cost tree c h = record {
  leads = λ block place moves steps spelled.
      let o : Leads words sizes Q least cost (at c block place moves steps) = h.leads block place moves steps spelled in
      record { count = o.count; enough = omega arith; there = o.there; moves = o.moves };
}

heap_address : (base i : ℕ) → base + i < 2 ^ 26 → moved (HEAP_START + 4 * base) (pos (4 * i)) ≡ HEAP_START + 4 * (base + i)
heap_address base i lt = omega (arith, lt)

-- variables with words
abbrev pub HaveWords : word_state.Env Word → List Var → List Word → Type 0
HaveWords env [] [] = Unit {0}
HaveWords env [] (w ∷ ws) = ⊥
HaveWords env (x ∷ xs) [] = ⊥
HaveWords env (x ∷ xs) (w ∷ ws) = (kept env (Own x.0) ≡ Some w) × HaveWords env xs ws

pub words_count : (env : word_state.Env Word) (xs : List Var) (ws : List Word) → HaveWords env xs ws → length ws ≡ length xs
words_count env [] [] h = refl
words_count env [] (w ∷ ws) h = absurd h
words_count env (x ∷ xs) [] h = absurd h
words_count env (x ∷ xs) (w ∷ ws) h = let n = words_count env xs ws h.1 in omega (arith, n)

module _ (words : Words) (sizes : Sizes) (Q : Stamped → Type 0) (t base : ℕ) (old : List Stamp) (free : ℕ) (low : free ≤ base) where
  pub heap_store_performs : (least cost place : ℕ) (d : Core) (done : List Word) (left : ℕ) (x : Operand) (w : Word) (rest : Tree) → IsFilled d old free done (suc left) → kept d.env (Own t) ≡ Some (Number (HEAP_START + 4 * base)) → length done ≡ base + place → base + place < 2 ^ 26 → word_in d x ≡ Some w
      → ((ws : List Word) (stamps : List Stamp) → IsFilled (with_heap d ws stamps) old free (done ++ w ∷ []) left → (base + place < length d.longs.heap → slice_get stamps (base + place) ≡ Some (stamp_in (words_in words sizes) d x)) → ((i : ℕ) → (i ≡ base + place → ⊥) → slice_get stamps i ≡ slice_get d.longs.heap i) → Performs words sizes Q least cost rest (with_heap d ws stamps))
      → Performs words sizes Q 1 (3 + cost) (Do (op.Store (of_var t) (pos (4 * place)) x) rest) d
  heap_store_performs least cost place d done left x w rest h address is small held next =
      let inside : base + place < length d.storage.heap = let n = ap length h.heap ∙ filled_length done (suc left) in omega (arith, n, is) in
      let there = get_some d.storage.heap (base + place) inside in
      let stamp : Stamp = stamp_in (words_in words sizes) d x in
      let a : moved (HEAP_START + 4 * base) (pos (4 * place)) ≡ HEAP_START + 4 * (base + place) = heap_address base place small in
      let now : slice_set d.storage.heap (base + place) w ≡ (done ++ w ∷ []) ++ replicate left (Number 0) =
      ap (λ ws. slice_set ws (base + place) w) h.heap ∙ (ap (λ n. slice_set (done ++ replicate (suc left) (Number 0)) n w) (sym is) ∙ set_first done left w) in
      store_performs words sizes Q (HEAP_START + 4 * base) w there.0 address held
      (ap (long_at d.storage) a ∙ (heap_long d.storage (base + place) small ∙ there.1))
      (may_reach words sizes d (of_var t) (moved (HEAP_START + 4 * base) (pos (4 * place))) (omega (arith, a, small)))
      (subst (Performs words sizes Q least cost rest) (sym (ap (λ m. storing d m w stamp) a ∙ stored_heap d (base + place) w stamp small))
      (next (slice_set d.storage.heap (base + place) w) (slice_set d.longs.heap (base + place) stamp)
      (record { heap = now; stamps = λ i lt. get_set_other d.longs.heap (base + place) i stamp (λ eq. absurd (omega (arith, eq, lt, low))) ∙ h.stamps i lt })
      (λ lt. get_set d.longs.heap (base + place) stamp lt)
      (λ i ne. get_set_other d.longs.heap (base + place) i stamp (λ eq. ne (sym eq)))))

  pub heap_vars_perform : (cost : ℕ) (rest : Tree) (xs : List Var) (ws : List Word) (place : ℕ) (d : Core) (done : List Word) (left : ℕ) → IsFilled d old free done (length xs + left) → kept d.env (Own t) ≡ Some (Number (HEAP_START + 4 * base)) → length done ≡ base + place → base + place + length xs ≤ 2 ^ 26 → HaveWords d.env xs ws
      → ((hs : List Word) (stamps : List Stamp) → IsFilled (with_heap d hs stamps) old free (done ++ ws) left → Performs words sizes Q 0 cost rest (with_heap d hs stamps))
      → Performs words sizes Q 0 (3 * length xs + cost) (heap_stores t place (map operand.Var xs) rest) d
  heap_vars_perform cost rest [] [] place d done left h address is small held next =
      let n : cost ≡ 3 * 0 + cost = omega arith in
      let m : 0 + left ≡ left = omega arith in
      subst (λ k. Performs words sizes Q 0 k rest d) n
      (next d.storage.heap d.longs.heap (subst (λ k. IsFilled d old free k left) (sym (append-nil done)) (subst (IsFilled d old free done) m h)))
  heap_vars_perform cost rest [] (w ∷ ws) place d done left h address is small held next = absurd held
  heap_vars_perform cost rest (x ∷ xs) [] place d done left h address is small held next = absurd held
  heap_vars_perform cost rest (x ∷ xs) (w ∷ ws) place d done left h address is small held next =
      let n : 3 + (3 * length xs + cost) ≡ 3 * length (x ∷ xs) + cost = omega arith in
      let m : length (x ∷ xs) + left ≡ suc (length xs + left) = omega arith in
      let more : length (done ++ w ∷ []) ≡ base + suc place = let k = length-append done (w ∷ []) in omega (arith, k, is) in
      subst (λ k. Performs words sizes Q 0 k (heap_stores t place (map operand.Var (x ∷ xs)) rest) d) n
      (least_less words sizes Q 1 (3 + (3 * length xs + cost)) (heap_stores t place (map operand.Var (x ∷ xs)) rest) d
      (heap_store_performs 0 (3 * length xs + cost) place d done (length xs + left) (operand.Var x) w (heap_stores t (suc place) (map operand.Var xs) rest) (subst (IsFilled d old free done) m h) address is (omega (arith, small)) held.0
      (λ hs stamps filled here others.
      heap_vars_perform cost rest xs ws (suc place) (with_heap d hs stamps) (done ++ w ∷ []) left filled address more (omega (arith, small)) held.1
      (λ hs' stamps' all. next hs' stamps' (subst (λ k. IsFilled (with_heap d hs' stamps') old free k left) (append_assoc done (w ∷ []) ws) all)))))
