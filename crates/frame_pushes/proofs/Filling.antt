-- Words that were pushed are stored one by one.
use Rattle.std.proofs.Common.{◌≡◌, ℕ, zero, suc, ◌+◌, ◌-◌, ◌*◌, ◌/◌, ◌^◌, ◌<◌, ◌≤◌, ◌⊎◌, inl, inr, Bool, true, false, List, [], ◌∷◌, ◌++◌, length, map, replicate, slice_get, slice_set, Some, pos, refl, sym, ap, ◌∙◌, subst, arith, length-append, append_assoc, append-nil}
use Rattle.std.proofs.lemmas.Bool.{ne_eqb, lt-ltb, le-ltb, cases_eq}
use Rattle.std.proofs.lemmas.List.{length-set, length-replicate}
use Rattle.t_base.specs.declared.basics.Var.{Var}
use Rattle.word_ir.specs.declared.operands.Operand.{Operand}
use Rattle.word_ir.specs.declared.operands.Operand.TheVariants as operand
use Rattle.word_ir.specs.declared.words.WordOp.TheVariants as op
use Rattle.word_ir.specs.declared.words.Words.{Words}
use Rattle.word_ir.specs.Word.{Word, moved, wrap}
use Rattle.word_ir.specs.Storage.{Sizes, HEAP_START, STACK_START, long_at}
use Rattle.word_ir.specs.State.{Own, kept}
use Rattle.word_ir.specs.State as word_state
use Rattle.word_ir.specs.Step.{words_in}
use Rattle.word_ir.specs.Stamps.{Stamp, Stamped, Live, birth_at, changed_at, as_written}
use Rattle.word_trees.specs.Trees.{Tree, Do}
use Rattle.word_trees.specs.Cores.{Core, at, word_in, stamp_in, some_stamp, storing, pushing}
use Rattle.word_trees.specs.Leads.{Leads, Performs, MayReach}
use Rattle.word_trees.proofs.Performing.{store_performs}
use Rattle.select_rows.proofs.Keeping.{get_set, get_set_other, get_some}
use Rattle.frame_words.proofs.Segments.{get_right}
use Rattle.frame_stacks.specs.Stacks.{Stack, stack_of, stack_address, IsStored, IsRaised}
use Rattle.frame_stacks.specs.Codes.{stores}
use Rattle.frame_stacks.proofs.Reading.{stack_long, in_stack}

-- a word that is stored, and its stamp
pub record Put : Type 0 where
  pub word : Word
  pub stamp : Stamp

abbrev pub put : Word → Stamp → Put
put w stamp = record { word = w; stamp = stamp }

-- The second stack has `count` words more than the first one, pushed by a step, the newest at a place. The first of them were stored.
pub record IsFilling (k d : Stack) (from count step : ℕ) (done : List Put) : Type 0 where
  pub raised : IsRaised k d count
  pub top : d.top ≡ stack_address from
  pub words : length d.words ≡ length k.words
  pub stamps : length d.stamps ≡ length k.stamps
  pub marked : length d.live ≡ count + length k.live
  pub stored : (i : ℕ) (x : Put) → slice_get done i ≡ Some x → IsStored d step (from + i) x.word x.stamp
  pub marks : (i : ℕ) → i < count → (written : Bool) × (slice_get d.live i ≡ Some (record { birth = step; written = written }))

-- ---- lists

get_replicate : {X : Type 0} (n i : ℕ) (x : X) (ys : List X) → i < n → slice_get (replicate n x ++ ys) i ≡ Some x
get_replicate zero i x ys lt = absurd (omega (arith, lt))
get_replicate (suc n) zero x ys lt = refl
get_replicate (suc n) (suc i) x ys lt = get_replicate n i x ys (omega (arith, lt))

get_behind : {X : Type 0} (n i : ℕ) (x : X) (ys : List X) → slice_get (replicate n x ++ ys) (n + i) ≡ slice_get ys i
get_behind n i x ys = let e : n + i ≡ length (replicate n x) + i = omega (arith, length-replicate n x) in ap (slice_get (replicate n x ++ ys)) e ∙ get_right (replicate n x) ys i

get_more : {X : Type 0} (xs : List X) (x y : X) (i : ℕ) → slice_get (xs ++ x ∷ []) i ≡ Some y → (slice_get xs i ≡ Some y) ⊎ ((i ≡ length xs) × (x ≡ y))
get_more [] x y zero e = inr (refl, cc)
get_more [] x y (suc i) e = absurd (cc)
get_more (z ∷ xs) x y zero e = inl e
get_more (z ∷ xs) x y (suc i) e = elim (get_more xs x y i e) [
  | inl h ↦ inl h
  | inr h ↦ inr (ap suc h.0, h.1)
]

get_below : {X : Type 0} (xs : List X) (i : ℕ) (x : X) → slice_get xs i ≡ Some x → i < length xs
get_below [] i x e = absurd (cc)
get_below (y ∷ xs) zero x e = omega arith
get_below (y ∷ xs) (suc i) x e = omega (arith, get_below xs i x e)

-- ---- nothing is stored yet

pub nothing_stored : (c : Core) (from count step : ℕ) → c.top ≡ stack_address (from + count) → IsFilling (stack_of c) (stack_of (pushing c count step)) from count step []
nothing_stored c from count step at = record {
  raised = record {
    top = omega (arith, at);
    reads = λ place le. refl;
    stamps = λ place le. refl;
    marks = λ i. get_behind count i (record { birth = step; written = false }) c.live;
  };
  top = omega (arith, at);
  words = refl;
  stamps = refl;
  marked = length-append (replicate count (record { birth = step; written = false })) c.live ∙ ap (λ n. n + length c.live) (length-replicate count (record { birth = step; written = false }));
  stored = λ i x e. absurd (cc);
  marks = λ i lt. (false, get_replicate count i (record { birth = step; written = false }) c.live lt);
}

-- ---- one word more

abbrev pub filled : Stack → ℕ → ℕ → Word → Stamp → Stack
filled d from i w stamp = record { top = d.top; words = slice_set d.words (from + i) w; stamps = slice_set d.stamps (from + i) stamp; live = changed_at as_written d.live i }

module _ (k d : Stack) (from count step : ℕ) (done : List Put) (w : Word) (stamp : Stamp) (h : IsFilling k d from count step done) (more : length done < count) (words : from + count ≤ length d.words) (stamps : from + count ≤ length d.stamps) where
  abbrev i : ℕ
  i = length done

  abbrev new : Stack
  new = filled d from (length done) w stamp

  marked_now : new.live ≡ slice_set d.live (length done) (record { birth = step; written = true })
  marked_now = let m = h.marks (length done) more in rw m.1 refl

  index_is : (j : ℕ) → (stack_address (from + j) - d.top) / 4 ≡ j
  index_is j = omega (arith, h.top)

  room_live : length done < length d.live
  room_live = omega (arith, h.marked, more)

  old_stored : (j : ℕ) (x : Word) (y : Stamp) → (j ≡ length done → ⊥) → IsStored d step (from + j) x y → IsStored new step (from + j) x y
  old_stored j x y ne o = record {
    reads = get_set_other d.words (from + length done) (from + j) w (λ eq. ne (omega (arith, eq))) ∙ o.reads;
    stamped = get_set_other d.stamps (from + length done) (from + j) stamp (λ eq. ne (omega (arith, eq))) ∙ o.stamped;
    pushed = o.pushed;
    marked = ap (slice_get new.live) (index_is j)
        ∙ (ap (λ ms. slice_get ms j) marked_now
        ∙ (get_set_other d.live (length done) j (record { birth = step; written = true }) (λ eq. ne (sym eq)) ∙ (sym (ap (slice_get d.live) (index_is j)) ∙ o.marked)));
  }

  new_stored : IsStored new step (from + length done) w stamp
  new_stored = record {
    reads = get_set d.words (from + length done) w (omega (arith, words, more));
    stamped = get_set d.stamps (from + length done) stamp (omega (arith, stamps, more));
    pushed = omega (arith, h.top);
    marked = ap (slice_get new.live) (index_is (length done)) ∙ (ap (λ ms. slice_get ms (length done)) marked_now ∙ get_set d.live (length done) (record { birth = step; written = true }) room_live);
  }

  all_stored : (j : ℕ) (x : Put) → slice_get (done ++ put w stamp ∷ []) j ≡ Some x → IsStored new step (from + j) x.word x.stamp
  all_stored j x found = elim (get_more done (put w stamp) x j found) [
    | inl e ↦ old_stored j x.word x.stamp (λ eq. absurd (omega (arith, get_below done j x e, eq))) (h.stored j x e)
    | inr e ↦ subst (λ p. IsStored new step (from + j) p.word p.stamp) e.1 (subst (λ n. IsStored new step (from + n) w stamp) (sym e.0) new_stored)
  ]

  marks_now : (j : ℕ) → j < count → (written : Bool) × (slice_get new.live j ≡ Some (record { birth = step; written = written }))
  marks_now j lt = elim (cases_eq j (length done)) [
    | inl eq ↦ (true, ap (λ ms. slice_get ms j) marked_now ∙ (ap (slice_get (slice_set d.live (length done) (record { birth = step; written = true }))) eq ∙ get_set d.live (length done) (record { birth = step; written = true }) room_live))
    | inr ne ↦
        let m = h.marks j lt in
        (m.0, ap (λ ms. slice_get ms j) marked_now ∙ (get_set_other d.live (length done) j (record { birth = step; written = true }) (λ eq. ne (sym eq)) ∙ m.1))
  ]

  pub one_stored : IsFilling k new from count step (done ++ put w stamp ∷ [])
  one_stored = record {
    raised = record {
      top = h.raised.top;
      reads = λ place le. get_set_other d.words (from + length done) place w (λ eq. absurd (omega (arith, eq, le, h.raised.top, h.top, more))) ∙ h.raised.reads place le;
      stamps = λ place le. get_set_other d.stamps (from + length done) place stamp (λ eq. absurd (omega (arith, eq, le, h.raised.top, h.top, more))) ∙ h.raised.stamps place le;
      marks = λ j. ap (λ ms. slice_get ms (count + j)) marked_now ∙ (get_set_other d.live (length done) (count + j) (record { birth = step; written = true }) (λ eq. absurd (omega (arith, eq, more))) ∙ h.raised.marks j);
    };
    top = h.top;
    words = length-set d.words (from + length done) w ∙ h.words;
    stamps = length-set d.stamps (from + length done) stamp ∙ h.stamps;
    marked = ap length marked_now ∙ (length-set d.live (length done) (record { birth = step; written = true }) ∙ h.marked);
    stored = all_stored;
    marks = marks_now;
  }

-- ---- the code

-- with other words of the stack
abbrev pub with_stack : Core → List Word → List Stamp → List Live → Core
with_stack c ws stamps live = record c { storage = record c.storage { stack = ws }; longs = record c.longs { stack = stamps }; live = live }

stored_stack : (d : Core) (from i : ℕ) (w : Word) (stamp : Stamp) → d.top ≡ stack_address from → from + i < length d.storage.stack → storing d (stack_address (from + i)) w stamp ≡ with_stack d (slice_set d.storage.stack (from + i) w) (slice_set d.longs.stack (from + i) stamp) (changed_at as_written d.live i)
stored_stack d from i w stamp top lt =
    let place : (STACK_START + 4 * (from + i) - STACK_START) / 4 ≡ from + i = omega arith in
    let index : (STACK_START + 4 * (from + i) - d.top) / 4 ≡ i = omega (arith, top) in
    rw (le-ltb (STACK_START + 4 * (from + i)) HEAP_START (omega arith), le-ltb (STACK_START + 4 * (from + i)) STACK_START (omega arith), place, lt-ltb (from + i) (length d.storage.stack) lt, index) refl

store_address : (top place n : ℕ) → top ≡ stack_address place → place + n < 2 ^ 26 → moved (wrap (top + 4 * n)) (pos 0) ≡ stack_address (place + n)
store_address top place n e lt = omega (arith, e, lt)

pub any_count : (words : Words) (sizes : Sizes) (Q : Stamped → Type 0) (least cost : ℕ) (tree : Tree) (c : Core) → Performs words sizes Q least cost tree c → Performs words sizes Q 0 cost tree c
any_count words sizes Q least cost tree c h = record {
  leads = λ block place moves steps spelled.
      let o : Leads words sizes Q least cost (at c block place moves steps) = h.leads block place moves steps spelled in
      record { count = o.count; enough = omega arith; there = o.there; moves = o.moves };
}

-- the words of variables
abbrev pub AreHeld : word_state.Env Word → word_state.Env Stamp → List Var → List Put → Type 0
AreHeld env stamps [] [] = Unit {0}
AreHeld env stamps [] (p ∷ ps) = ⊥
AreHeld env stamps (x ∷ xs) [] = ⊥
AreHeld env stamps (x ∷ xs) (p ∷ ps) = (kept env (Own x.0) ≡ Some p.word) × (some_stamp (kept stamps (Own x.0)) ≡ p.stamp) × AreHeld env stamps xs ps

module _ (words : Words) (sizes : Sizes) (Q : Stamped → Type 0) (k : Stack) (from count step : ℕ) (small : sizes.stack ≤ 2 ^ 28) (room : from + count ≤ sizes.stack / 4) (long : length k.words ≡ sizes.stack / 4) (stamped : length k.stamps ≡ sizes.stack / 4) where
  may_fill : (d : Core) (done : List Put) → IsFilling k (stack_of d) from count step done → length done < count → MayReach (words_in words sizes) d (operand.Slot (4 * length done)) (stack_address (from + length done))
  may_fill d done h more =
      let m = h.marks (length done) more in
      let index : (STACK_START + 4 * (from + length done) - d.top) / 4 ≡ length done = omega (arith, h.top) in
      let born : birth_at (words_in words sizes) (at d 0 0 0 0).state (at d 0 0 0 0).marks (stack_address (from + length done)) ≡ Some step =
      rw (ne_eqb (stack_address (from + length done)) (STACK_START + sizes.stack) (λ eq. absurd (omega (arith, eq, more, room))), le-ltb (stack_address (from + length done)) d.top (omega (arith, h.top)), index, m.1) refl in
      record { reached = rw (in_stack d.storage (from + length done) (omega (arith, h.words, long, room, more)), born) refl }

  pub fill_performs : (least cost : ℕ) (d : Core) (done : List Put) (x : Operand) (w : Word) (rest : Tree) → IsFilling k (stack_of d) from count step done → length done < count → word_in d x ≡ Some w
      → (IsFilling k (filled (stack_of d) from (length done) w (stamp_in (words_in words sizes) d x)) from count step (done ++ put w (stamp_in (words_in words sizes) d x) ∷ [])
      → Performs words sizes Q least cost rest (with_stack d (slice_set d.storage.stack (from + length done) w) (slice_set d.longs.stack (from + length done) (stamp_in (words_in words sizes) d x)) (changed_at as_written d.live (length done))))
      → Performs words sizes Q 1 (3 + cost) (Do (op.Store (operand.Slot (4 * length done)) (pos 0) x) rest) d
  fill_performs least cost d done x w rest h more held next =
      let inside : from + length done < length d.storage.stack = omega (arith, h.words, long, room, more) in
      let low : from + length done < 2 ^ 26 = omega (arith, room, more, small) in
      let old = get_some d.storage.stack (from + length done) inside in
      let address : moved (wrap (d.top + 4 * length done)) (pos 0) ≡ stack_address (from + length done) = store_address d.top from (length done) h.top low in
      let stamp : Stamp = stamp_in (words_in words sizes) d x in
      store_performs words sizes Q (wrap (d.top + 4 * length done)) w old.0 refl held
      (ap (long_at d.storage) address ∙ (stack_long d.storage (from + length done) low ∙ old.1))
      (subst (MayReach (words_in words sizes) d (operand.Slot (4 * length done))) (sym address) (may_fill d done h more))
      (subst (λ a. Performs words sizes Q least cost rest (storing d a w stamp)) (sym address)
      (subst (Performs words sizes Q least cost rest) (sym (stored_stack d from (length done) w stamp h.top inside))
      (next (one_stored k (stack_of d) from count step done w stamp h more (omega (arith, h.words, long, room)) (omega (arith, h.stamps, stamped, room))))))

  pub fill_all : (cost : ℕ) (rest : Tree) (xs : List Var) (ps : List Put) (d : Core) (done : List Put) (place : ℕ) → place ≡ length done → IsFilling k (stack_of d) from count step done → AreHeld d.env d.stamps xs ps → length done + length xs ≤ count
      → ((ws : List Word) (stamps : List Stamp) (live : List Live) → IsFilling k (stack_of (with_stack d ws stamps live)) from count step (done ++ ps) → Performs words sizes Q 0 cost rest (with_stack d ws stamps live))
      → Performs words sizes Q 0 (3 * length xs + cost) (stores place (map operand.Var xs) rest) d
  fill_all cost rest [] [] d done place is h held le next =
      subst (λ n. Performs words sizes Q 0 n rest d) (let n : cost ≡ 3 * 0 + cost = omega arith in n)
      (next d.storage.stack d.longs.stack d.live (subst (IsFilling k (stack_of d) from count step) (sym (append-nil done)) h))
  fill_all cost rest [] (p ∷ ps) d done place is h held le next = absurd held
  fill_all cost rest (x ∷ xs) [] d done place is h held le next = absurd held
  fill_all cost rest (x ∷ xs) (p ∷ ps) d done place is h held le next =
      let more : length done < count = omega (arith, le) in
      let stamp : Stamp = stamp_in (words_in words sizes) d (operand.Var x) in
      let n : 3 + (3 * length xs + cost) ≡ 3 * length (x ∷ xs) + cost = omega arith in
      subst (λ m. Performs words sizes Q 0 m (stores place (map operand.Var (x ∷ xs)) rest) d) n
      (subst (λ m. Performs words sizes Q 0 (3 + (3 * length xs + cost)) (Do (op.Store (operand.Slot (4 * m)) (pos 0) (operand.Var x)) (stores (suc m) (map operand.Var xs) rest)) d) (sym is)
      (any_count words sizes Q 1 (3 + (3 * length xs + cost)) (Do (op.Store (operand.Slot (4 * length done)) (pos 0) (operand.Var x)) (stores (suc (length done)) (map operand.Var xs) rest)) d
      (fill_performs 0 (3 * length xs + cost) d done (operand.Var x) p.word (stores (suc (length done)) (map operand.Var xs) rest) h more held.0
      (λ filling.
      fill_all cost rest xs ps (with_stack d (slice_set d.storage.stack (from + length done) p.word) (slice_set d.longs.stack (from + length done) stamp) (changed_at as_written d.live (length done)))
      (done ++ put p.word p.stamp ∷ []) (suc (length done)) (let m = length-append done (put p.word p.stamp ∷ []) in omega (arith, m))
      (subst (λ y. IsFilling k (filled (stack_of d) from (length done) p.word stamp) from count step (done ++ put p.word y ∷ [])) held.1 filling) held.2
      (let m = length-append done (put p.word p.stamp ∷ []) in omega (arith, m, le))
      (λ ws stamps live all. next ws stamps live (subst (IsFilling k (stack_of (with_stack d ws stamps live)) from count step) (append_assoc done (put p.word p.stamp ∷ []) ps) all))))))
