-- The rows that change a part of a pair.
use Rattle.std.proofs.Common.{◌≡◌, ℕ, ◌+◌, ◌-◌, ◌*◌, ◌^◌, ◌<◌, ◌≤◌, ◌⊎◌, nat_lt, Bool, true, false, if◌then◌else◌, slice_get, slice_set, Some, is_some, ℤ, pos, negsuc, inl, inr, refl, sym, ap, ◌∙◌, subst, arith}
use Rattle.std.proofs.lemmas.Bool.{lt-ltb}
use Rattle.t_base.specs.declared.basics.Var.{Var}
use Rattle.t_base.specs.declared.faults.Fault.TheVariants.{NotPair}
use Rattle.t_base.specs.declared.builtins.Builtin.TheVariants as builtin
use Rattle.t_prim.specs.Values.{Val, PairV, with_pair_at}
use Rattle.t_prim.specs.Operands.{Row, Changes, or_fault}
use Rattle.word_ir.specs.declared.operands.Operand.{Operand}
use Rattle.word_ir.specs.declared.operands.Operand.TheVariants as operand
use Rattle.word_ir.specs.declared.words.WordOp.TheVariants as op
use Rattle.word_ir.specs.declared.words.Words.{Words}
use Rattle.word_ir.specs.Word.{Word, Number, moved}
use Rattle.word_ir.specs.Storage.{Sizes, Regions, HEAP_START, STATICS_START, STACK_START, static_at, long_at, with_long}
use Rattle.word_ir.specs.Step.{words_in}
use Rattle.word_ir.specs.Stamps.{Stamp}
use Rattle.frame_ir.specs.States.{State, APair, AnEscape, thing_words}
use Rattle.word_trees.specs.Trees.{Tree, Do}
use Rattle.word_trees.specs.Cores.{Core, word_in, stamp_in, storing}
use Rattle.word_trees.proofs.Performing.{store_performs, moves_performs}
use Rattle.frame_words.specs.Layouts.{Layout, PairOf, INNER, front_words}
use Rattle.frame_words.specs.ValueWords.{same_thing, heap_place, word_for, or_zero}
use Rattle.frame_words.specs.Contents.{Escapes, pair_contents}
use Rattle.frame_words.specs.Holding.{AreKnown, parts_of, HoldsData}
use Rattle.frame_words.specs.Origins.{OnHeap, InStatics, IsRead, IsPairRead}
use Rattle.frame_words.proofs.Segments.{apart}
use Rattle.frame_words.proofs.Sizes.{thing_sound}
use Rattle.frame_words.proofs.Reading.{static_long, outside_stack, heap_within, fixed_within}
use Rattle.frame_words.proofs.Values.{either, pair_is, moved_back}
use Rattle.frame_words.proofs.Changing.{with_heap, with_statics, repaired, repaired_words, repaired_word, heap_pair_changes, fixed_pair_changes}
use Rattle.select_rows.specs.Macros.{word}
use Rattle.select_rows.specs.Kept.{Has, Keeps}
use Rattle.select_rows.specs.Codes.{code_of, IsCodeOf}
use Rattle.select_rows.proofs.Keeping.{keeps_same, may_reach, get_set_other}
use Rattle.select_rows.proofs.Checks.{pair_performs}
use Rattle.select_rows.proofs.Results.{performs}
use Rattle.select_rows.proofs.Puts.{arrive_changed}

-- a store changes no variable
pub stored_word : (c : Core) (address : ℕ) (x : Word) (stamp : Stamp) (y : Operand) → word_in (storing c address x stamp) y ≡ word_in c y
stored_word c address x stamp (operand.Var v) = refl
stored_word c address x stamp (operand.Word n) = refl
stored_word c address x stamp (operand.Static p) = refl
stored_word c address x stamp (operand.Code p) = refl
stored_word c address x stamp (operand.Slot n) = refl

-- nor the stack, where its address is outside of it
if_stack : {X : Type 0} (b : Bool) (m x y : Regions X) → x.stack ≡ m.stack → y.stack ≡ m.stack → (if b then x else y).stack ≡ m.stack
if_stack true m x y h k = h
if_stack false m x y h k = k

pub stack_stays : {X : Type 0} (m : Regions X) (address : ℕ) (x : X) → address < STACK_START → (with_long m address x).stack ≡ m.stack
stack_stays m address x lt = if_stack (nat_lt address HEAP_START) m _ _ refl (rw (lt-ltb address STACK_START lt) refl)

-- nor the word of the innermost escape
pub heap_apart : (m : Regions Word) (address k : ℕ) (x : Word) → address ≡ HEAP_START + 4 * k → k < 2 ^ 26 → long_at (with_long m address x) (static_at INNER) ≡ long_at m (static_at INNER)
heap_apart m address k x at lt = ap (λ y. long_at y (static_at INNER)) (ap (λ a. with_long m a x) at ∙ with_heap m k x lt)

statics_apart : (m : Regions Word) (address k : ℕ) (x : Word) → address ≡ STATICS_START + 4 * k → k < 2 ^ 26 → 0 < k → long_at (with_long m address x) (static_at INNER) ≡ long_at m (static_at INNER)
statics_apart m address k x at lt some =
    ap (λ y. long_at y (static_at INNER)) (ap (λ a. with_long m a x) at ∙ with_statics m k x lt)
    ∙ (static_long (record m { statics = slice_set m.statics k x }) 0 (omega arith) ∙ (get_set_other m.statics k 0 x (λ eq. absurd (omega (arith, eq, some))) ∙ sym (static_long m 0 (omega arith))))

module _ (words : Words) (sizes : Sizes) (l : Layout) (e : Escapes) (t : ℕ) (s : State) (c : Core) (to : Var) (rest : Tree) (h : HoldsData sizes l e s c.storage c.next c.output) where
  -- the stamps of frames in escapes stay
  stamps_stay : (k n i : ℕ) (stamp : Stamp) → i < 2 → OnHeap s 3 (APair k) n ⊎ InStatics l 3 (PairOf k) n → (birth p : ℕ) → heap_place s (AnEscape birth) ≡ Some p → slice_get (with_long c.longs (n - 3 + 4 * i) stamp).heap (p + 1) ≡ slice_get c.longs.heap (p + 1)
  stamps_stay k n i stamp lt (inl o) birth p found =
      let within = heap_within sizes l e s c.storage c.next c.output h (APair k) o.place o.found in
      let room : 4 * s.store.heap ≤ sizes.heap = h.room in
      let small : sizes.heap ≤ 2 ^ 28 = h.small in
      let address : n - 3 + 4 * i ≡ HEAP_START + 4 * (o.place + i) = omega (arith, o.word) in
      let below : o.place + i < 2 ^ 26 = omega (arith, within, lt, room, small) in
      let other : o.place + i ≡ p + 1 → ⊥ = λ eq. elim (apart same_thing (thing_words s) s.made (APair k) (AnEscape birth) o.place p thing_sound refl refl o.found found) [
        | inl a ↦ absurd (omega (arith, a, eq, lt))
        | inr a ↦ absurd (omega (arith, a, eq, lt))
      ] in
      ap (λ m. slice_get m.heap (p + 1)) (ap (λ a. with_long c.longs a stamp) address ∙ with_heap c.longs (o.place + i) stamp below) ∙ get_set_other c.longs.heap (o.place + i) (p + 1) stamp other
  stamps_stay k n i stamp lt (inr o) birth p found =
      let within = fixed_within sizes l e s c.storage c.next c.output h (PairOf k) o.place o.found in
      let address : n - 3 + 4 * i ≡ STATICS_START + 4 * (front_words l + (o.place + i)) = omega (arith, o.word) in
      let below : front_words l + (o.place + i) < 2 ^ 26 = omega (arith, within, lt) in
      ap (λ m. slice_get m.heap (p + 1)) (ap (λ a. with_long c.longs a stamp) address ∙ with_statics c.longs (front_words l + (o.place + i)) stamp below)

  -- and so does the word of the innermost one
  inner_stays : (k n i : ℕ) (x : Word) → i < 2 → OnHeap s 3 (APair k) n ⊎ InStatics l 3 (PairOf k) n → long_at (with_long c.storage (n - 3 + 4 * i) x) (static_at INNER) ≡ long_at c.storage (static_at INNER)
  inner_stays k n i x lt (inl o) =
      let within = heap_within sizes l e s c.storage c.next c.output h (APair k) o.place o.found in
      let room : 4 * s.store.heap ≤ sizes.heap = h.room in
      let small : sizes.heap ≤ 2 ^ 28 = h.small in
      let address : n - 3 + 4 * i ≡ HEAP_START + 4 * (o.place + i) = omega (arith, o.word) in
      heap_apart c.storage (n - 3 + 4 * i) (o.place + i) x address (omega (arith, within, lt, room, small))
  inner_stays k n i x lt (inr o) =
      let within = fixed_within sizes l e s c.storage c.next c.output h (PairOf k) o.place o.found in
      let address : n - 3 + 4 * i ≡ STATICS_START + 4 * (front_words l + (o.place + i)) = omega (arith, o.word) in
      statics_apart c.storage (n - 3 + 4 * i) (front_words l + (o.place + i)) x address (omega (arith, within, lt)) (omega arith)

  data_changes : (k n i m : ℕ) (p q : Val × Val) (there : slice_get s.store.pairs k ≡ Some p) → pair_contents l s (Some q) ≡ slice_set (pair_contents l s (Some p)) i (Number m) → AreKnown l s (parts_of q) → i < 2 → OnHeap s 3 (APair k) n ⊎ InStatics l 3 (PairOf k) n → HoldsData sizes l e (repaired l e s k p q there) (with_long c.storage (n - 3 + 4 * i) (Number m)) c.next c.output
  data_changes k n i m p q there part known lt (inl o) = heap_pair_changes l e s k p q there i m part sizes c.storage c.next c.output h n known lt o
  data_changes k n i m p q there part known lt (inr o) = fixed_pair_changes l e s k p q there i m part sizes c.storage c.next c.output h n known lt o

  set_keeps : (k n i m : ℕ) (p q : Val × Val) (there : slice_get s.store.pairs k ≡ Some p) (address : ℕ) (stamp : Stamp) → address ≡ n - 3 + 4 * i → address < STACK_START → pair_contents l s (Some q) ≡ slice_set (pair_contents l s (Some p)) i (Number m) → AreKnown l s (parts_of q) → i < 2 → OnHeap s 3 (APair k) n ⊎ InStatics l 3 (PairOf k) n → Keeps sizes l e t s (repaired l e s k p q there) c (storing c address (Number m) stamp)
  set_keeps k n i m p q there address stamp at outside part known lt origin = record {
    data_held = subst (λ a. HoldsData sizes l e (repaired l e s k p q there) (with_long c.storage a (Number m)) c.next c.output) (sym at) (data_changes k n i m p q there part known lt origin);
    words = repaired_words l e s k p q there;
    top = refl;
    stack = stack_stays c.storage address (Number m) outside;
    inner = ap (λ a. long_at (with_long c.storage a (Number m)) (static_at INNER)) at ∙ inner_stays k n i (Number m) lt origin;
    stamps_of_stack = stack_stays c.longs address stamp outside;
    live = rw (outside_stack c.storage address outside) refl;
    escapes = λ birth x found. ap (λ a. slice_get (with_long c.longs a stamp).heap (x + 1)) at ∙ stamps_stay k n i stamp lt origin birth x found;
    variables = λ v lt. refl;
    stamps = λ v lt. refl;
  }

  pub part_performs : (b : Operand) (w : Val) (hb : Has l s t c b w) (a : Operand) (k i old : ℕ) (offset : ℤ) (hk : Has l s t c a (PairV k)) (p q : Val × Val) (there : slice_get s.store.pairs k ≡ Some p) → moved hk.number offset ≡ hk.number - 3 + 4 * i → IsRead c.storage (moved hk.number offset) (Number old) → pair_contents l s (Some q) ≡ slice_set (pair_contents l s (Some p)) i (Number hb.number) → AreKnown l s (parts_of q) → i < 2
      → performs words sizes l e t s c to rest (Changes (with_pair_at s.store k q) w) 1 5 (Do (op.Store a offset b) (Do (op.Move to b) rest)) c
  part_performs b w hb a k i old offset hk p q there at read part known lt =
      let stamp : Stamp = stamp_in (words_in words sizes) c b in
      let d : Core = storing c (moved hk.number offset) (Number hb.number) stamp in
      let keeps : Keeps sizes l e t s (repaired l e s k p q there) c d = set_keeps k hk.number i hb.number p q there (moved hk.number offset) stamp at read.outside part known lt (either l s 3 (APair k) (PairOf k) hk.number hk.is) in
      store_performs words sizes _ hk.number (Number hb.number) (Number old) hk.held hb.held read.reads (may_reach words sizes c a (moved hk.number offset) read.outside)
      (moves_performs words sizes _ (Number hb.number) (stored_word c (moved hk.number offset) (Number hb.number) stamp b ∙ hb.held)
      (arrive_changed words sizes l e t s c to rest d (with_pair_at s.store k q) w hb.number _ keeps (repaired_word l e s k p q there w ∙ hb.is)))

  as_pair : (a : Operand) (v : Val) (k : ℕ) → v ≡ PairV k → Has l s t c a v → Has l s t c a (PairV k)
  as_pair a v k is ha = subst (λ y. Has l s t c a y) is ha

  above_by : (k n : ℕ) → OnHeap s 3 (APair k) n ⊎ InStatics l 3 (PairOf k) n → 2 < n
  above_by k n (inl o) = omega (arith, o.word)
  above_by k n (inr o) = omega (arith, o.word)

  above : (k n : ℕ) → word_for l s (PairV k) ≡ Some n → 2 < n
  above k n is = above_by k n (either l s 3 (APair k) (PairOf k) n is)

  pub set_car_performs : (a b : Operand) (v w : Val) → Has l s t c a v → Has l s t c b w → performs words sizes l e t s c to rest (Rattle.t_prim.specs.Operands.with_pair v s.store (λ k p. Changes (with_pair_at s.store k (w, p.1)) w)) 1 8 (Rattle.select_rows.specs.Macros.pair a (Do (op.Store a (negsuc 2) b) (Do (op.Move to b) rest))) c
  set_car_performs a b v w ha hb =
      pair_performs words sizes l e t s c to rest 5 c a v (λ k. or_fault (slice_get s.store.pairs k) NotPair (λ p. Changes (with_pair_at s.store k (w, p.1)) w)) _ ha (keeps_same sizes l e t s c h) (omega arith)
      (λ k is.
      let hk : Has l s t c a (PairV k) = as_pair a v k is ha in
      let p : IsPairRead l s c.storage k hk.number = pair_is sizes l e s c.storage c.next c.output h k hk.number hk.is in
      let m : moved hk.number (negsuc 2) ≡ hk.number - 3 = moved_back hk.number 2 (above k hk.number hk.is) in
      let address : moved hk.number (negsuc 2) ≡ hk.number - 3 + 4 * 0 = omega (arith, m) in
      let part : pair_contents l s (Some (w, p.parts.1)) ≡ slice_set (pair_contents l s (Some p.parts)) 0 (Number hb.number) = rw (ap or_zero hb.is) refl in
      subst (λ row. performs words sizes l e t s c to rest row 1 5 (Do (op.Store a (negsuc 2) b) (Do (op.Move to b) rest)) c) (sym (ap (λ o. or_fault o NotPair (λ x. Changes (with_pair_at s.store k (w, x.1)) w)) p.there))
      (part_performs b w hb a k 0 p.head (negsuc 2) hk p.parts (w, p.parts.1) p.there address p.head_read part (ap is_some hb.is, (ap is_some p.tail_is, tt)) (omega arith)))

  pub set_cdr_performs : (a b : Operand) (v w : Val) → Has l s t c a v → Has l s t c b w → performs words sizes l e t s c to rest (Rattle.t_prim.specs.Operands.with_pair v s.store (λ k p. Changes (with_pair_at s.store k (p.0, w)) w)) 1 8 (Rattle.select_rows.specs.Macros.pair a (Do (op.Store a (pos 1) b) (Do (op.Move to b) rest))) c
  set_cdr_performs a b v w ha hb =
      pair_performs words sizes l e t s c to rest 5 c a v (λ k. or_fault (slice_get s.store.pairs k) NotPair (λ p. Changes (with_pair_at s.store k (p.0, w)) w)) _ ha (keeps_same sizes l e t s c h) (omega arith)
      (λ k is.
      let hk : Has l s t c a (PairV k) = as_pair a v k is ha in
      let p : IsPairRead l s c.storage k hk.number = pair_is sizes l e s c.storage c.next c.output h k hk.number hk.is in
      let address : moved hk.number (pos 1) ≡ hk.number - 3 + 4 * 1 = omega (arith, above k hk.number hk.is) in
      let part : pair_contents l s (Some (p.parts.0, w)) ≡ slice_set (pair_contents l s (Some p.parts)) 1 (Number hb.number) = rw (ap or_zero hb.is) refl in
      subst (λ row. performs words sizes l e t s c to rest row 1 5 (Do (op.Store a (pos 1) b) (Do (op.Move to b) rest)) c) (sym (ap (λ o. or_fault o NotPair (λ x. Changes (with_pair_at s.store k (x.0, w)) w)) p.there))
      (part_performs b w hb a k 1 p.tail (pos 1) hk p.parts (p.parts.0, w) p.there address p.tail_read part (ap is_some p.head_is, (ap is_some hb.is, tt)) (omega arith)))

pub set_car_row : IsCodeOf builtin.SetCar (code_of builtin.SetCar)
set_car_row words sizes l e t s c to rest a b v w h ha hb = set_car_performs words sizes l e t s c to rest h a b v w ha hb

pub set_cdr_row : IsCodeOf builtin.SetCdr (code_of builtin.SetCdr)
set_cdr_row words sizes l e t s c to rest a b v w h ha hb = set_cdr_performs words sizes l e t s c to rest h a b v w ha hb
