-- Operands past the fifth are written to static words, and read there.
use Rattle.std.proofs.Common.{◌≡◌, ℕ, zero, suc, ◌+◌, ◌-◌, ◌*◌, ◌/◌, ◌<◌, ◌≤◌, List, [], ◌∷◌, length, map, slice_get, slice_set, Some, pos, refl, sym, ap, ◌∙◌, subst, arith, length-append}
use Rattle.std.specs.List.{flat_map}
use Rattle.std.proofs.lemmas.Bool.{lt-ltb}
use Rattle.std.proofs.lemmas.List.{length-set, set-append_left}
use Rattle.word_ir.specs.declared.operands.Operand.{Operand}
use Rattle.word_ir.specs.declared.operands.Operand.TheVariants as operand
use Rattle.word_ir.specs.declared.words.Words.{Words}
use Rattle.word_ir.specs.Word.{Word, Number, moved}
use Rattle.word_ir.specs.Storage.{Sizes, Regions, STATICS_START, STACK_START, static_at, long_at, with_long}
use Rattle.word_ir.specs.Step.{words_in}
use Rattle.word_ir.specs.Stamps.{Stamp, Stamped}
use Rattle.t_prim.specs.Values.{Val}
use Rattle.frame_ir.specs.Values.{Value, Lasting, Env}
use Rattle.frame_ir.specs.States.{State}
use Rattle.word_trees.specs.Trees.{Tree}
use Rattle.word_trees.specs.Cores.{Core, word_in, stamp_in, storing}
use Rattle.word_trees.specs.Leads.{Performs}
use Rattle.word_trees.proofs.Performing.{store_performs}
use Rattle.frame_words.specs.Layouts.{Layout, INNER, OPERANDS, GLOBALS}
use Rattle.frame_words.specs.ValueWords.{val_word, or_zero}
use Rattle.frame_words.specs.Contents.{Escapes, fixed_contents}
use Rattle.frame_words.specs.Holding.{HoldsData}
use Rattle.frame_words.proofs.Reading.{static_long, outside_stack}
use Rattle.select_rows.proofs.Keeping.{may_reach, get_set, get_set_other, get_some}
use Rattle.frame_stacks.specs.Stacks.{Ways, IsLasting}
use Rattle.frame_stacks.specs.Frames.{HoldsVariable, Holds}
use Rattle.frame_stacks.specs.Laws.{HasValue, HaveValues}
use Rattle.frame_calls.specs.Codes.{store_operands}

-- with other static words
abbrev pub with_statics_of : Core → List Word → List Stamp → Core
with_statics_of c ws stamps = record c { storage = record c.storage { statics = ws }; longs = record c.longs { statics = stamps } }

pub front_stored : (sizes : Sizes) (l : Layout) (e : Escapes) (s : State) (storage : Regions Word) (next : ℕ) (output : List ℕ) (p : ℕ) (x : Word) → p < GLOBALS → HoldsData sizes l e s storage next output → HoldsData sizes l e s (record storage { statics = slice_set storage.statics p x }) next output
front_stored sizes l e s storage next output p x lt h = record {
  heap = h.heap;
  taken = h.taken;
  next_is = h.next_is;
  room = h.room;
  small = h.small;
  distinct = h.distinct;
  made = h.made;
  pairs_apart = h.pairs_apart;
  laid_out = h.laid_out;
  front = slice_set h.front p x;
  front_length = length-set h.front p x ∙ h.front_length;
  statics = ap (λ ws. slice_set ws p x) h.statics ∙ set-append_left h.front (flat_map (fixed_contents l s) l.fixed) p x (omega (arith, h.front_length, lt));
  fixed = h.fixed;
  globals = λ g held at. get_set_other h.front p (17 + g) x (λ eq. absurd (omega (arith, eq, lt))) ∙ h.globals g held at;
  globals_known = h.globals_known;
  output_is = h.output_is;
}

pub enough_statics : (sizes : Sizes) (l : Layout) (e : Escapes) (s : State) (storage : Regions Word) (next : ℕ) (output : List ℕ) → HoldsData sizes l e s storage next output → GLOBALS ≤ length storage.statics
enough_statics sizes l e s storage next output h =
    let n : length storage.statics ≡ length h.front + length (flat_map (fixed_contents l s) l.fixed) = ap length h.statics ∙ length-append h.front (flat_map (fixed_contents l s) l.fixed) in
    omega (arith, n, h.front_length)

pub front_address : (p : ℕ) → p < GLOBALS → moved (static_at p) (pos 0) ≡ STATICS_START + 4 * p
front_address p lt = omega (arith, lt)

pub static_place : (p : ℕ) → p < GLOBALS → static_at p ≡ STATICS_START + 4 * p
static_place p lt = omega (arith, lt)

pub front_read : (storage : Regions Word) (p : ℕ) → p < GLOBALS → long_at storage (static_at p) ≡ slice_get storage.statics p
front_read storage p lt = ap (long_at storage) (static_place p lt) ∙ static_long storage p (omega (arith, lt))

stored_front : (c : Core) (p : ℕ) (x : Word) (stamp : Stamp) → p < GLOBALS → storing c (STATICS_START + 4 * p) x stamp ≡ with_statics_of c (slice_set c.storage.statics p x) (slice_set c.longs.statics p stamp)
stored_front c p x stamp lt =
    let place : (STATICS_START + 4 * p - STATICS_START) / 4 ≡ p = omega arith in
    rw (lt-ltb (STATICS_START + 4 * p) Rattle.word_ir.specs.Storage.HEAP_START (omega (arith, lt)), place, outside_stack c.storage (STATICS_START + 4 * p) (omega (arith, lt))) refl

module _ (words : Words) (sizes : Sizes) (l : Layout) (e : Escapes) (g : Ways) (t : ℕ) (s : State) where
  pub statics_held : (env : Env) (c : Core) (p : ℕ) (x : Word) (stamps : List Stamp) → p < GLOBALS → 0 < p → Holds sizes l e g t s env c → Holds sizes l e g t s env (with_statics_of c (slice_set c.storage.statics p x) stamps)
  statics_held env c p x stamps lt some h =
      let d : Core = with_statics_of c (slice_set c.storage.statics p x) stamps in
      let inner : long_at d.storage (static_at INNER) ≡ long_at c.storage (static_at INNER) =
      front_read d.storage 0 (omega arith) ∙ (get_set_other c.storage.statics p 0 x (λ eq. absurd (omega (arith, eq, some))) ∙ sym (front_read c.storage 0 (omega arith))) in
      record {
        data_held = front_stored sizes l e s c.storage c.next c.output p x lt h.data_held;
        frames = h.frames;
        escapes = record { inner = inner ∙ h.escapes.inner; made = h.escapes.made; frames = h.escapes.frames; caught = h.escapes.caught; outer = h.escapes.outer; stamps = h.escapes.stamps; closures_apart = h.escapes.closures_apart };
        variables = record { each = λ y v found. let o : HoldsVariable sizes l g t s c y v = h.variables.each y v found in record { older = o.older; word = o.word; stamp = o.stamp; held = o.held; stamped = o.stamped; stands = o.stands } };
      }

  value_held : (c : Core) (ws : List Word) (stamps : List Stamp) (x : Operand) (v : Value) → HasValue words sizes l g t s c x v → HasValue words sizes l g t s (with_statics_of c ws stamps) x v
  value_held c ws stamps (operand.Var y) v h = record { word = h.word; stamp = h.stamp; held = h.held; stamped = h.stamped; stands = h.stands; older = h.older }
  value_held c ws stamps (operand.Word n) v h = record { word = h.word; stamp = h.stamp; held = h.held; stamped = h.stamped; stands = h.stands; older = h.older }
  value_held c ws stamps (operand.Static n) v h = record { word = h.word; stamp = h.stamp; held = h.held; stamped = h.stamped; stands = h.stands; older = h.older }
  value_held c ws stamps (operand.Code n) v h = record { word = h.word; stamp = h.stamp; held = h.held; stamped = h.stamped; stands = h.stands; older = h.older }
  value_held c ws stamps (operand.Slot n) v h = record { word = h.word; stamp = h.stamp; held = h.held; stamped = h.stamped; stands = h.stands; older = h.older }

  pub values_held : (c : Core) (ws : List Word) (stamps : List Stamp) (xs : List Operand) (vs : List Value) → HaveValues words sizes l g t s c xs vs → HaveValues words sizes l g t s (with_statics_of c ws stamps) xs vs
  values_held c ws stamps [] [] h = tt
  values_held c ws stamps [] (v ∷ vs) h = absurd h
  values_held c ws stamps (x ∷ xs) [] h = absurd h
  values_held c ws stamps (x ∷ xs) (v ∷ vs) h = (value_held c ws stamps x v h.0, values_held c ws stamps xs vs h.1)

  pub word_of : (c : Core) (x : Operand) (v : Val) → HasValue words sizes l g t s c x (Lasting v) → word_in c x ≡ Some (Number (val_word l s v))
  word_of c x v h =
      let w : IsLasting l s (Lasting v) h.word = h.stands in
      h.held ∙ (ap Some w.is ∙ ap (λ n. Some (Number n)) (sym (ap or_zero w.known)))

  module _ (Q : Stamped → Type 0) where
    pub stores_perform : (xs : List Operand) (vs : List Val) (i : ℕ) (env : Env) (c : Core) (cost : ℕ) (rest : Tree) → Holds sizes l e g t s env c → HaveValues words sizes l g t s c xs (map Lasting vs) → i + length xs ≤ 15
        → ((ws : List Word) (stamps : List Stamp) → Holds sizes l e g t s env (with_statics_of c ws stamps) → ((j : ℕ) (v : Val) → slice_get vs j ≡ Some v → slice_get ws (OPERANDS + (i + j)) ≡ Some (Number (val_word l s v))) → ((p : ℕ) → p < OPERANDS + i → slice_get ws p ≡ slice_get c.storage.statics p) → Performs words sizes Q 1 cost rest (with_statics_of c ws stamps))
        → Performs words sizes Q 1 (3 * length xs + cost) (store_operands i xs rest) c
    stores_perform [] [] i env c cost rest h hs few next =
        let n : cost ≡ 3 * 0 + cost = omega arith in
        subst (λ k. Performs words sizes Q 1 k rest c) n (next c.storage.statics c.longs.statics (record { data_held = h.data_held; frames = h.frames; escapes = h.escapes; variables = h.variables }) (λ j v at. absurd (cc)) (λ p lt. refl))
    stores_perform [] (v ∷ vs) i env c cost rest h hs few next = absurd hs
    stores_perform (x ∷ xs) [] i env c cost rest h hs few next = absurd hs
    stores_perform (x ∷ xs) (v ∷ vs) i env c cost rest h hs few next =
        let lt : OPERANDS + i < GLOBALS = omega (arith, few) in
        let n : 3 + (3 * length xs + cost) ≡ 3 * length (x ∷ xs) + cost = omega arith in
        let many = enough_statics sizes l e s c.storage c.next c.output h.data_held in
        let old = get_some c.storage.statics (OPERANDS + i) (omega (arith, many, lt)) in
        let a : moved (static_at (OPERANDS + i)) (pos 0) ≡ STATICS_START + 4 * (OPERANDS + i) = front_address (OPERANDS + i) lt in
        let stamp : Stamp = stamp_in (words_in words sizes) c x in
        let w : Word = Number (val_word l s v) in
        let d : Core = with_statics_of c (slice_set c.storage.statics (OPERANDS + i) w) (slice_set c.longs.statics (OPERANDS + i) stamp) in
        subst (λ k. Performs words sizes Q 1 k (store_operands i (x ∷ xs) rest) c) n
        (store_performs words sizes Q (static_at (OPERANDS + i)) w old.0 refl (word_of c x v hs.0)
        (ap (long_at c.storage) a ∙ (static_long c.storage (OPERANDS + i) (omega (arith, lt)) ∙ old.1))
        (may_reach words sizes c (operand.Static (OPERANDS + i)) (moved (static_at (OPERANDS + i)) (pos 0)) (omega (arith, a, lt)))
        (subst (Performs words sizes Q 1 (3 * length xs + cost) (store_operands (suc i) xs rest)) (sym (ap (λ m. storing c m w stamp) a ∙ stored_front c (OPERANDS + i) w stamp lt))
        (stores_perform xs vs (suc i) env d cost rest (statics_held env c (OPERANDS + i) w (slice_set c.longs.statics (OPERANDS + i) stamp) lt (omega arith) h)
        (values_held c (slice_set c.storage.statics (OPERANDS + i) w) (slice_set c.longs.statics (OPERANDS + i) stamp) xs (map Lasting vs) hs.1) (omega (arith, few))
        (λ ws stamps held found before. next ws stamps held (found_by (OPERANDS + i) ws w (before (OPERANDS + i) (omega arith) ∙ get_set c.storage.statics (OPERANDS + i) w (omega (arith, many, lt))) found)
        (λ p lower. before p (omega (arith, lower)) ∙ get_set_other c.storage.statics (OPERANDS + i) p w (λ eq. absurd (omega (arith, eq, lower))))))))
      where
        found_by : (p : ℕ) (ws : List Word) (w : Word) → slice_get ws (OPERANDS + i) ≡ Some (Number (val_word l s v)) → ((j : ℕ) (y : Val) → slice_get vs j ≡ Some y → slice_get ws (OPERANDS + (suc i + j)) ≡ Some (Number (val_word l s y))) → (j : ℕ) (y : Val) → slice_get (v ∷ vs) j ≡ Some y → slice_get ws (OPERANDS + (i + j)) ≡ Some (Number (val_word l s y))
        found_by p ws w here found zero y at = let same : v ≡ y = cc in let m : OPERANDS + (i + 0) ≡ OPERANDS + i = omega arith in ap (slice_get ws) m ∙ (here ∙ ap (λ z. Some (Number (val_word l s z))) same)
        found_by p ws w here found (suc j) y at = let m : OPERANDS + (i + suc j) ≡ OPERANDS + (suc i + j) = omega arith in ap (slice_get ws) m ∙ found j y at
