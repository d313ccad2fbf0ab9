-- The youngest frame is popped.
use Rattle.std.proofs.Common.{◌≡◌, ℕ, zero, suc, ◌+◌, ◌-◌, ◌*◌, ◌/◌, ◌%◌, ◌^◌, ◌<◌, ◌≤◌, ◌==◌, ◌||◌, Bool, true, false, if◌then◌else◌, List, [], ◌∷◌, length, drop, slice_get, Option, Some, None, pos, refl, sym, ap, ◌∙◌, subst, arith}
use Rattle.std.specs.List.{AllByRecursion, list_any}
use Rattle.std.specs.Option.{option_map_or}
use Rattle.std.proofs.lemmas.Bool.{eq-eqb, eqb-true, eqb-false, ne_eqb}
use Rattle.std.proofs.lemmas.List.{length-drop}
use Rattle.word_ir.specs.declared.words.WordOp.TheVariants as op
use Rattle.word_ir.specs.declared.words.Words.{Words}
use Rattle.word_ir.specs.Word.{Word, Number, Code}
use Rattle.word_ir.specs.Storage.{Sizes, Regions, STACK_START}
use Rattle.word_ir.specs.Step.{words_in}
use Rattle.word_ir.specs.Stamps.{Stamp, Live, is_birth, birth_at}
use Rattle.frame_ir.specs.Values.{Value, Lasting, InFrame, CellAt, Closure, Frame, Env, even, frame_words, captured_from, closure_in, value_in}
use Rattle.frame_ir.specs.States.{State, AnEscape, is_live, older_than, with_live}
use Rattle.word_trees.specs.Trees.{Tree, Do}
use Rattle.word_trees.specs.Cores.{Core, at, stamp_in, some_stamp, binding, resetting}
use Rattle.word_trees.specs.Leads.{Performs}
use Rattle.word_trees.proofs.Operations.{reset_steps}
use Rattle.word_trees.proofs.Performing.{performs, arrives}
use Rattle.frame_words.specs.Layouts.{Layout}
use Rattle.frame_words.specs.ValueWords.{heap_place}
use Rattle.frame_words.specs.Contents.{Escapes}
use Rattle.frame_words.specs.Holding.{HoldsData}
use Rattle.select_rows.specs.Macros.{var, of_var}
use Rattle.select_rows.proofs.Keeping.{newest_kept}
use Rattle.frame_stacks.specs.Stacks.{Stack, Ways, stack_of, words_of_frames, frames_place, stack_address, live_from, frame_at, born_first, closure_at, IsInFrame, IsLasting, StandsFor, IsStored}
use Rattle.frame_stacks.specs.Frames.{HoldsSlot, HoldsFrame, HoldsAll, HoldsFrames, HoldsEscapes, HoldsVariable, HoldsVariables, Holds, is_catch, inner_word}
use Rattle.frame_stacks.specs.Codes.{pop_frame}
use Rattle.frame_stacks.specs.Laws.{GoesOn}
use Rattle.frame_stacks.proofs.Reading.{born_at}
use Rattle.frame_stacks.proofs.Gets.{IsYoungest, youngest_held}
use Rattle.frame_stacks.proofs.Blocks.{temporary_held, stored_word_performs}

-- ---- lists

get_drop : {X : Type 0} (m : ℕ) (xs : List X) (i : ℕ) → slice_get (drop m xs) i ≡ slice_get xs (m + i)
get_drop zero xs i = let n : 0 + i ≡ i = omega arith in sym (ap (slice_get xs) n)
get_drop (suc m) [] i = refl
get_drop (suc m) (x ∷ xs) i = let n : suc m + i ≡ suc (m + i) = omega arith in get_drop m xs i ∙ sym (ap (slice_get (x ∷ xs)) n)

either_true : (a b : Bool) → b ≡ true → (a || b) ≡ true
either_true true b h = refl
either_true false b h = h

among_lower_by : (x b birth : ℕ) (xs : List ℕ) (q : Bool) → (x == b) ≡ q → x < birth → (list_any (λ y. y == b) xs ≡ true → b < birth) → (q || list_any (λ y. y == b) xs) ≡ true → b < birth
among_lower_by x b birth xs true eq lt next h = let n : x ≡ b = eqb-true x b eq in omega (arith, n, lt)
among_lower_by x b birth xs false eq lt next h = next h

among_lower : (b birth : ℕ) (xs : List ℕ) → AllByRecursion (λ x. x < birth) xs → list_any (λ y. y == b) xs ≡ true → b < birth
among_lower b birth [] all h = absurd (cc)
among_lower b birth (x ∷ xs) all h = among_lower_by x b birth xs (x == b) refl all.0 (among_lower b birth xs all.1) h

-- ---- the data don't know of frames

pub data_of_older : (sizes : Sizes) (l : Layout) (e : Escapes) (s : State) (births : List ℕ) (storage : Regions Word) (next : ℕ) (output : List ℕ) → HoldsData sizes l e s storage next output → HoldsData sizes l e (with_live s births) storage next output
data_of_older sizes l e s births storage next output h = record {
  heap = h.heap;
  taken = h.taken;
  next_is = h.next_is;
  room = h.room;
  small = h.small;
  distinct = h.distinct;
  made = h.made;
  pairs_apart = h.pairs_apart;
  laid_out = h.laid_out;
  front = h.front;
  front_length = h.front_length;
  statics = h.statics;
  fixed = h.fixed;
  globals = h.globals;
  globals_known = h.globals_known;
  output_is = h.output_is;
}

inner_same : (l : Layout) (s : State) (older births : List ℕ) → inner_word l (with_live s older) births ≡ inner_word l s births
inner_same l s older [] = refl
inner_same l s older (b ∷ births) = ap (λ w. if is_catch s b then Rattle.frame_words.specs.ValueWords.val_word l s (Rattle.t_prim.specs.Values.EscapeV b) else w) (inner_same l s older births)

-- ---- with a stack from an older frame on

abbrev pub above : Stack → ℕ → Stack
above k place = record { top = stack_address place; words = k.words; stamps = k.stamps; live = drop ((stack_address place - k.top) / 4) k.live }

mark_above : (live : List Live) (top place from : ℕ) (m : Live) → top ≡ stack_address from → (base : ℕ) → from ≤ base → base ≤ place → slice_get live ((stack_address place - top) / 4) ≡ Some m → slice_get (drop ((stack_address base - top) / 4) live) ((stack_address place - stack_address base) / 4) ≡ Some m
mark_above live top place from m at base le up h =
    let n : (stack_address base - top) / 4 + (stack_address place - stack_address base) / 4 ≡ (stack_address place - top) / 4 = omega (arith, at, le, up) in
    get_drop ((stack_address base - top) / 4) live ((stack_address place - stack_address base) / 4) ∙ (ap (slice_get live) n ∙ h)

stored_above : {k : Stack} {step place : ℕ} {x : Word} {stamp : Stamp} (from base : ℕ) → k.top ≡ stack_address from → from ≤ base → base ≤ place → IsStored k step place x stamp → IsStored (above k base) step place x stamp
stored_above {k} {step} {place} {x} {stamp} from base at le up h = record {
  reads = h.reads;
  stamped = h.stamped;
  pushed = omega (arith, up);
  marked = mark_above k.live k.top place from (record { birth = step; written = true }) at base le up h.marked;
}

module _ (sizes : Sizes) (l : Layout) (g : Ways) (s : State) (birth : ℕ) (older : List ℕ) (live : s.live ≡ birth ∷ older) (lower : AllByRecursion (λ b. b < birth) older) where
  abbrev popped : State
  popped = with_live s older

  pub still_live : (b : ℕ) → is_live popped b ≡ true → is_live s b ≡ true
  still_live b h = subst (λ births. list_any (λ y. y == b) births ≡ true) (sym live) (either_true (birth == b) (list_any (λ y. y == b) older) h)

  not_first : (b : ℕ) → is_live popped b ≡ true → (birth == b) ≡ false
  not_first b h = let lt : b < birth = among_lower b birth older lower h in ne_eqb birth b (λ eq. absurd (omega (arith, lt, eq)))

  from_same : (b : ℕ) → is_live popped b ≡ true → live_from b s.live ≡ live_from b older
  from_same b h = ap (live_from b) live ∙ rw (not_first b h) refl

  pub place_same : (b : ℕ) → is_live popped b ≡ true → frame_at sizes s b ≡ frame_at sizes popped b
  place_same b h = ap (λ births. stack_address (frames_place sizes s.frames births)) (from_same b h)

  pub stands_popped : (v : Value) (x : Word) (stamp : Stamp) → StandsFor sizes l g s v x stamp → StandsFor sizes l g popped v x stamp
  stands_popped (Lasting v) x stamp h = record { number = h.number; known = h.known; is = h.is }
  stands_popped (CellAt k) x stamp h = record { number = h.number; known = h.known; is = h.is }
  stands_popped (InFrame b slot) x stamp h = record {
    number = h.number;
    is = h.is;
    tag = h.tag;
    pushed = h.pushed;
    address = λ there. h.address (still_live b there) ∙ ap (λ a. a + 8 + 4 * even slot + 2) (place_same b there);
    stamped = λ there. h.stamped (still_live b there);
  }

  module _ (k : Stack) (from base : ℕ) (at : k.top ≡ stack_address from) (le : from ≤ base) where
    slot_popped : (b place : ℕ) (f : Frame) (slot : ℕ) (v : Value) → base ≤ place → HoldsSlot sizes l g s k b place f slot v → HoldsSlot sizes l g popped (above k base) b place f slot v
    slot_popped b place f slot v up h = record { within = h.within; word = h.word; stamp = h.stamp; stored = stored_above from base at le (omega (arith, up)) h.stored; stands = stands_popped v h.word h.stamp h.stands }

    frame_popped : (b : ℕ) (births : List ℕ) (place : ℕ) (f : Frame) → base ≤ place → HoldsFrame sizes l g s k b births place f → HoldsFrame sizes l g popped (above k base) b births place f
    frame_popped b births place f up h = record {
      back = stored_above from base at le up h.back;
      next = stored_above from base at le (omega (arith, up)) h.next;
      slots = λ slot v found. slot_popped b place f slot v up (h.slots slot v found);
      headers = λ slot c found. stored_above from base at le (omega (arith, up)) (h.headers slot c found);
      codes = λ slot c found. stored_above from base at le (omega (arith, up)) (h.codes slot c found);
      captured = λ slot i c v found there. slot_popped b place f (captured_from slot + i) v up (h.captured slot i c v found there);
      marks = λ i lt. let m = h.marks i lt in (m.0, mark_above k.live k.top (place + i) from (record { birth = g.born b; written = m.0 }) at base le (omega (arith, up)) m.1);
      catches = h.catches;
    }

    pub all_popped : (births : List ℕ) → base ≤ frames_place sizes s.frames births → HoldsAll sizes l g s k births → HoldsAll sizes l g popped (above k base) births
    all_popped [] up h = tt
    all_popped (b ∷ births) up h = (h.0, h.1, h.2, frame_popped b births (frames_place sizes s.frames (b ∷ births)) h.0 up h.3, all_popped births (omega (arith, up)) h.4)

-- ---- the whole

pub older_born : (words : Words) (sizes : Sizes) (l : Layout) (g : Ways) (s : State) (c : Core) (older : List ℕ) → sizes.stack % 4 ≡ 0 → length c.storage.stack ≡ sizes.stack / 4 → HoldsAll sizes l g s (stack_of c) older → birth_at (words_in words sizes) (at c 0 0 0 0).state (at c 0 0 0 0).marks (stack_address (frames_place sizes s.frames older)) ≡ Some (born_first g older)
older_born words sizes l g s c [] whole long h = rw (eq-eqb (stack_address (sizes.stack / 4 - 0)) (STACK_START + sizes.stack) (omega (arith, whole))) refl
older_born words sizes l g s c (b ∷ births) whole long h = born_at words sizes c (g.born b) (frames_place sizes s.frames (b ∷ births)) _ _ long h.3.back

module _ (sizes : Sizes) (l : Layout) (e : Escapes) (g : Ways) (t : ℕ) (s : State) (env : Env) (d : Core) (birth : ℕ) (older : List ℕ) (f : Frame) (h : Holds sizes l e g t s env d) (live : s.live ≡ birth ∷ older) (there : slice_get s.frames birth ≡ Some f) (pushed : f.catch ≡ false) where
  all : HoldsAll sizes l g s (stack_of d) (birth ∷ older)
  all = subst (HoldsAll sizes l g s (stack_of d)) live h.frames.frames

  pub lower : AllByRecursion (λ b. b < birth) older
  lower = all.2

  abbrev from : ℕ
  from = frames_place sizes s.frames (birth ∷ older)

  abbrev base : ℕ
  base = frames_place sizes s.frames older

  abbrev after : Core
  after = resetting d (stack_address base)

  caught_other : (b p : ℕ) → heap_place s (AnEscape b) ≡ Some p → birth ≡ b → ⊥
  caught_other b p found eq =
      let other : is_catch s birth ≡ false = ap (λ o. option_map_or (λ x. x.catch) o false) there ∙ pushed in
      let this : is_catch s birth ≡ true = subst (λ z. is_catch s z ≡ true) (sym eq) (h.escapes.caught b p found) in
      absurd (cc)

  inner_popped : inner_word l s s.live ≡ inner_word l (with_live s older) older
  inner_popped =
      let other : is_catch s birth ≡ false = ap (λ o. option_map_or (λ x. x.catch) o false) there ∙ pushed in
      ap (inner_word l s) live ∙ (rw other (sym (inner_same l s older older)))

  frame_word : (b p : ℕ) (q : Bool) → is_live (with_live s older) b ≡ q → heap_place s (AnEscape b) ≡ Some p → e.frame b ≡ (if is_live (with_live s older) b then frame_at sizes (with_live s older) b else 0)
  frame_word b p true eq found =
      let old : is_live s b ≡ true = still_live sizes l g s birth older live lower b eq in
      let known : e.frame b ≡ (if is_live s b then frame_at sizes s b else 0) = h.escapes.frames b p found in
      let first : e.frame b ≡ frame_at sizes s b = known ∙ rw old refl in
      (first ∙ place_same sizes l g s birth older live lower b eq) ∙ rw eq refl
  frame_word b p false eq found =
      let here : list_any (λ y. y == b) (birth ∷ older) ≡ false = rw (ne_eqb birth b (caught_other b p found)) eq in
      let old : is_live s b ≡ false = subst (λ births. list_any (λ y. y == b) births ≡ false) (sym live) here in
      let known : e.frame b ≡ (if is_live s b then frame_at sizes s b else 0) = h.escapes.frames b p found in
      let first : e.frame b ≡ 0 = known ∙ rw old refl in
      first ∙ rw eq refl

  outer_word : (b : ℕ) → is_live (with_live s older) b ≡ true → is_catch s b ≡ true → e.outer b ≡ inner_word l (with_live s older) (older_than b older)
  outer_word b eq caught =
      let old : is_live s b ≡ true = still_live sizes l g s birth older live lower b eq in
      let behind : older_than b s.live ≡ older_than b older = ap (older_than b) live ∙ rw (not_first sizes l g s birth older live lower b eq) refl in
      h.escapes.outer b old caught ∙ (ap (inner_word l s) behind ∙ sym (inner_same l s older (older_than b older)))

  variable_popped : (x : ℕ) (v : Value) → HoldsVariable sizes l g t s d x v → HoldsVariable sizes l g t (with_live s older) after x v
  variable_popped x v o = record { older = o.older; word = o.word; stamp = o.stamp; held = o.held; stamped = o.stamped; stands = stands_popped sizes l g s birth older live lower v o.word o.stamp o.stands }

  pub top_is : d.top ≡ stack_address from
  top_is = h.frames.top ∙ ap (λ births. stack_address (frames_place sizes s.frames births)) live

  pub room_is : words_of_frames s.frames (birth ∷ older) ≤ sizes.stack / 4
  room_is = subst (λ births. words_of_frames s.frames births ≤ sizes.stack / 4) live h.frames.room

  pub count_is : length d.live ≡ words_of_frames s.frames (birth ∷ older)
  count_is = h.frames.marks ∙ ap (words_of_frames s.frames) live

  pub popped_held : Holds sizes l e g t (with_live s older) env after
  popped_held = record {
    data_held = data_of_older sizes l e s older d.storage d.next d.output h.data_held;
    frames = record {
      whole = h.frames.whole;
      small = h.frames.small;
      room = omega (arith, room_is);
      top = refl;
      words = h.frames.words;
      stamps = h.frames.stamps;
      marks = omega (arith, length-drop ((stack_address base - d.top) / 4) d.live, top_is, room_is, count_is);
      frames = all_popped sizes l g s birth older live lower (stack_of d) from base top_is (omega arith) older (omega arith) all.4;
    };
    escapes = record {
      inner = h.escapes.inner ∙ ap (λ n. Some (Number n)) inner_popped;
      made = λ b eq caught. h.escapes.made b (still_live sizes l g s birth older live lower b eq) caught;
      frames = λ b p found. frame_word b p (is_live (with_live s older) b) refl found;
      caught = h.escapes.caught;
      outer = outer_word;
      stamps = λ b p found eq. h.escapes.stamps b p found (still_live sizes l g s birth older live lower b eq);
      closures_apart = h.escapes.closures_apart;
    };
    variables = record { each = λ x v found. variable_popped x v (h.variables.each x v found) };
  }

-- ---- the code

pub pop_performs : (words : Words) (sizes : Sizes) (l : Layout) (e : Escapes) (g : Ways) (t : ℕ) (s : State) (env : Env) (c : Core) (birth : ℕ) (older : List ℕ) (f : Frame) (rest : Tree) → Holds sizes l e g t s env c → s.live ≡ birth ∷ older → slice_get s.frames birth ≡ Some f → f.catch ≡ false → Performs words sizes (GoesOn words sizes l e g t (with_live s older) env rest) 1 4 (pop_frame t rest) c
pop_performs words sizes l e g t s env c birth older f rest h live there pushed =
    let y : IsYoungest sizes l g s (stack_of c) birth older f = youngest_held birth older f h.frames live there in
    let from : ℕ = frames_place sizes s.frames (birth ∷ older) in
    let base : ℕ = frames_place sizes s.frames older in
    let room : words_of_frames s.frames (birth ∷ older) ≤ sizes.stack / 4 = subst (λ births. words_of_frames s.frames births ≤ sizes.stack / 4) live h.frames.room in
    let d : Core = binding c (var t) (Number (stack_address base)) (Some (born_first g older)) in
    let held : Holds sizes l e g t s env d = temporary_held sizes l e g t s env c (Number (stack_address base)) (Some (born_first g older)) h in
    let at_next : c.top + 4 ≡ stack_address (from + 1) = omega (arith, y.top) in
    let born : is_birth (stamp_in (words_in words sizes) d (of_var t)) (birth_at (words_in words sizes) (at d 0 0 0 0).state (at d 0 0 0 0).marks (stack_address base)) ≡ true =
    rw (newest_kept c.stamps t (Some (born_first g older)), older_born words sizes l g s d older h.frames.whole h.frames.words y.rest) (eq-eqb (born_first g older) (born_first g older) refl) in
    stored_word_performs words sizes (GoesOn words sizes l e g t (with_live s older) env rest) l g s c 1 2 4 (g.born birth) (from + 1) (Number (stack_address base)) (Some (born_first g older)) (var t) (Do (op.Reset (of_var t)) rest) h.frames at_next y.frame.next
    (performs words sizes (GoesOn words sizes l e g t (with_live s older) env rest) 0 0 2 (Do (op.Reset (of_var t)) rest) rest d (resetting d (stack_address base))
    (reset_steps words sizes d (of_var t) (stack_address base) rest (newest_kept c.env t (Number (stack_address base))) (omega arith) (omega (arith, y.top)) (omega arith) (omega (arith, h.frames.whole)) born)
    (arrives words sizes (GoesOn words sizes l e g t (with_live s older) env rest)
    (λ block place moves steps spelled. record { core = resetting d (stack_address base); holds = popped_held sizes l e g t s env d birth older f held live there pushed; block = block; place = place; moves = moves; steps = steps; there = refl; spelled = spelled })))
