-- With a frame more, stack, escapes and variables are held.
use Rattle.std.proofs.Common.{◌≡◌, ℕ, suc, ◌+◌, ◌-◌, ◌*◌, ◌/◌, ◌<◌, ◌≤◌, ◌==◌, ◌||◌, Bool, true, false, if◌then◌else◌, List, [], ◌∷◌, ◌++◌, length, slice_get, Option, Some, None, refl, sym, ap, ◌∙◌, subst, arith}
use Rattle.std.specs.List.{AllByRecursion, list_any}
use Rattle.std.specs.Option.{option_map_or}
use Rattle.std.proofs.lemmas.Bool.{eq-eqb, ne_eqb, eqb-true}
use Rattle.std.proofs.lemmas.Option.{slice_get_within}
use Rattle.word_ir.specs.Word.{Word, Number, Code}
use Rattle.word_ir.specs.Storage.{Sizes, Regions}
use Rattle.word_ir.specs.Stamps.{Stamp, Live}
use Rattle.frame_ir.specs.Values.{Value, Frame, Env, frame_words, kept_or}
use Rattle.frame_ir.specs.States.{State, is_live, older_than, with_frame}
use Rattle.frame_ir.specs.Operations.{pushed_frame}
use Rattle.word_trees.specs.Cores.{Core, stack_left, pushing}
use Rattle.frame_words.specs.Layouts.{Layout}
use Rattle.frame_words.specs.Contents.{Escapes}
use Rattle.frame_words.specs.Holding.{HoldsData}
use Rattle.frame_stacks.specs.Stacks.{Stack, Ways, stack_of, words_of_frames, frames_place, stack_address, frame_at, born_first, IsStored, pushed_at}
use Rattle.frame_stacks.specs.Frames.{HoldsSlot, HoldsFrame, HoldsFrames, HoldsEscapes, HoldsVariable, Holds, is_catch, inner_word}
use Rattle.frame_stacks.proofs.Raising.{data_of_more, get_more, words_more, address_stays, born_stays, stands_more, live_below, all_raised}
use Rattle.frame_pushes.proofs.Filling.{Put, put, IsFilling, with_stack}
use Rattle.frame_pushes.proofs.Kept.{AllStand, stands_at}

get_last : {X : Type 0} (xs : List X) (x : X) → slice_get (xs ++ x ∷ []) (length xs) ≡ Some x
get_last [] x = refl
get_last (y ∷ xs) x = get_last xs x

-- the data don't look at the stack
data_of_stack : (sizes : Sizes) (l : Layout) (e : Escapes) (s : State) (storage : Regions Word) (ws : List Word) (next : ℕ) (output : List ℕ) → HoldsData sizes l e s storage next output → HoldsData sizes l e s (record storage { stack = ws }) next output
data_of_stack sizes l e s storage ws next output h = record {
  heap = h.heap;
  taken = h.taken;
  next_is = h.next_is;
  room = h.room;
  small = h.small;
  distinct = h.distinct;
  made = h.made;
  pairs_apart = h.pairs_apart;
  laid_out = h.laid_out;
  front = h.front;
  front_length = h.front_length;
  statics = h.statics;
  fixed = h.fixed;
  globals = h.globals;
  globals_known = h.globals_known;
  output_is = h.output_is;
}

kept_is : (o : Option Value) (v : Value) → kept_or o None ≡ Some v → o ≡ Some v
kept_is (Some w) v e = e
kept_is None v e = absurd (cc)

module _ (sizes : Sizes) (l : Layout) (e : Escapes) (g : Ways) (t : ℕ) (s : State) (env : Env) (c : Core) (back size : ℕ) (vs : List Value) (h : Holds sizes l e g t s env c) (short : length vs ≤ size) (room : 4 * frame_words (pushed_frame back size vs) ≤ stack_left c) (step : ℕ) where
  abbrev pub frame : Frame
  frame = pushed_frame back size vs

  abbrev pub count : ℕ
  count = frame_words (pushed_frame back size vs)

  abbrev pub more : State
  more = with_frame s (pushed_frame back size vs)

  abbrev pub ways : Ways
  ways = pushed_at g (length s.frames) step

  pub below : AllByRecursion (λ b. b < length s.frames) s.live
  below = live_below sizes l g s (stack_of c) s.live h.frames.frames

  -- where the new frame begins
  abbrev pub from : ℕ
  from = sizes.stack / 4 - (frame_words (pushed_frame back size vs) + words_of_frames s.frames s.live)

  pub enough : frame_words (pushed_frame back size vs) + words_of_frames s.frames s.live ≤ sizes.stack / 4
  enough = omega (arith, room, h.frames.top, h.frames.room, h.frames.whole)

  pub top_is : c.top ≡ stack_address (from + count)
  top_is = omega (arith, h.frames.top, enough)

  new_words : words_of_frames more.frames more.live ≡ frame_words (pushed_frame back size vs) + words_of_frames s.frames s.live
  new_words = rw (get_last s.frames frame, words_more s.frames frame s.live below) refl

  pub new_place : frames_place sizes more.frames more.live ≡ from
  new_place = ap (λ n. sizes.stack / 4 - n) new_words

  module _ (ws : List Word) (stamps : List Stamp) (live : List Live) (ps : List Put) (filling : IsFilling (stack_of c) (stack_of (with_stack (pushing c count step) ws stamps live)) from count step (put (Code (g.begins back)) None ∷ put (Number (stack_address (frames_place sizes more.frames s.live))) (Some (born_first ways s.live)) ∷ ps)) (stand : AllStand sizes l g s vs ps) where
    abbrev core : Core
    core = with_stack (pushing c count step) ws stamps live

    abbrev raised : Stack
    raised = stack_of core

    born_now : ways.born (length s.frames) ≡ step
    born_now = rw (eq-eqb (length s.frames) (length s.frames) refl) refl

    stored_new : {place : ℕ} {x : Word} {stamp : Stamp} (p : ℕ) → p ≡ place → IsStored raised step place x stamp → IsStored raised (ways.born (length s.frames)) p x stamp
    stored_new {place} {x} {stamp} p eq o = subst (λ n. IsStored raised n p x stamp) (sym born_now) (subst (λ n. IsStored raised step n x stamp) (sym eq) o)

    slot_new : (slot : ℕ) (v : Value) → slice_get vs slot ≡ Some v → HoldsSlot sizes l ways more raised (length s.frames) from frame slot v
    slot_new slot v found =
        let o = stands_at sizes l g s vs ps slot v stand found in
        let inside : slot < length vs = slice_get_within vs slot v found in
        let two : 2 + slot ≡ suc (suc slot) = omega arith in
        record {
          within = omega (arith, inside, short);
          word = o.0.word;
          stamp = o.0.stamp;
          stored = stored_new (from + (2 + slot)) refl (filling.stored (2 + slot) o.0 (ap (slice_get (put (Code (g.begins back)) None ∷ put (Number (stack_address (frames_place sizes more.frames s.live))) (Some (born_first ways s.live)) ∷ ps)) two ∙ o.1));
          stands = stands_more sizes l g s frame (stack_of c) raised step below filling.raised v o.0.word o.0.stamp o.2;
        }

    frame_new : HoldsFrame sizes l ways more raised (length s.frames) s.live from frame
    frame_new = record {
      back = stored_new from (omega arith) (filling.stored 0 (put (Code (g.begins back)) None) refl);
      next = stored_new (from + 1) refl (filling.stored 1 (put (Number (stack_address (frames_place sizes more.frames s.live))) (Some (born_first ways s.live))) refl);
      slots = λ slot v found. slot_new slot v (kept_is (slice_get vs slot) v found);
      headers = λ slot k found. absurd (cc);
      codes = λ slot k found. absurd (cc);
      captured = λ slot i k v found there. absurd (cc);
      marks = λ i inside.
          let m = filling.marks i inside in
          let index : (stack_address (from + i) - raised.top) / 4 ≡ i = omega (arith, filling.top) in
          (m.0, ap (slice_get live) index ∙ (m.1 ∙ ap (λ n. Some (record { birth = n; written = m.0 })) (sym born_now)));
      catches = λ eq. absurd (cc);
    }

    frames_held : HoldsFrames sizes l ways more raised
    frames_held = record {
      whole = h.frames.whole;
      small = h.frames.small;
      room = omega (arith, new_words, enough);
      top = filling.top ∙ ap stack_address (sym new_place);
      words = filling.words ∙ h.frames.words;
      stamps = filling.stamps ∙ h.frames.stamps;
      marks = filling.marked ∙ (omega (arith, h.frames.marks, new_words));
      frames = (
        frame,
        get_last s.frames frame,
        below,
        subst (λ place. HoldsFrame sizes l ways more raised (length s.frames) s.live place frame) (sym new_place) frame_new,
        all_raised sizes l g s frame (stack_of c) raised step h.frames filling.raised,
      );
    }

    -- ---- escapes

    catch_stays : (b : ℕ) → b < length s.frames → is_catch more b ≡ is_catch s b
    catch_stays b lt = ap (λ o. option_map_or (λ f. f.catch) o false) (get_more s.frames frame b lt)

    no_catch : is_catch more (length s.frames) ≡ false
    no_catch = ap (λ o. option_map_or (λ f. f.catch) o false) (get_last s.frames frame)

    inner_stays : (births : List ℕ) → AllByRecursion (λ b. b < length s.frames) births → inner_word l more births ≡ inner_word l s births
    inner_stays [] lt = refl
    inner_stays (b ∷ births) lt = rw (catch_stays b lt.0, inner_stays births lt.1) refl

    inner_now : inner_word l more more.live ≡ inner_word l s s.live
    inner_now = rw no_catch (inner_stays s.live below)

    catch_below : (b : ℕ) (o : Option Frame) → slice_get s.frames b ≡ o → option_map_or (λ f. f.catch) o false ≡ true → b < length s.frames
    catch_below b (Some f) at eq = slice_get_within s.frames b f at
    catch_below b None at eq = absurd (cc)

    -- a CATCH's frame isn't the new one
    old_catch : (b : ℕ) → is_catch more b ≡ true → (length s.frames == b) ≡ false
    old_catch b eq = ne_eqb (length s.frames) b (λ same. absurd (let other : is_catch more b ≡ false = subst (λ n. is_catch more n ≡ false) same no_catch in cc))

    live_old : (b : ℕ) → (length s.frames == b) ≡ false → is_live more b ≡ true → is_live s b ≡ true
    live_old b other eq = subst (λ q. (q || is_live s b) ≡ true) other eq

    same_live : (b : ℕ) → b < length s.frames → is_live more b ≡ is_live s b
    same_live b lt = rw (ne_eqb (length s.frames) b (λ eq. absurd (omega (arith, lt, eq)))) refl

    below_live_by : (b x : ℕ) (births : List ℕ) (q : Bool) → (x == b) ≡ q → x < length s.frames → (list_any (λ y. y == b) births ≡ true → b < length s.frames) → (q || list_any (λ y. y == b) births) ≡ true → b < length s.frames
    below_live_by b x births true eq lt next found = let same : x ≡ b = eqb-true x b eq in omega (arith, same, lt)
    below_live_by b x births false eq lt next found = next found

    below_live : (b : ℕ) (births : List ℕ) → AllByRecursion (λ x. x < length s.frames) births → list_any (λ y. y == b) births ≡ true → b < length s.frames
    below_live b [] lt found = absurd (cc)
    below_live b (x ∷ births) lt found = below_live_by b x births (x == b) refl lt.0 (below_live b births lt.1) found

    older_below : (b : ℕ) (births : List ℕ) → AllByRecursion (λ x. x < length s.frames) births → AllByRecursion (λ x. x < length s.frames) (older_than b births)
    older_below b [] lt = tt
    older_below b (x ∷ births) lt = older_below_by b x births (x == b) lt.1 (older_below b births lt.1)
      where
        older_below_by : (b x : ℕ) (births : List ℕ) (q : Bool) → AllByRecursion (λ y. y < length s.frames) births → AllByRecursion (λ y. y < length s.frames) (older_than b births) → AllByRecursion (λ y. y < length s.frames) (if q then births else older_than b births)
        older_below_by b x births true one other = one
        older_below_by b x births false one other = other

    escapes_held : HoldsEscapes sizes l e ways more core
    escapes_held = record {
      inner = h.escapes.inner ∙ ap (λ n. Some (Number n)) (sym inner_now);
      made = λ b eq caught.
          let other : (length s.frames == b) ≡ false = old_catch b caught in
          let old : is_live s b ≡ true = live_old b other eq in
          let lt : b < length s.frames = below_live b s.live below old in
          h.escapes.made b old (sym (catch_stays b lt) ∙ caught);
      frames = λ b p found.
          let lt : b < length s.frames = catch_below b (slice_get s.frames b) refl (h.escapes.caught b p found) in
          let known : e.frame b ≡ (if is_live s b then frame_at sizes s b else 0) = h.escapes.frames b p found in
          let at : frame_at sizes s b ≡ frame_at sizes more b = address_stays sizes l g s frame (stack_of c) raised step below filling.raised b lt in
          known ∙ (ap (λ a. if is_live s b then a else 0) at ∙ ap (λ q. if q then frame_at sizes more b else 0) (sym (same_live b lt)));
      caught = λ b p found.
          let old : is_catch s b ≡ true = h.escapes.caught b p found in
          let lt : b < length s.frames = catch_below b (slice_get s.frames b) refl old in
          catch_stays b lt ∙ old;
      outer = λ b eq caught.
          let other : (length s.frames == b) ≡ false = old_catch b caught in
          let old : is_live s b ≡ true = live_old b other eq in
          let lt : b < length s.frames = below_live b s.live below old in
          let behind : older_than b more.live ≡ older_than b s.live = rw other refl in
          h.escapes.outer b old (sym (catch_stays b lt) ∙ caught)
          ∙ (sym (inner_stays (older_than b s.live) (older_below b s.live below)) ∙ ap (inner_word l more) (sym behind));
      stamps = λ b p found eq.
          let lt : b < length s.frames = catch_below b (slice_get s.frames b) refl (h.escapes.caught b p found) in
          let old : is_live s b ≡ true = sym (same_live b lt) ∙ eq in
          h.escapes.stamps b p found old ∙ ap (λ n. Some (Some n)) (sym (born_stays sizes l g s frame (stack_of c) raised step below filling.raised b lt));
      closures_apart = h.escapes.closures_apart;
    }

    -- ---- the whole

    variable_held : (x : ℕ) (v : Value) → HoldsVariable sizes l g t s c x v → HoldsVariable sizes l ways t more core x v
    variable_held x v o = record { older = o.older; word = o.word; stamp = o.stamp; held = o.held; stamped = o.stamped; stands = stands_more sizes l g s frame (stack_of c) raised step below filling.raised v o.word o.stamp o.stands }

    pub pushed_held : Holds sizes l e ways t more env core
    pushed_held = record {
      data_held = data_of_stack sizes l e more c.storage ws c.next c.output (data_of_more sizes l e s frame c.storage c.next c.output h.data_held);
      frames = frames_held;
      escapes = escapes_held;
      variables = record { each = λ x v found. variable_held x v (h.variables.each x v found) };
    }
