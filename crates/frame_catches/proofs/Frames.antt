-- Frames and data, with one CATCH more.
use Rattle.std.proofs.Common.{◌≡◌, ℕ, ◌+◌, ◌-◌, ◌*◌, ◌/◌, ◌<◌, ◌≤◌, ◌==◌, ◌||◌, Bool, true, false, if◌then◌else◌, List, [], ◌∷◌, ◌++◌, length, replicate, slice_get, Option, Some, None, is_some, refl, sym, ap, ◌∙◌, subst, arith, length-append}
use Rattle.std.specs.List.{AllByRecursion, list_any, flat_map}
use Rattle.std.specs.Option.{option_map_or}
use Rattle.std.proofs.lemmas.Bool.{eq-eqb, ne_eqb, eqb-true, eqb-false}
use Rattle.std.proofs.lemmas.Option.{slice_get_within}
use Rattle.t_prim.specs.Values.{Text, Literal, PrintName, EscapeV, text_of}
use Rattle.word_ir.specs.Word.{Word, Number, Code}
use Rattle.word_ir.specs.Storage.{Sizes, Regions, HEAP_START, static_at, long_at}
use Rattle.word_ir.specs.State as word_state
use Rattle.word_ir.specs.Stamps.{Stamp}
use Rattle.frame_ir.specs.Values.{Value, Frame, Env, captured_from}
use Rattle.frame_ir.specs.States.{State, Thing, APair, AVector, AClosure, AnObject, AnEscape, ACell, thing_words, is_live, older_than, with_frame}
use Rattle.frame_ir.specs.Operations.{catch_frame}
use Rattle.word_trees.specs.Cores.{Core, some_stamp, stack_left}
use Rattle.frame_words.specs.Segments.{place_of, total_of}
use Rattle.frame_words.specs.Layouts.{Layout, INNER}
use Rattle.frame_words.specs.ValueWords.{same_thing, heap_place, val_word, word_for, or_zero}
use Rattle.frame_words.specs.Contents.{Escapes, thing_contents}
use Rattle.frame_words.specs.Holding.{IsMade, HoldsData}
use Rattle.frame_words.specs.Growing.{WordsStay, Adds}
use Rattle.frame_words.specs.Origins.{OnHeap}
use Rattle.frame_words.proofs.Segments.{place_last, later_place}
use Rattle.frame_words.proofs.Identity.{thing_symmetric}
use Rattle.frame_words.proofs.Sizes.{thing_same}
use Rattle.frame_words.proofs.Growing.{words_stay, sizes_stay, total_alike, distinct_more, no_place, data_grow}
use Rattle.frame_words.proofs.Values.{on_heap}
use Rattle.frame_stacks.specs.Stacks.{Stack, Ways, stack_of, words_of_frames, frames_place, stack_address, frame_at, born_first, pushed_at, IsStored, StandsFor}
use Rattle.frame_stacks.specs.Frames.{HoldsSlot, HoldsFrame, HoldsAll, HoldsFrames, HoldsEscapes, HoldsVariable, Holds, is_catch, inner_word}
use Rattle.frame_stacks.proofs.Raising.{data_of_more, get_more, words_more, address_stays, born_stays, stands_more, live_below, all_raised}
use Rattle.frame_pushes.proofs.Filling.{Put, put, IsFilling}
use Rattle.frame_heap.proofs.Held.{stands_kept}
use Rattle.frame_escapes.proofs.Data.{AgreeOnMade, data_alike}
use Rattle.frame_catches.specs.Laws.{opened_escapes, opened}

get_last : {X : Type 0} (xs : List X) (x : X) → slice_get (xs ++ x ∷ []) (length xs) ≡ Some x
get_last [] x = refl
get_last (y ∷ xs) x = get_last xs x

absent : (l : Layout) (s : State) (size : Thing → ℕ) (x : Thing) (xs : List Thing) → ((y : Thing) → IsMade l s y → same_thing y x ≡ false) → AllByRecursion (IsMade l s) xs → place_of same_thing size xs x ≡ None
absent l s size x [] f h = refl
absent l s size x (y ∷ xs) f h = later_place same_thing size y x xs None (f y h.0) (absent l s size x xs f h.1)

module _ (sizes : Sizes) (l : Layout) (e : Escapes) (g : Ways) (t : ℕ) (s : State) (env : Env) (c : Core) (back : ℕ) (h : Holds sizes l e g t s env c) (room : 4 * 2 ≤ stack_left c) where
  abbrev pub frame : Frame
  frame = catch_frame back

  abbrev pub birth : ℕ
  birth = length s.frames

  -- with the frame
  abbrev pub middle : State
  middle = with_frame s (catch_frame back)

  -- with the escape too
  abbrev pub last : State
  last = opened s back

  abbrev pub inner : ℕ
  inner = inner_word l s s.live

  abbrev pub now : Escapes
  now = opened_escapes e (length s.frames) (frame_at sizes (opened s back) (length s.frames)) (inner_word l s s.live)

  pub below : AllByRecursion (λ b. b < length s.frames) s.live
  below = live_below sizes l g s (stack_of c) s.live h.frames.frames

  abbrev pub from : ℕ
  from = sizes.stack / 4 - (2 + words_of_frames s.frames s.live)

  pub enough : 2 + words_of_frames s.frames s.live ≤ sizes.stack / 4
  enough = omega (arith, room, h.frames.top, h.frames.room, h.frames.whole)

  pub top_is : c.top ≡ stack_address (from + 2)
  top_is = omega (arith, h.frames.top, enough)

  new_words : words_of_frames middle.frames middle.live ≡ 2 + words_of_frames s.frames s.live
  new_words = rw (get_last s.frames frame, words_more s.frames frame s.live below) refl

  pub new_place : frames_place sizes middle.frames middle.live ≡ from
  new_place = ap (λ n. sizes.stack / 4 - n) new_words

  pub address_is : frame_at sizes last (length s.frames) ≡ stack_address from
  address_is =
      let first : Rattle.frame_stacks.specs.Stacks.live_from (length s.frames) (length s.frames ∷ s.live) ≡ length s.frames ∷ s.live = rw (eq-eqb (length s.frames) (length s.frames) refl) refl in
      ap (λ births. stack_address (frames_place sizes last.frames births)) first ∙ ap stack_address new_place

  -- ---- the data

  new_escape : (y : Thing) → IsMade l s y → same_thing y (AnEscape (length s.frames)) ≡ false
  new_escape (APair k) m = refl
  new_escape (AVector k) m = refl
  new_escape (AClosure k) m = refl
  new_escape (AnObject k) m = refl
  new_escape (ACell k) m = refl
  new_escape (AnEscape k) m = ne_eqb k (length s.frames) (λ eq. absurd (omega (arith, eq, m)))

  pub old_is_other : (b p : ℕ) → heap_place s (AnEscape b) ≡ Some p → (b == length s.frames) ≡ false
  old_is_other b p found =
      ne_eqb b (length s.frames)
      (λ eq.
      let none : heap_place s (AnEscape (length s.frames)) ≡ None = absent l s (thing_words s) (AnEscape (length s.frames)) s.made new_escape h.data_held.made in
      absurd (let some : heap_place s (AnEscape (length s.frames)) ≡ Some p = subst (λ z. heap_place s (AnEscape z) ≡ Some p) eq found in cc))

  agree : AgreeOnMade s e now
  agree = record { frames = λ b p found. rw (old_is_other b p found) refl; outers = λ b p found. rw (old_is_other b p found) refl }

  pub middle_data : HoldsData sizes l now middle c.storage c.next c.output
  middle_data = data_of_more sizes l now s frame c.storage c.next c.output (data_alike sizes l e now s c.storage c.next c.output agree h.data_held)

  pub last_text : (y : Text) (b : List ℕ) → text_of middle.store y ≡ Some b → text_of last.store y ≡ Some b
  last_text (Literal k) b q = q
  last_text (PrintName n) b q = q

  abbrev pub adds : Adds l middle last
  adds = record {
    more = AnEscape (length s.frames) ∷ [];
    made = refl;
    pairs = λ k p at. at;
    vectors = λ k items at. at;
    closures = λ i y at. at;
    objects = λ i y at. at;
    cells = λ k y at. at;
    frames = omega arith;
    texts = last_text;
    pairs_apart = λ k p found. refl;
    closures_apart = λ i p found. refl;
  }

  pub stay : WordsStay l middle last
  stay = words_stay l middle last adds middle_data.made

  -- the words of the escape
  abbrev pub escape_words : List Word
  escape_words = Number 0x2D ∷ Number (stack_address from) ∷ Number (inner_word l s s.live) ∷ Number 0 ∷ []

  contents : flat_map (thing_contents l now last) (AnEscape (length s.frames) ∷ []) ≡ escape_words
  contents =
      ap (λ q. Number 0x2D ∷ Number (if q then frame_at sizes (opened s back) (length s.frames) else e.frame (length s.frames)) ∷ Number (if q then inner_word l s s.live else e.outer (length s.frames)) ∷ Number 0 ∷ []) (eq-eqb (length s.frames) (length s.frames) refl)
      ∙ ap (λ a. Number 0x2D ∷ Number a ∷ Number (inner_word l s s.live) ∷ Number 0 ∷ []) address_is

  pub last_data : (storage : Regions Word) → 16 ≤ Rattle.word_trees.specs.Cores.heap_left sizes c → storage.statics ≡ c.storage.statics → storage.heap ≡ (flat_map (thing_contents l now middle) middle.made ++ escape_words) ++ replicate (sizes.heap / 4 - last.store.heap) (Number 0) → HoldsData sizes l now last storage (c.next + 16) c.output
  last_data storage space statics heap =
      data_grow sizes l now middle last c.storage storage c.next (c.next + 16) c.output c.output middle_data adds statics
      (heap ∙ ap (λ ws. (flat_map (thing_contents l now middle) middle.made ++ ws) ++ replicate (sizes.heap / 4 - last.store.heap) (Number 0)) (sym contents))
      refl (omega (arith, h.data_held.next_is)) (omega (arith, space, h.data_held.next_is))
      (distinct_more same_thing (thing_words s) (thing_words last) s.made (AnEscape (length s.frames)) thing_symmetric h.data_held.distinct (absent l s (thing_words s) (AnEscape (length s.frames)) s.made new_escape h.data_held.made))
      ((let n : length (s.frames ++ frame ∷ []) ≡ length s.frames + 1 = length-append s.frames (frame ∷ []) in omega (arith, n)), tt) refl h.data_held.output_is

  old_total : total_of (thing_words last) middle.made ≡ s.store.heap
  old_total = sym (total_alike (thing_words middle) (thing_words last) middle.made (sizes_stay l middle last adds middle_data.made)) ∙ sym middle_data.taken

  pub place_is : heap_place last (AnEscape (length s.frames)) ≡ Some s.store.heap
  place_is = place_last same_thing (thing_words last) s.made (AnEscape (length s.frames)) (thing_same (AnEscape (length s.frames))) (absent l s (thing_words last) (AnEscape (length s.frames)) s.made new_escape h.data_held.made) ∙ ap Some old_total

  -- ---- frames

  module _ (step : ℕ) where
    abbrev pub ways : Ways
    ways = pushed_at g (length s.frames) step

    abbrev pub puts : List Put
    puts = put (Code (g.begins back)) None ∷ put (Number (stack_address (frames_place sizes middle.frames s.live))) (Some (born_first ways s.live)) ∷ []

    module _ (raised : Stack) (filling : IsFilling (stack_of c) raised from 2 step puts) where
      born_now : ways.born (length s.frames) ≡ step
      born_now = rw (eq-eqb (length s.frames) (length s.frames) refl) refl

      stored_new : {place : ℕ} {x : Word} {stamp : Stamp} (p : ℕ) → p ≡ place → IsStored raised step place x stamp → IsStored raised (ways.born (length s.frames)) p x stamp
      stored_new {place} {x} {stamp} p eq o = subst (λ n. IsStored raised n p x stamp) (sym born_now) (subst (λ n. IsStored raised step n x stamp) (sym eq) o)

      frame_new : HoldsFrame sizes l ways middle raised (length s.frames) s.live from frame
      frame_new = record {
        back = stored_new from (omega arith) (filling.stored 0 (put (Code (g.begins back)) None) refl);
        next = stored_new (from + 1) refl (filling.stored 1 (put (Number (stack_address (frames_place sizes middle.frames s.live))) (Some (born_first ways s.live))) refl);
        slots = λ slot v found. absurd (cc);
        headers = λ slot k found. absurd (cc);
        codes = λ slot k found. absurd (cc);
        captured = λ slot i k v found there. absurd (cc);
        marks = λ i inside.
            let m = filling.marks i inside in
            let index : (stack_address (from + i) - raised.top) / 4 ≡ i = omega (arith, filling.top) in
            (m.0, ap (slice_get raised.live) index ∙ (m.1 ∙ ap (λ n. Some (record { birth = n; written = m.0 })) (sym born_now)));
        catches = λ eq. refl;
      }

      all_middle : HoldsAll sizes l ways middle raised middle.live
      all_middle = (
        frame,
        get_last s.frames frame,
        below,
        subst (λ place. HoldsFrame sizes l ways middle raised (length s.frames) s.live place frame) (sym new_place) frame_new,
        all_raised sizes l g s frame (stack_of c) raised step h.frames filling.raised,
      )

      -- ---- with the escape

      pub stands : (v : Value) (x : Word) (stamp : Stamp) → StandsFor sizes l ways middle v x stamp → StandsFor sizes l ways last v x stamp
      stands v x stamp o = stands_kept sizes l now ways middle last c c stay v x stamp o

      slot_kept : (b place : ℕ) (f : Frame) (slot : ℕ) (v : Value) → HoldsSlot sizes l ways middle raised b place f slot v → HoldsSlot sizes l ways last raised b place f slot v
      slot_kept b place f slot v o = record { within = o.within; word = o.word; stamp = o.stamp; stored = o.stored; stands = stands v o.word o.stamp o.stands }

      frame_kept : (b : ℕ) (births : List ℕ) (place : ℕ) (f : Frame) → HoldsFrame sizes l ways middle raised b births place f → HoldsFrame sizes l ways last raised b births place f
      frame_kept b births place f o = record {
        back = o.back;
        next = o.next;
        slots = λ slot v found. slot_kept b place f slot v (o.slots slot v found);
        headers = o.headers;
        codes = o.codes;
        captured = λ slot i x v found there. slot_kept b place f (captured_from slot + i) v (o.captured slot i x v found there);
        marks = o.marks;
        catches = o.catches;
      }

      all_kept : (births : List ℕ) → HoldsAll sizes l ways middle raised births → HoldsAll sizes l ways last raised births
      all_kept [] o = tt
      all_kept (b ∷ births) o = (o.0, o.1, o.2, frame_kept b births (frames_place sizes middle.frames (b ∷ births)) o.0 o.3, all_kept births o.4)

      pub frames_held : HoldsFrames sizes l ways last raised
      frames_held = record {
        whole = h.frames.whole;
        small = h.frames.small;
        room = omega (arith, new_words, enough);
        top = filling.top ∙ ap stack_address (sym new_place);
        words = filling.words ∙ h.frames.words;
        stamps = filling.stamps ∙ h.frames.stamps;
        marks = filling.marked ∙ (omega (arith, h.frames.marks, new_words));
        frames = all_kept middle.live all_middle;
      }

      pub variable_kept : (d : Core) (x : ℕ) (v : Value) (o : HoldsVariable sizes l g t s c x v) → word_state.kept d.env (word_state.Own x) ≡ word_state.kept c.env (word_state.Own x) → word_state.kept d.stamps (word_state.Own x) ≡ word_state.kept c.stamps (word_state.Own x) → HoldsVariable sizes l ways t last d x v
      variable_kept d x v o env stamps = record {
        older = o.older;
        word = o.word;
        stamp = o.stamp;
        held = env ∙ o.held;
        stamped = ap some_stamp stamps ∙ o.stamped;
        stands = stands v o.word o.stamp (stands_more sizes l g s frame (stack_of c) raised step below filling.raised v o.word o.stamp o.stands);
      }

      -- ---- escapes

      catch_stays : (b : ℕ) → b < length s.frames → is_catch last b ≡ is_catch s b
      catch_stays b lt = ap (λ o. option_map_or (λ f. f.catch) o false) (get_more s.frames frame b lt)

      catch_now : is_catch last (length s.frames) ≡ true
      catch_now = ap (λ o. option_map_or (λ f. f.catch) o false) (get_last s.frames frame)

      -- an escape that was made keeps its word
      word_stays : (b p : ℕ) → heap_place s (AnEscape b) ≡ Some p → (word_for l last (EscapeV b) ≡ Some (HEAP_START + 4 * p + 2)) × (word_for l s (EscapeV b) ≡ Some (HEAP_START + 4 * p + 2))
      word_stays b p found =
          let old : word_for l s (EscapeV b) ≡ Some (HEAP_START + 4 * p + 2) = rw found refl in
          let more : word_for l middle (EscapeV b) ≡ Some (HEAP_START + 4 * p + 2) = rw found refl in
          (stay.values (EscapeV b) (HEAP_START + 4 * p + 2) more, old)

      place_stays : (b p : ℕ) → heap_place s (AnEscape b) ≡ Some p → heap_place last (AnEscape b) ≡ Some p
      place_stays b p found =
          let o : OnHeap last 2 (AnEscape b) (HEAP_START + 4 * p + 2) = on_heap last 2 (AnEscape b) (HEAP_START + 4 * p + 2) (word_stays b p found).0 in
          let same : o.place ≡ p = omega (arith, o.word) in
          o.found ∙ ap Some same

      was_at_by : (o : Option ℕ) (b p : ℕ) → (length s.frames == b) ≡ false → heap_place s (AnEscape b) ≡ o → heap_place last (AnEscape b) ≡ Some p → o ≡ Some p
      was_at_by (Some q) b p other at found = sym (place_stays b q at) ∙ found
      was_at_by None b p other at found =
          let gone : heap_place last (AnEscape b) ≡ None = no_place l middle last adds middle_data.made (AnEscape b) at (later_place same_thing (thing_words last) (AnEscape (length s.frames)) (AnEscape b) [] None other refl) in
          absurd (cc)

      was_at : (b p : ℕ) → (length s.frames == b) ≡ false → heap_place last (AnEscape b) ≡ Some p → heap_place s (AnEscape b) ≡ Some p
      was_at b p other found = was_at_by (heap_place s (AnEscape b)) b p other refl found

      some_place : (o : Option ℕ) → is_some o ≡ true → (p : ℕ) × (o ≡ Some p)
      some_place (Some p) is = (p, refl)
      some_place None is = absurd (cc)

      inner_by : (b : ℕ) (q : Bool) (x y : ℕ) → is_catch s b ≡ q → is_live s b ≡ true → x ≡ y → (if q then val_word l last (EscapeV b) else x) ≡ (if q then val_word l s (EscapeV b) else y)
      inner_by b true x y catch live same = let p = some_place (heap_place s (AnEscape b)) (h.escapes.made b live catch) in let w = word_stays b p.0 p.1 in ap or_zero (w.0 ∙ sym w.1)
      inner_by b false x y catch live same = same

      inner_stays : (births : List ℕ) → AllByRecursion (λ b. b < length s.frames) births → AllByRecursion (λ b. is_live s b ≡ true) births → inner_word l last births ≡ inner_word l s births
      inner_stays [] lt live = refl
      inner_stays (b ∷ births) lt live =
          ap (λ q. if q then val_word l last (EscapeV b) else inner_word l last births) (catch_stays b lt.0)
          ∙ inner_by b (is_catch s b) (inner_word l last births) (inner_word l s births) refl live.0 (inner_stays births lt.1 live.1)

      -- ---- live frames are live

      with_one_more : (y b : ℕ) (births : List ℕ) → list_any (λ x. x == b) births ≡ true → list_any (λ x. x == b) (y ∷ births) ≡ true
      with_one_more y b births is = by_test (y == b) (list_any (λ x. x == b) births) is
        where
          by_test : (p q : Bool) → q ≡ true → (p || q) ≡ true
          by_test true q is = refl
          by_test false q is = is

      all_more : (y : ℕ) (all births : List ℕ) → AllByRecursion (λ b. list_any (λ x. x == b) all ≡ true) births → AllByRecursion (λ b. list_any (λ x. x == b) (y ∷ all) ≡ true) births
      all_more y all [] is = tt
      all_more y all (b ∷ births) is = (with_one_more y b all is.0, all_more y all births is.1)

      all_live : (births : List ℕ) → AllByRecursion (λ b. list_any (λ x. x == b) births ≡ true) births
      all_live [] = tt
      all_live (y ∷ births) = (rw (eq-eqb y y refl) refl, all_more y births births (all_live births))

      older_all : (P : ℕ → Type 0) (b : ℕ) (births : List ℕ) → AllByRecursion P births → AllByRecursion P (older_than b births)
      older_all P b [] is = tt
      older_all P b (y ∷ births) is = by_test (y == b) is.1 (older_all P b births is.1)
        where
          by_test : (q : Bool) → AllByRecursion P births → AllByRecursion P (older_than b births) → AllByRecursion P (if q then births else older_than b births)
          by_test true a z = a
          by_test false a z = z

      live_old : (b : ℕ) → (length s.frames == b) ≡ false → is_live last b ≡ true → is_live s b ≡ true
      live_old b other is = subst (λ q. (q || is_live s b) ≡ true) other is

      below_by : (b x : ℕ) (births : List ℕ) (q : Bool) → (x == b) ≡ q → x < length s.frames → (list_any (λ y. y == b) births ≡ true → b < length s.frames) → (q || list_any (λ y. y == b) births) ≡ true → b < length s.frames
      below_by b x births true eq lt next is = let same : x ≡ b = eqb-true x b eq in omega (arith, same, lt)
      below_by b x births false eq lt next is = next is

      live_is_below : (b : ℕ) (births : List ℕ) → AllByRecursion (λ x. x < length s.frames) births → list_any (λ y. y == b) births ≡ true → b < length s.frames
      live_is_below b [] lt is = absurd (cc)
      live_is_below b (x ∷ births) lt is = below_by b x births (x == b) refl lt.0 (live_is_below b births lt.1) is

      catch_is_below : (b : ℕ) (o : Option Frame) → slice_get s.frames b ≡ o → option_map_or (λ f. f.catch) o false ≡ true → b < length s.frames
      catch_is_below b (Some f) at is = slice_get_within s.frames b f at
      catch_is_below b None at is = absurd (cc)

      -- the other one
      turned : (b : ℕ) → (length s.frames == b) ≡ false → (b == length s.frames) ≡ false
      turned b other = ne_eqb b (length s.frames) (λ eq. eqb-false (length s.frames) b other (sym eq))

      module _ (d : Core) (word_is : long_at d.storage (static_at INNER) ≡ Some (Number (HEAP_START + 4 * s.store.heap + 2))) (stamp_new : slice_get d.longs.heap (s.store.heap + 1) ≡ Some (Some step)) (stamps_old : (p : ℕ) → p + 4 ≤ s.store.heap → slice_get d.longs.heap (p + 1) ≡ slice_get c.longs.heap (p + 1)) where
        new_word : val_word l last (EscapeV (length s.frames)) ≡ HEAP_START + 4 * s.store.heap + 2
        new_word = rw place_is refl

        inner_now : inner_word l last last.live ≡ HEAP_START + 4 * s.store.heap + 2
        inner_now = ap (λ q. if q then val_word l last (EscapeV (length s.frames)) else inner_word l last s.live) catch_now ∙ new_word

        older_is : (b : ℕ) → (length s.frames == b) ≡ false → older_than b last.live ≡ older_than b s.live
        older_is b other = rw other refl

        made_by : (b : ℕ) (q : Bool) → (length s.frames == b) ≡ q → is_live last b ≡ true → is_catch last b ≡ true → is_some (heap_place last (AnEscape b)) ≡ true
        made_by b true eq live catch = let same : length s.frames ≡ b = eqb-true (length s.frames) b eq in subst (λ z. is_some (heap_place last (AnEscape z)) ≡ true) same (ap is_some place_is)
        made_by b false eq live catch =
            let old : is_live s b ≡ true = live_old b eq live in
            let lt : b < length s.frames = live_is_below b s.live below old in
            let p = some_place (heap_place s (AnEscape b)) (h.escapes.made b old (sym (catch_stays b lt) ∙ catch)) in
            ap is_some (place_stays b p.0 p.1)

        frames_by : (b p : ℕ) (q : Bool) → (length s.frames == b) ≡ q → heap_place last (AnEscape b) ≡ Some p → now.frame b ≡ (if is_live last b then frame_at sizes last b else 0)
        frames_by b p true eq found =
            let same : length s.frames ≡ b = eqb-true (length s.frames) b eq in
            subst (λ z. now.frame z ≡ (if is_live last z then frame_at sizes last z else 0)) same (rw (eq-eqb (length s.frames) (length s.frames) refl) refl)
        frames_by b p false eq found =
            let old : heap_place s (AnEscape b) ≡ Some p = was_at b p eq found in
            let lt : b < length s.frames = catch_is_below b (slice_get s.frames b) refl (h.escapes.caught b p old) in
            let known : e.frame b ≡ (if is_live s b then frame_at sizes s b else 0) = h.escapes.frames b p old in
            let at : frame_at sizes s b ≡ frame_at sizes last b = address_stays sizes l g s frame (stack_of c) raised step below filling.raised b lt in
            let live : is_live last b ≡ is_live s b = rw eq refl in
            let first : now.frame b ≡ e.frame b = rw (turned b eq) refl in
            first ∙ (known ∙ (ap (λ a. if is_live s b then a else 0) at ∙ ap (λ q. if q then frame_at sizes last b else 0) (sym live)))

        caught_by : (b p : ℕ) (q : Bool) → (length s.frames == b) ≡ q → heap_place last (AnEscape b) ≡ Some p → is_catch last b ≡ true
        caught_by b p true eq found = let same : length s.frames ≡ b = eqb-true (length s.frames) b eq in subst (λ z. is_catch last z ≡ true) same catch_now
        caught_by b p false eq found =
            let old : is_catch s b ≡ true = h.escapes.caught b p (was_at b p eq found) in
            catch_stays b (catch_is_below b (slice_get s.frames b) refl old) ∙ old

        outer_by : (b : ℕ) (q : Bool) → (length s.frames == b) ≡ q → is_live last b ≡ true → is_catch last b ≡ true → now.outer b ≡ inner_word l last (older_than b last.live)
        outer_by b true eq live catch =
            let same : length s.frames ≡ b = eqb-true (length s.frames) b eq in
            let behind : older_than (length s.frames) last.live ≡ s.live = rw (eq-eqb (length s.frames) (length s.frames) refl) refl in
            let first : now.outer (length s.frames) ≡ inner_word l s s.live = rw (eq-eqb (length s.frames) (length s.frames) refl) refl in
            subst (λ z. now.outer z ≡ inner_word l last (older_than z last.live)) same
            (first ∙ (sym (inner_stays s.live below (all_live s.live)) ∙ ap (inner_word l last) (sym behind)))
        outer_by b false eq live catch =
            let old : is_live s b ≡ true = live_old b eq live in
            let lt : b < length s.frames = live_is_below b s.live below old in
            let first : now.outer b ≡ e.outer b = rw (turned b eq) refl in
            first
            ∙ (h.escapes.outer b old (sym (catch_stays b lt) ∙ catch)
            ∙ (sym (inner_stays (older_than b s.live) (older_all (λ x. x < length s.frames) b s.live below) (older_all (λ x. is_live s x ≡ true) b s.live (all_live s.live))) ∙ ap (inner_word l last) (sym (older_is b eq))))

        stamps_by : (b p : ℕ) (q : Bool) → (length s.frames == b) ≡ q → heap_place last (AnEscape b) ≡ Some p → is_live last b ≡ true → slice_get d.longs.heap (p + 1) ≡ Some (Some (ways.born b))
        stamps_by b p true eq found live =
            let same : length s.frames ≡ b = eqb-true (length s.frames) b eq in
            let at : heap_place last (AnEscape (length s.frames)) ≡ Some p = subst (λ z. heap_place last (AnEscape z) ≡ Some p) (sym same) found in
            let place : s.store.heap ≡ p = let z : heap_place last (AnEscape (length s.frames)) ≡ Some s.store.heap = place_is in cc in
            ap (λ n. slice_get d.longs.heap (n + 1)) (sym place) ∙ (stamp_new ∙ ap (λ n. Some (Some n)) (sym (ap ways.born (sym same) ∙ born_now)))
        stamps_by b p false eq found live =
            let old : heap_place s (AnEscape b) ≡ Some p = was_at b p eq found in
            let lt : b < length s.frames = catch_is_below b (slice_get s.frames b) refl (h.escapes.caught b p old) in
            let within = Rattle.frame_words.proofs.Reading.heap_within sizes l e s c.storage c.next c.output h.data_held (AnEscape b) p old in
            stamps_old p within
            ∙ (h.escapes.stamps b p old (live_old b eq live) ∙ ap (λ n. Some (Some n)) (sym (born_stays sizes l g s frame (stack_of c) raised step below filling.raised b lt)))

        pub escapes_held : HoldsEscapes sizes l now ways last d
        escapes_held = record {
          inner = word_is ∙ ap (λ n. Some (Number n)) (sym inner_now);
          made = λ b live catch. made_by b (length s.frames == b) refl live catch;
          frames = λ b p found. frames_by b p (length s.frames == b) refl found;
          caught = λ b p found. caught_by b p (length s.frames == b) refl found;
          outer = λ b live catch. outer_by b (length s.frames == b) refl live catch;
          stamps = λ b p found live. stamps_by b p (length s.frames == b) refl found live;
          closures_apart = λ i p found. no_place l middle last adds middle_data.made (AClosure i) (h.escapes.closures_apart i p found) refl;
        }
