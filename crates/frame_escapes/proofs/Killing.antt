-- Escapes end, from the innermost one up to the one that is called.
use Rattle.std.proofs.Common.{◌≡◌, ℕ, ◌+◌, ◌-◌, ◌*◌, ◌/◌, ◌%◌, ◌^◌, ◌<◌, ◌≤◌, ◌==◌, ◌||◌, inl, inr, Bool, true, false, if◌then◌else◌, List, [], ◌∷◌, length, map, slice_get, slice_set, Option, Some, None, is_some, pos, refl, sym, ap, ◌∙◌, subst, arith}
use Rattle.std.specs.Option.{option_map_or}
use Rattle.std.proofs.lemmas.Bool.{eq-eqb, ne_eqb, eqb-true, eqb-false, lt-ltb, le-ltb}
use Rattle.t_prim.specs.Values.{Val, EscapeV}
use Rattle.word_ir.specs.declared.operands.Operand.TheVariants as operand
use Rattle.word_ir.specs.declared.words.Test.TheVariants as test
use Rattle.word_ir.specs.declared.words.WordBlock.{WordBlock}
use Rattle.word_ir.specs.declared.words.WordOp.TheVariants as op
use Rattle.word_ir.specs.declared.words.WordEnd.TheVariants as last
use Rattle.word_ir.specs.declared.words.Words.{Words}
use Rattle.word_ir.specs.Word.{Word, Number, Code, moved}
use Rattle.word_ir.specs.Storage.{Sizes, Regions, STATICS_START, HEAP_START, STACK_START, long_at}
use Rattle.word_ir.specs.State.{Own, kept}
use Rattle.word_ir.specs.State as word_state
use Rattle.word_ir.specs.Step.{words_in}
use Rattle.word_ir.specs.Stamps.{Stamp, Stamped, birth_at}
use Rattle.frame_ir.specs.Values.{Lasting, Frame, frame_words}
use Rattle.frame_ir.specs.States.{State, AnEscape, is_live, older_than, with_live, thing_words}
use Rattle.frame_ir.specs.Arguments.{bound}
use Rattle.word_trees.specs.Trees.{Do, Ask, Close, Spells}
use Rattle.word_trees.specs.Cores.{Core, at, word_in, stamp_in, some_stamp, binding, resetting, entering, bound_words, bound_stamps}
use Rattle.word_trees.specs.Leads.{Performs}
use Rattle.word_trees.proofs.Ends.{jump_enters, enter_enters}
use Rattle.word_trees.proofs.Operations.{reset_steps}
use Rattle.word_trees.proofs.Performing.{performs, performs_more, enters_performs, here_leads, load_performs, pop_performs, ask_performs_true, ask_performs_false}
use Rattle.frame_words.specs.Layouts.{Layout}
use Rattle.frame_words.specs.ValueWords.{same_thing, heap_place, word_for, val_word}
use Rattle.frame_words.specs.Contents.{Escapes}
use Rattle.frame_words.specs.Holding.{HoldsData}
use Rattle.frame_words.proofs.Identity.{words_tell}
use Rattle.frame_words.proofs.Segments.{apart}
use Rattle.frame_words.proofs.Sizes.{thing_sound}
use Rattle.frame_words.proofs.Reading.{heap_reads}
use Rattle.select_rows.specs.Macros.{var, of_var}
use Rattle.select_rows.proofs.Keeping.{may_read, older_kept, newest_kept, get_set, get_set_other}
use Rattle.frame_stacks.specs.Stacks.{Ways, stack_of, words_of_frames, frames_place, stack_address, live_from, frame_at}
use Rattle.frame_stacks.specs.Frames.{HoldsAll, HoldsFrames, HoldsEscapes, Holds, is_catch, inner_word}
use Rattle.frame_stacks.specs.Laws.{HasValue, AreParameters, Begins}
use Rattle.frame_stacks.proofs.Blocks.{entering_held, stored_word_performs}
use Rattle.frame_stacks.proofs.Gets.{IsYoungest, youngest_held}
use Rattle.frame_stacks.proofs.Pops.{above, data_of_older, older_born}
use Rattle.frame_calls.specs.Codes.{params_from}
use Rattle.frame_calls.proofs.Entering.{higher_parameters, lower_held}
use Rattle.frame_calls.proofs.Passing.{word_bound}
use Rattle.frame_calls.proofs.Statics.{with_statics_of, front_stored, enough_statics, front_read}
use Rattle.frame_dispatch.specs.Codes.{kill_params, kill_code, leave_code}
use Rattle.frame_escapes.specs.Ended.{kept_escapes, ended_catches}
use Rattle.frame_escapes.proofs.Data.{AgreeOnMade, data_alike, without, inside}
use Rattle.frame_escapes.proofs.Frames.{among, among_lower, AreLast, older_last, FramesLeft, older_left, one_popped}
use Rattle.frame_escapes.proofs.Left.{escapes_left}
use Rattle.frame_escapes.proofs.Closing.{escape_word, dead_data, ends_escape, stores_inner}

some_place : (o : Option ℕ) → is_some o ≡ true → (p : ℕ) × (o ≡ Some p)
some_place (Some p) h = (p, refl)
some_place None h = absurd (cc)

escape_known : (l : Layout) (s : State) (birth p : ℕ) → heap_place s (AnEscape birth) ≡ Some p → word_for l s (EscapeV birth) ≡ Some (val_word l s (EscapeV birth))
escape_known l s birth p found = rw found refl

-- stamps of the heap too
any_heap_long : {X : Type 0} (storage : Regions X) (k : ℕ) → k < 2 ^ 26 → long_at storage (HEAP_START + 4 * k) ≡ slice_get storage.heap k
any_heap_long storage k lt =
    let at_place : (HEAP_START + 4 * k - HEAP_START) / 4 ≡ k = omega arith in
    rw (eq-eqb ((HEAP_START + 4 * k) % 4) 0 (omega arith), le-ltb (HEAP_START + 4 * k) STATICS_START (omega arith), le-ltb (HEAP_START + 4 * k) HEAP_START (omega arith), lt-ltb (HEAP_START + 4 * k) STACK_START (omega (arith, lt)), at_place) refl

module _ (words : Words) (sizes : Sizes) (l : Layout) (e : Escapes) (g : Ways) (t r : ℕ) (s : State) (v : Val) (c : Core) (birth : ℕ) (f : Frame) (kill : ℕ) (block target : WordBlock) (h : Holds sizes l e g t s [] c) (known : word_for l s v ≡ Some (val_word l s v)) (alive : is_live s birth ≡ true) (caught : is_catch s birth ≡ true) (there : slice_get s.frames birth ≡ Some f) (found : slice_get words.blocks.items kill ≡ Some block) (params : block.params ≡ kill_params t) (spelled : Spells words kill 0 (kill_code t kill)) (back : slice_get words.blocks.items (g.begins f.back) ≡ Some target) (one : length target.params ≡ 1) (fresh : AreParameters r target.params) where
  -- what it comes to, with the frames that are left
  abbrev pub Goal : List ℕ → Stamped → Type 0
  Goal births = Begins sizes l (kept_escapes e births) g r (with_live s births) (bound target.params (Lasting v ∷ [])) f.back

  -- with another heap and other variables
  abbrev pub now : List Word → List Stamp → word_state.Env Word → word_state.Env Stamp → Core
  now hs ls ws ss = record c { storage = record c.storage { heap = hs }; longs = record c.longs { heap = ls }; env = ws; stamps = ss }

  -- at the start of the loop
  pub record InLoop (births : List ℕ) (hs : List Word) (ls : List Stamp) (ws : word_state.Env Word) : Type 0 where
    pub data_held : HoldsData sizes l (kept_escapes e births) s (record c.storage { heap = hs }) c.next c.output
    pub stamps : (b p : ℕ) → heap_place s (AnEscape b) ≡ Some p → among b births ≡ true → slice_get ls (p + 1) ≡ slice_get c.longs.heap (p + 1)
    pub escape : kept ws (Own t) ≡ Some (Number (val_word l s (EscapeV birth)))
    pub value : kept ws (Own (t + 1)) ≡ Some (Number (val_word l s v))
    pub inner : kept ws (Own (t + 2)) ≡ Some (Number (inner_word l s births))

  made : (b : ℕ) → is_live s b ≡ true → is_catch s b ≡ true → (p : ℕ) × (heap_place s (AnEscape b) ≡ Some p)
  made b is catch = some_place (heap_place s (AnEscape b)) (h.escapes.made b is catch)

  -- ---- one frame further

  module _ (x : ℕ) (older : List ℕ) (are : AreLast s (x ∷ older)) (lefts : FramesLeft sizes l g s (stack_of c) (x ∷ older)) (all : HoldsAll sizes l g s (stack_of c) (x ∷ older)) where
    are_older : AreLast s older
    are_older = older_last s x older all.2 are

    lefts_older : FramesLeft sizes l g s (stack_of c) older
    lefts_older = older_left sizes l g s (stack_of c) x older h.frames lefts

    first_among : among x (x ∷ older) ≡ true
    first_among = rw (eq-eqb x x refl) refl

    -- the frame of a Push has no escape
    agree_pushed : is_catch s x ≡ false → AgreeOnMade s (kept_escapes e (x ∷ older)) (kept_escapes e older)
    agree_pushed none = record {
      frames = λ b p place.
          let is : is_catch s b ≡ true = h.escapes.caught b p place in
          let ne : (x == b) ≡ false = ne_eqb x b (λ eq. absurd (let other : is_catch s b ≡ false = subst (λ z. is_catch s z ≡ false) eq none in cc)) in
          rw ne refl;
      outers = λ b p place. refl;
    }

    agree_caught : AgreeOnMade s (without (kept_escapes e (x ∷ older)) x) (kept_escapes e older)
    agree_caught = record { frames = λ b p place. by_test b (b == x) refl (among b older) refl; outers = λ b p place. refl }
      where
        by_test : (b : ℕ) (q : Bool) → (b == x) ≡ q → (r : Bool) → among b older ≡ r → (if r then e.frame b else 0) ≡ (if q then 0 else (if among b (x ∷ older) then e.frame b else 0))
        by_test b true eq true r = let lt : b < x = among_lower b x older all.2 r in let n : b ≡ x = eqb-true b x eq in absurd (omega (arith, lt, n))
        by_test b true eq false r = refl
        by_test b false eq true r = let ne : (x == b) ≡ false = ne_eqb x b (λ z. eqb-false b x eq (sym z)) in rw (ne, r) refl
        by_test b false eq false r = let ne : (x == b) ≡ false = ne_eqb x b (λ z. eqb-false b x eq (sym z)) in rw (ne, r) refl

    -- ---- a CATCH's frame

    module _ (catch : is_catch s x ≡ true) (hs : List Word) (ls : List Stamp) (ws : word_state.Env Word) (ss : word_state.Env Stamp) (k : InLoop (x ∷ older) hs ls ws) where
      pub place : (p : ℕ) × (heap_place s (AnEscape x) ≡ Some p)
      place = made x (are.live x first_among) catch

      abbrev address : ℕ
      address = stack_address (frames_place sizes s.frames (x ∷ older))

      address_is : (kept_escapes e (x ∷ older)).frame x ≡ address
      address_is =
          let old : is_live s x ≡ true = are.live x first_among in
          let word : e.frame x ≡ (if is_live s x then frame_at sizes s x else 0) = h.escapes.frames x place.0 place.1 in
          let first : e.frame x ≡ frame_at sizes s x = word ∙ rw old refl in
          let from : live_from x s.live ≡ x ∷ older = are.from x first_among ∙ rw (eq-eqb x x refl) refl in
          let kept_is : (if among x (x ∷ older) then e.frame x else 0) ≡ e.frame x = rw first_among refl in
          kept_is ∙ (first ∙ ap (λ births. stack_address (frames_place sizes s.frames births)) from)

      inner_is : kept ws (Own (t + 2)) ≡ Some (Number (val_word l s (EscapeV x)))
      inner_is = k.inner ∙ ap (λ n. Some (Number n)) (rw catch refl)

      stamp_is : some_stamp (long_at (record c.longs { heap = ls }) (HEAP_START + 4 * (place.0 + 1))) ≡ Some (g.born x)
      stamp_is =
          let n = inside sizes l (kept_escapes e (x ∷ older)) s (record c.storage { heap = hs }) c.next c.output k.data_held x place.0 place.1 in
          let r = h.data_held.room in
          let m = h.data_held.small in
          ap some_stamp (any_heap_long (record c.longs { heap = ls }) (place.0 + 1) (omega (arith, n, r, m)) ∙ (k.stamps x place.0 place.1 first_among ∙ h.escapes.stamps x place.0 place.1 (are.live x first_among)))

      -- with the address of the frame
      abbrev pub loaded : Core
      loaded = now hs ls ((Own (t + 3), Number address) ∷ ws) ((Own (t + 3), Some (g.born x)) ∷ ss)

      abbrev pub heap : List Word
      heap = slice_set hs (place.0 + 1) (Number 0)

      abbrev pub longs : List Stamp
      longs = slice_set ls (place.0 + 1) None

      abbrev pub outer_stamp : Stamp
      outer_stamp = some_stamp (long_at (record c.longs { heap = slice_set ls (place.0 + 1) None }) (HEAP_START + 4 * (place.0 + 2)))

      -- the escape is dead, and the one around it is bound
      abbrev pub ended : Core
      ended = now heap longs ((Own (t + 4), Number (e.outer x)) ∷ (Own (t + 3), Number address) ∷ ws) ((Own (t + 4), outer_stamp) ∷ (Own (t + 3), Some (g.born x)) ∷ ss)

      pub ended_data : HoldsData sizes l (without (kept_escapes e (x ∷ older)) x) s (record c.storage { heap = heap }) c.next c.output
      ended_data = dead_data words sizes (Goal older) l (kept_escapes e (x ∷ older)) s loaded k.data_held x place.0 place.1

      below : (i : ℕ) (w : Word) → i < 3 → kept ws (Own (t + i)) ≡ Some w → kept ended.env (Own (t + i)) ≡ Some w
      below i w lt is =
          older_kept ((Own (t + 3), Number address) ∷ ws) (t + 4) (t + i) (Number (e.outer x)) (omega (arith, lt)) ∙ (older_kept ws (t + 3) (t + i) (Number address) (omega (arith, lt)) ∙ is)

      pub stamps_stay : (b p : ℕ) → heap_place s (AnEscape b) ≡ Some p → among b older ≡ true → slice_get longs (p + 1) ≡ slice_get c.longs.heap (p + 1)
      stamps_stay b p at_place is =
          let lt : b < x = among_lower b x older all.2 is in
          let ne : (x == b) ≡ false = ne_eqb x b (λ eq. absurd (omega (arith, eq, lt))) in
          let en : (b == x) ≡ false = ne_eqb b x (λ eq. absurd (omega (arith, eq, lt))) in
          get_set_other ls (place.0 + 1) (p + 1) None
          (λ eq. elim (apart same_thing (thing_words s) s.made (AnEscape x) (AnEscape b) place.0 p thing_sound ne en place.1 at_place) [
            | inl q ↦ absurd (omega (arith, q, eq))
            | inr q ↦ absurd (omega (arith, q, eq))
          ])
          ∙ k.stamps b p at_place (rw ne is)

      pub outer_is : e.outer x ≡ inner_word l s older
      outer_is = h.escapes.outer x (are.live x first_among) catch ∙ ap (inner_word l s) (are.older x first_among ∙ rw (eq-eqb x x refl) refl)

      -- the loop up to its test
      pub up_to_test : (R : Stamped → Type 0) (cost : ℕ) → Performs words sizes R 1 cost (Ask test.Eq (of_var (t + 2)) (of_var t) (leave_code t) (Close (last.Jump kill (of_var t ∷ of_var (t + 1) ∷ of_var (t + 4) ∷ [])))) ended → Performs words sizes R 1 (7 + cost) (kill_code t kill) (now hs ls ws ss)
      up_to_test R cost next =
          let n = inside sizes l (kept_escapes e (x ∷ older)) s (record c.storage { heap = hs }) c.next c.output k.data_held x place.0 place.1 in
          let r = h.data_held.room in
          let m = h.data_held.small in
          let is : val_word l s (EscapeV x) ≡ HEAP_START + 4 * place.0 + 2 = escape_word l s x place.0 place.1 in
          let second : moved (val_word l s (EscapeV x)) (pos 2) ≡ HEAP_START + 4 * (place.0 + 1) = omega (arith, is, n, r, m) in
          let read : long_at (record c.storage { heap = hs }) (HEAP_START + 4 * (place.0 + 1)) ≡ Some (Number address) =
          heap_reads sizes l (kept_escapes e (x ∷ older)) s (record c.storage { heap = hs }) c.next c.output k.data_held (AnEscape x) place.0 1 (Number ((kept_escapes e (x ∷ older)).frame x)) place.1 refl ∙ ap (λ a. Some (Number a)) address_is in
          performs_more words sizes R (7 + cost) (omega arith)
          (load_performs words sizes R (val_word l s (EscapeV x)) (Number address) inner_is (ap (long_at (record c.storage { heap = hs })) second ∙ read)
          (may_read words sizes (now hs ls ws ss) (of_var (t + 2)) (moved (val_word l s (EscapeV x)) (pos 2)) (omega (arith, second, n, r, m)))
          (subst (λ stamp. Performs words sizes R 1 (5 + cost) (Do (op.Store (of_var (t + 2)) (pos 2) (Rattle.select_rows.specs.Macros.word 0)) (Do (op.Load (var (t + 4)) (of_var (t + 2)) (pos 6)) (Ask test.Eq (of_var (t + 2)) (of_var t) (leave_code t) (Close (last.Jump kill (of_var t ∷ of_var (t + 1) ∷ of_var (t + 4) ∷ [])))))) (binding (now hs ls ws ss) (var (t + 3)) (Number address) stamp)) (sym (ap (λ a. some_stamp (long_at (record c.longs { heap = ls }) a)) second ∙ stamp_is))
          (ends_escape words sizes R l (kept_escapes e (x ∷ older)) s loaded k.data_held x place.0 place.1 (t + 2) (t + 4) 1 cost (Ask test.Eq (of_var (t + 2)) (of_var t) (leave_code t) (Close (last.Jump kill (of_var t ∷ of_var (t + 1) ∷ of_var (t + 4) ∷ []))))
          (older_kept ws (t + 3) (t + 2) (Number address) (omega arith) ∙ inner_is) next)))

      pub tells : (val_word l s (EscapeV x) == val_word l s (EscapeV birth)) ≡ (x == birth)
      tells =
          let q = made birth alive caught in
          words_tell sizes l e s c.storage c.next c.output h.data_held (EscapeV x) (EscapeV birth) (val_word l s (EscapeV x)) (val_word l s (EscapeV birth)) (escape_known l s x place.0 place.1) (escape_known l s birth q.0 q.1)

      target_held : kept ended.env (Own t) ≡ Some (Number (val_word l s (EscapeV birth)))
      target_held = let z : t ≡ t + 0 = omega arith in ap (λ y. kept ended.env (Own y)) z ∙ below 0 (Number (val_word l s (EscapeV birth))) (omega arith) (sym (ap (λ y. kept ws (Own y)) z) ∙ k.escape)

      -- ---- another escape is called

      abbrev again : word_state.Env Word
      again = bound_words (params_from t 3) (map (word_in ended) (of_var t ∷ of_var (t + 1) ∷ of_var (t + 4) ∷ [])) []

      abbrev again_stamps : word_state.Env Stamp
      again_stamps = bound_stamps (params_from t 3) (map (stamp_in (words_in words sizes) ended) (of_var t ∷ of_var (t + 1) ∷ of_var (t + 4) ∷ [])) []

      in_loop : InLoop older heap longs again
      in_loop =
          let z : t ≡ t + 0 = omega arith in
          record {
            data_held = data_alike sizes l (without (kept_escapes e (x ∷ older)) x) (kept_escapes e older) s (record c.storage { heap = heap }) c.next c.output agree_caught ended_data;
            stamps = stamps_stay;
            escape = ap (λ y. kept again (Own y)) z ∙ word_bound t 3 0 (map (word_in ended) (of_var t ∷ of_var (t + 1) ∷ of_var (t + 4) ∷ [])) [] (Number (val_word l s (EscapeV birth))) (omega arith) (ap Some target_held);
            value = word_bound t 3 1 (map (word_in ended) (of_var t ∷ of_var (t + 1) ∷ of_var (t + 4) ∷ [])) [] (Number (val_word l s v)) (omega arith) (ap Some (below 1 (Number (val_word l s v)) (omega arith) k.value));
            inner = word_bound t 3 2 (map (word_in ended) (of_var t ∷ of_var (t + 1) ∷ of_var (t + 4) ∷ [])) [] (Number (inner_word l s older)) (omega arith)
                (ap Some (newest_kept ((Own (t + 3), Number address) ∷ ws) (t + 4) (Number (e.outer x)) ∙ ap (λ n. Some (Number n)) outer_is));
          }

      pub goes_on : (R : Stamped → Type 0) (cost : ℕ) → (x == birth) ≡ false → ((ws' : word_state.Env Word) (ss' : word_state.Env Stamp) → InLoop older heap longs ws' → Performs words sizes R 1 cost (kill_code t kill) (now heap longs ws' ss')) → Performs words sizes R 1 (14 + cost) (kill_code t kill) (now hs ls ws ss)
      goes_on R cost differs next =
          performs_more words sizes R (14 + cost) (omega arith)
          (up_to_test R (3 + (4 + cost))
          (ask_performs_false words sizes R (Number (val_word l s (EscapeV x))) (Number (val_word l s (EscapeV birth))) (below 2 (Number (val_word l s (EscapeV x))) (omega arith) inner_is) target_held (ap Some (tells ∙ differs))
          (enters_performs words sizes R 1 cost 4 kill (Close (last.Jump kill (of_var t ∷ of_var (t + 1) ∷ of_var (t + 4) ∷ []))) ended (entering (words_in words sizes) ended block.params (of_var t ∷ of_var (t + 1) ∷ of_var (t + 4) ∷ []))
          (jump_enters words sizes ended kill block (of_var t ∷ of_var (t + 1) ∷ of_var (t + 4) ∷ []) found (sym (ap length params)))
          (λ moves steps.
          subst (λ ps. Rattle.word_trees.specs.Leads.Leads words sizes R 1 cost (at (entering (words_in words sizes) ended ps (of_var t ∷ of_var (t + 1) ∷ of_var (t + 4) ∷ [])) kill 0 moves steps)) (sym params)
          ((next again again_stamps in_loop).leads kill 0 moves steps spelled)))))

      -- ---- this one is called

      module _ (here : x ≡ birth) (w : Stamp) where
        there_is : slice_get s.frames x ≡ Some f
        there_is = ap (slice_get s.frames) here ∙ there

        size_is : frame_words f ≡ 2
        size_is =
            let o = all.3 in
            let same : f ≡ all.0 = let y : slice_get s.frames x ≡ Some all.0 = all.1 in let z : slice_get s.frames x ≡ Some f = there_is in cc in
            let yes_catch : f.catch ≡ true = ap (λ q. option_map_or (λ y. y.catch) q false) (sym there_is) ∙ catch in
            let none : f.size ≡ 0 = subst (λ y. y.size ≡ 0) (sym same) (o.catches (subst (λ y. y.catch ≡ true) same yes_catch)) in
            omega (arith, none)

        room_is : words_of_frames s.frames (x ∷ older) ≤ sizes.stack / 4
        room_is = lefts.frames.room

        top_up : address + 4 * 2 ≡ stack_address (frames_place sizes s.frames older)
        top_up =
            let n : option_map_or frame_words (slice_get s.frames x) 0 ≡ 2 = ap (λ o. option_map_or frame_words o 0) there_is ∙ size_is in
            let room = room_is in
            omega (arith, room, n)

        abbrev third : Core
        third = with_statics_of ended (slice_set c.storage.statics 0 (Number (e.outer x))) (slice_set c.longs.statics 0 w)

        abbrev fourth : Core
        fourth = resetting third address

        abbrev fifth : Core
        fifth = binding fourth (var (t + 5)) (Code (g.begins f.back)) None

        abbrev sixth : Core
        sixth = resetting fifth (address + 4 * 2)

        left_held : Holds sizes l (kept_escapes e older) g (r + (t + 6)) (with_live s older) [] sixth
        left_held = record {
          data_held = data_of_older sizes l (kept_escapes e older) s older sixth.storage c.next c.output
              (data_alike sizes l (without (kept_escapes e (x ∷ older)) x) (kept_escapes e older) s sixth.storage c.next c.output agree_caught
              (front_stored sizes l (without (kept_escapes e (x ∷ older)) x) s (record c.storage { heap = heap }) c.next c.output 0 (Number (e.outer x)) (omega arith) ended_data));
          frames = subst (λ n. HoldsFrames sizes l g (with_live s older) (stack_of (resetting fifth n))) (sym top_up)
              (one_popped sizes l g (with_live s (x ∷ older)) (above (stack_of c) (frames_place sizes s.frames (x ∷ older))) x older lefts.frames refl);
          escapes =
              let left : HoldsEscapes sizes l (kept_escapes e older) g (with_live s older) sixth =
              escapes_left sizes l e g s older c sixth h.escapes are_older
              (front_read third.storage 0 (omega arith) ∙ (get_set c.storage.statics 0 (Number (e.outer x)) (let many = enough_statics sizes l e s c.storage c.next c.output h.data_held in omega (arith, many)) ∙ ap (λ n. Some (Number n)) outer_is))
              stamps_stay in
              left;
          variables = record { each = λ y u is. absurd (cc) };
        }

        value_held : HasValue words sizes l g (r + (t + 6)) (with_live s older) sixth (of_var (t + 1)) (Lasting v)
        value_held = record {
          word = Number (val_word l s v);
          stamp = stamp_in (words_in words sizes) sixth (of_var (t + 1));
          held = older_kept ended.env (t + 5) (t + 1) (Code (g.begins f.back)) (omega arith) ∙ below 1 (Number (val_word l s v)) (omega arith) k.value;
          stamped = refl;
          stands = record { number = val_word l s v; known = known; is = refl };
          older = omega arith;
        }

        entered : Performs words sizes (Goal older) 1 3 (Close (last.Enter (of_var (t + 5)) (of_var (t + 1) ∷ []))) sixth
        entered =
            enters_performs words sizes (Goal older) 0 0 3 (g.begins f.back) (Close (last.Enter (of_var (t + 5)) (of_var (t + 1) ∷ []))) sixth (entering (words_in words sizes) sixth target.params (of_var (t + 1) ∷ []))
            (enter_enters words sizes sixth (of_var (t + 5)) (g.begins f.back) target (of_var (t + 1) ∷ []) (newest_kept ended.env (t + 5) (Code (g.begins f.back))) back)
            (λ moves steps. here_leads words sizes (Goal older) 0 _
            (record {
              core = entering (words_in words sizes) sixth target.params (of_var (t + 1) ∷ []);
              holds = lower_held sizes l (kept_escapes e older) g r (t + 6) (with_live s older) target.params (Lasting v ∷ []) (entering (words_in words sizes) sixth target.params (of_var (t + 1) ∷ [])) fresh
                  (entering_held words sizes l (kept_escapes e older) g (r + (t + 6)) (with_live s older) sixth target.params (of_var (t + 1) ∷ []) (Lasting v ∷ []) [] left_held (higher_parameters r (t + 6) target.params fresh) (value_held, tt));
              moves = moves;
              steps = steps;
              there = refl;
            }))

        got_back : Performs words sizes (Goal older) 1 6 (Do (op.Load (var (t + 5)) (operand.Slot 0) (pos 0)) (Do (op.Pop 2) (Close (last.Enter (of_var (t + 5)) (of_var (t + 1) ∷ []))))) fourth
        got_back =
            let y : IsYoungest sizes l g (with_live s (x ∷ older)) (above (stack_of c) (frames_place sizes s.frames (x ∷ older))) x older f = youngest_held x older f lefts.frames refl there_is in
            stored_word_performs words sizes (Goal older) l g (with_live s (x ∷ older)) fourth 1 4 0 (g.born x) (frames_place sizes s.frames (x ∷ older)) (Code (g.begins f.back)) None (var (t + 5)) (Do (op.Pop 2) (Close (last.Enter (of_var (t + 5)) (of_var (t + 1) ∷ [])))) lefts.frames (omega arith) y.frame.back
            (pop_performs words sizes (Goal older) (let n = h.frames.whole in omega (arith, top_up, n)) entered)

        reset : Performs words sizes (Goal older) 1 8 (Do (op.Reset (of_var (t + 3))) (Do (op.Load (var (t + 5)) (operand.Slot 0) (pos 0)) (Do (op.Pop 2) (Close (last.Enter (of_var (t + 5)) (of_var (t + 1) ∷ [])))))) third
        reset =
            let held : kept third.env (Own (t + 3)) ≡ Some (Number address) = older_kept ((Own (t + 3), Number address) ∷ ws) (t + 4) (t + 3) (Number (e.outer x)) (omega arith) ∙ newest_kept ws (t + 3) (Number address) in
            let stamped : stamp_in (words_in words sizes) third (of_var (t + 3)) ≡ Some (g.born x) =
            ap some_stamp (older_kept ((Own (t + 3), Some (g.born x)) ∷ ss) (t + 4) (t + 3) outer_stamp (omega arith) ∙ newest_kept ss (t + 3) (Some (g.born x))) in
            let born : birth_at (words_in words sizes) (at third 0 0 0 0).state (at third 0 0 0 0).marks address ≡ Some (g.born x) = older_born words sizes l g s third (x ∷ older) h.frames.whole h.frames.words all in
            let top = h.frames.top in
            let up = lefts.up in
            let whole = h.frames.whole in
            performs words sizes (Goal older) 1 6 2 _ _ third fourth
            (reset_steps words sizes third (of_var (t + 3)) address (Do (op.Load (var (t + 5)) (operand.Slot 0) (pos 0)) (Do (op.Pop 2) (Close (last.Enter (of_var (t + 5)) (of_var (t + 1) ∷ []))))) held (omega arith) (omega (arith, top, up)) (omega arith) (omega (arith, whole))
            (rw (stamped, born) (eq-eqb (g.born x) (g.born x) refl)))
            got_back

      pub leaves : x ≡ birth → Performs words sizes (Goal older) 1 21 (kill_code t kill) (now hs ls ws ss)
      leaves here =
          up_to_test (Goal older) (3 + 11)
          (ask_performs_true words sizes (Goal older) (Number (val_word l s (EscapeV x))) (Number (val_word l s (EscapeV birth))) (below 2 (Number (val_word l s (EscapeV x))) (omega arith) inner_is) target_held (ap Some (tells ∙ eq-eqb x birth here))
          (stores_inner words sizes (Goal older) l (without (kept_escapes e (x ∷ older)) x) s ended (t + 4) (e.outer x) 1 8 _ ended_data (newest_kept ((Own (t + 3), Number address) ∷ ws) (t + 4) (Number (e.outer x)))
          (λ w. reset here w)))

  -- ---- all of them

  abbrev Whole : List ℕ → Type 0
  Whole births =
      AreLast s births → FramesLeft sizes l g s (stack_of c) births → HoldsAll sizes l g s (stack_of c) births → among birth births ≡ true → (hs : List Word) (ls : List Stamp) (ws : word_state.Env Word) (ss : word_state.Env Stamp) → InLoop births hs ls ws
      → Performs words sizes (Goal (older_than birth s.live)) 1 (7 + 14 * ended_catches s birth births) (kill_code t kill) (now hs ls ws ss)

  pushed_frame : (x : ℕ) (older : List ℕ) → is_catch s x ≡ false → Whole older → Whole (x ∷ older)
  pushed_frame x older none next are lefts all has hs ls ws ss k =
      let ne : (x == birth) ≡ false = ne_eqb x birth (λ eq. absurd (let other : is_catch s birth ≡ false = subst (λ z. is_catch s z ≡ false) eq none in cc)) in
      let other : ended_catches s birth (x ∷ older) ≡ 0 + ended_catches s birth older = rw (none, ne) refl in
      let cost : ended_catches s birth older ≡ ended_catches s birth (x ∷ older) = omega (arith, other) in
      let same : inner_word l s (x ∷ older) ≡ inner_word l s older = rw none refl in
      let has_older : among birth older ≡ true = subst (λ q. (q || among birth older) ≡ true) ne has in
      subst (λ n. Performs words sizes (Goal (older_than birth s.live)) 1 (7 + 14 * n) (kill_code t kill) (now hs ls ws ss)) cost
      (next (are_older x older are lefts all) (lefts_older x older are lefts all) all.4 has_older hs ls ws ss
      (record {
        data_held = data_alike sizes l (kept_escapes e (x ∷ older)) (kept_escapes e older) s (record c.storage { heap = hs }) c.next c.output (agree_pushed x older are lefts all none) k.data_held;
        stamps = λ b p place is. k.stamps b p place (Rattle.frame_escapes.proofs.Frames.among_more x b older is);
        escape = k.escape;
        value = k.value;
        inner = k.inner ∙ ap (λ n. Some (Number n)) same;
      }))

  catch_frame : (x : ℕ) (older : List ℕ) → is_catch s x ≡ true → (q : Bool) → (x == birth) ≡ q → Whole older → Whole (x ∷ older)
  catch_frame x older catch true eq next are lefts all has hs ls ws ss k =
      let here : x ≡ birth = eqb-true x birth eq in
      let cost : 1 ≡ ended_catches s birth (x ∷ older) = rw (catch, eq) refl in
      let end : older ≡ older_than birth s.live = sym (ap (λ y. older_than y s.live) (sym here) ∙ (are.older x (first_among x older are lefts all) ∙ rw (eq-eqb x x refl) refl)) in
      subst (λ n. Performs words sizes (Goal (older_than birth s.live)) 1 (7 + 14 * n) (kill_code t kill) (now hs ls ws ss)) cost
      (subst (λ births. Performs words sizes (Goal births) 1 21 (kill_code t kill) (now hs ls ws ss)) end (leaves x older are lefts all catch hs ls ws ss k here))
  catch_frame x older catch false eq next are lefts all has hs ls ws ss k =
      let cost : 1 + ended_catches s birth older ≡ ended_catches s birth (x ∷ older) = rw (catch, eq) refl in
      let n : 14 + (7 + 14 * ended_catches s birth older) ≡ 7 + 14 * (1 + ended_catches s birth older) = omega arith in
      let has_older : among birth older ≡ true = subst (λ q. (q || among birth older) ≡ true) eq has in
      subst (λ m. Performs words sizes (Goal (older_than birth s.live)) 1 (7 + 14 * m) (kill_code t kill) (now hs ls ws ss)) cost
      (subst (λ m. Performs words sizes (Goal (older_than birth s.live)) 1 m (kill_code t kill) (now hs ls ws ss)) n
      (goes_on x older are lefts all catch hs ls ws ss k (Goal (older_than birth s.live)) (7 + 14 * ended_catches s birth older) eq
      (λ ws' ss' next_k. next (are_older x older are lefts all) (lefts_older x older are lefts all) all.4 has_older _ _ ws' ss' next_k)))

  any_frame : (x : ℕ) (older : List ℕ) (q : Bool) → is_catch s x ≡ q → Whole older → Whole (x ∷ older)
  any_frame x older true catch next = catch_frame x older catch (x == birth) refl next
  any_frame x older false none next = pushed_frame x older none next

  pub kills : (births : List ℕ) → Whole births
  kills [] are lefts all has hs ls ws ss k = absurd (cc)
  kills (x ∷ older) are lefts all has hs ls ws ss k = any_frame x older (is_catch s x) refl (kills older) are lefts all has hs ls ws ss k
