-- The code that opens a CATCH.
use Rattle.std.proofs.Common.{◌≡◌, ℕ, suc, ◌+◌, ◌-◌, ◌*◌, ◌/◌, ◌%◌, ◌^◌, ◌<◌, ◌≤◌, ◌⊎◌, inl, inr, false, true, List, [], ◌∷◌, ◌++◌, length, replicate, slice_get, slice_set, Some, None, pos, refl, sym, ap, ◌∙◌, subst, arith, length-append}
use Rattle.std.specs.List.{flat_map}
use Rattle.std.proofs.lemmas.Bool.{cases_lt}
use Rattle.std.proofs.lemmas.List.{length-replicate}
use Rattle.std.proofs.lemmas.Option.{slice_get_within}
use Rattle.program_runs.specs.Runs.{Full}
use Rattle.t_base.specs.declared.basics.Var.{Var}
use Rattle.t_prim.specs.Values.{EscapeV}
use Rattle.word_ir.specs.declared.operands.Operand.TheVariants as operand
use Rattle.word_ir.specs.declared.words.Arith.TheVariants as kind
use Rattle.word_ir.specs.declared.words.WordOp.TheVariants as op
use Rattle.word_ir.specs.declared.words.Words.{Words}
use Rattle.word_ir.specs.Word.{Word, Number, Code, wrap}
use Rattle.word_ir.specs.Storage.{Sizes, HEAP_START, static_at, long_at}
use Rattle.word_ir.specs.Computing.{computed}
use Rattle.word_ir.specs.Computing as computing
use Rattle.word_ir.specs.State.{Own, kept}
use Rattle.word_ir.specs.Step.{words_in}
use Rattle.word_ir.specs.Stamps.{Stamp, Stamped, Live, birth_at, changed_at, as_written}
use Rattle.frame_ir.specs.Values.{Lasting, Env}
use Rattle.frame_ir.specs.States.{State, thing_words}
use Rattle.tagged_words.proofs.Chars.{signed_natural, fitted_natural}
use Rattle.word_trees.specs.Trees.{Tree, Do}
use Rattle.word_trees.specs.Cores.{Core, at, word_in, stamp_in, heap_left, stack_left, binding, taking, pushing}
use Rattle.word_trees.specs.Leads.{Performs}
use Rattle.word_trees.proofs.Operations.{service_of_two_ends}
use Rattle.word_trees.proofs.Performing.{performs_more, arrives, ends, take_performs, no_heap_performs, push_performs, no_stack_performs, compute_performs}
use Rattle.frame_words.specs.Layouts.{Layout, INNER}
use Rattle.frame_words.specs.ValueWords.{tagged}
use Rattle.frame_words.specs.Contents.{Escapes, thing_contents}
use Rattle.frame_words.specs.Holding.{HoldsData}
use Rattle.frame_words.proofs.Sizes.{thing_sized}
use Rattle.frame_words.proofs.Changing.{joined_length}
use Rattle.select_rows.specs.Macros.{var, of_var, word, never}
use Rattle.select_rows.specs.Codes.{make}
use Rattle.select_rows.proofs.Keeping.{older_kept, newest_kept, get_some, get_set, keeps_same}
use Rattle.frame_stacks.specs.Stacks.{Ways, stack_of, words_of_frames, frames_place, stack_address, born_first, IsStored, StandsFor}
use Rattle.frame_stacks.specs.Frames.{HoldsAll, HoldsEscapes, HoldsVariable, Holds}
use Rattle.frame_stacks.specs.Codes.{no_stack, stores}
use Rattle.frame_stacks.proofs.Gets.{binding_held}
use Rattle.frame_stacks.proofs.Pops.{older_born}
use Rattle.frame_stacks.proofs.Raising.{all_raised, place_stays}
use Rattle.frame_stacks.proofs.Reading.{born_at}
use Rattle.frame_pushes.proofs.Filling.{Put, put, IsFilling, with_stack, nothing_stored, fill_performs}
use Rattle.frame_heap.proofs.Filling.{IsFilled, with_heap, heap_store_performs}
use Rattle.frame_calls.proofs.Statics.{with_statics_of, front_stored, enough_statics, front_read}
use Rattle.frame_dispatch.specs.Codes.{open_escape, catch_open}
use Rattle.frame_escapes.proofs.Closing.{stores_inner, loads_inner}
use Rattle.frame_catches.specs.Laws.{OpensOrFull}
use Rattle.frame_catches.proofs.Frames.{frame, middle, last, inner, now, below, from, enough, top_is, middle_data, last_data, place_is, ways, puts, frames_held, variable_kept, escapes_held}

four_behind : (done : List Word) (a b d z : Word) (zs : List Word) → (((done ++ a ∷ []) ++ b ∷ []) ++ d ∷ []) ++ z ∷ zs ≡ (done ++ a ∷ b ∷ d ∷ z ∷ []) ++ zs
four_behind [] a b d z zs = refl
four_behind (x ∷ done) a b d z zs = ap (λ ws. x ∷ ws) (four_behind done a b d z zs)

module _ (words : Words) (sizes : Sizes) (l : Layout) (e : Escapes) (g : Ways) (t : ℕ) (s : State) (env : Env) (c : Core) (back : ℕ) (to : Var) (rest : Tree) (h : Holds sizes l e g t s env c) (fit : length c.longs.heap ≡ length c.storage.heap) (before : to.0 < t) where
  abbrev Q : Stamped → Type 0
  Q = OpensOrFull words sizes l e g t s env c back to rest

  -- ---- no room

  without_heap : heap_left sizes c < 16 → Performs words sizes Q 1 26 (catch_open t (g.begins back) to rest) c
  without_heap lacking =
      performs_more words sizes Q 26 (omega arith)
      (no_heap_performs words sizes Q 16 refl lacking
      (ends words sizes Q 3 _ c (Full false 16 (heap_left sizes c)) (service_of_two_ends words sizes c 4 (word 16) (word 0) 16 0 (Full false 16 (heap_left sizes c)) never refl refl refl)
      (λ block place moves steps. inr (inl (record {
        asked = 16;
        more = omega arith;
        lacking = lacking;
        ends = record { core = c; keeps = keeps_same sizes l e t s c h.data_held; block = block; place = place; moves = moves; steps = steps; there = refl };
      })))))

  -- with the room on the heap
  abbrev taken : Core
  taken = taking c (var t) 16

  without_stack : 16 ≤ heap_left sizes c → stack_left c < 4 * 2 → Performs words sizes Q 1 26 (catch_open t (g.begins back) to rest) c
  without_stack space lacking =
      let room : stack_left c + 4 * words_of_frames s.frames s.live ≡ sizes.stack = omega (arith, h.frames.top, h.frames.room, h.frames.whole) in
      performs_more words sizes Q 26 (omega arith)
      (take_performs words sizes Q 16 refl space refl
      (no_stack_performs words sizes Q lacking
      (ends words sizes Q 3 (no_stack 2) taken (Full true 8 (stack_left c)) (service_of_two_ends words sizes taken 4 (word 8) (word 1) 8 1 (Full true 8 (stack_left c)) never refl refl refl)
      (λ block place moves steps. inr (inr (record { left = stack_left c; room = room; lacking = lacking; block = block; place = place; moves = moves; steps = steps; there = refl }))))))

  -- ---- room for both

  module _ (space : 16 ≤ heap_left sizes c) (room : 4 * 2 ≤ stack_left c) where
    abbrev place : ℕ
    place = from sizes l e g t s env c back h room

    inside : place + 2 ≤ sizes.stack / 4
    inside = let n = enough sizes l e g t s env c back h room in omega (arith, n)

    low : place < 2 ^ 26
    low = let n = inside in let m = h.frames.small in omega (arith, n, m)

    abbrev base : ℕ
    base = s.store.heap

    abbrev done : List Word
    done = flat_map (thing_contents l (now sizes l e g t s env c back h room) (middle sizes l e g t s env c back h room)) (middle sizes l e g t s env c back h room).made

    done_length : length (flat_map (thing_contents l (now sizes l e g t s env c back h room) (middle sizes l e g t s env c back h room)) (middle sizes l e g t s env c back h room).made) ≡ base
    done_length =
        joined_length (thing_contents l (now sizes l e g t s env c back h room) (middle sizes l e g t s env c back h room)) (thing_words (middle sizes l e g t s env c back h room)) (middle sizes l e g t s env c back h room).made (thing_sized l (now sizes l e g t s env c back h room) (middle sizes l e g t s env c back h room))
        ∙ sym (middle_data sizes l e g t s env c back h room).taken

    abbrev left : ℕ
    left = sizes.heap / 4 - (base + 4)

    left_is : sizes.heap / 4 - s.store.heap ≡ suc (suc (suc (suc left)))
    left_is = omega (arith, space, h.data_held.next_is, h.data_held.room)

    heap_is : c.storage.heap ≡ done ++ replicate (suc (suc (suc (suc left)))) (Number 0)
    heap_is = (middle_data sizes l e g t s env c back h room).heap ∙ ap (λ n. done ++ replicate n (Number 0)) left_is

    long_enough : base + 4 ≤ length c.longs.heap
    long_enough =
        let n : length c.storage.heap ≡ length (flat_map (thing_contents l (now sizes l e g t s env c back h room) (middle sizes l e g t s env c back h room)) (middle sizes l e g t s env c back h room).made) + suc (suc (suc (suc left))) =
        ap length heap_is ∙ (length-append done (replicate (suc (suc (suc (suc left)))) (Number 0)) ∙ ap (λ k. length done + k) (length-replicate (suc (suc (suc (suc left)))) (Number 0))) in
        omega (arith, n, fit, done_length)

    small : base + 4 ≤ 2 ^ 26
    small = let r = h.data_held.room in let m = h.data_held.small in omega (arith, space, h.data_held.next_is, r, m)

    sum_is : computed kind.Add c.next 2 ≡ computing.Gives (c.next + 2)
    sum_is =
        let less : c.next + 2 < 2 ^ 31 = omega (arith, h.data_held.next_is, h.data_held.room, h.data_held.small) in
        rw (signed_natural c.next (omega (arith, less))) (fitted_natural (c.next + 2) less)

    module _ (step : ℕ) where
      abbrev raised : Core
      raised = pushing taken 2 step

      -- ---- the escape, behind the frame

      module _ (sw : List Word) (sl : List Stamp) (lv : List Live) (filling : IsFilling (stack_of c) (stack_of (with_stack raised sw sl lv)) place 2 step (puts sizes l e g t s env c back h room step)) where
        abbrev behind : Core
        behind = with_stack raised sw sl lv

        -- with other words of the heap
        abbrev with_words : List Word → List Stamp → Core
        with_words hs ls = with_heap behind hs ls

        frame_word : (hs : List Word) (ls : List Stamp) → word_in (with_words hs ls) (operand.Slot 0) ≡ Some (Number (stack_address place))
        frame_word hs ls = let n : wrap (c.top - 4 * 2 + 0) ≡ stack_address place = let m = filling.top in omega (arith, m, low) in ap (λ a. Some (Number a)) n

        frame_stamp : (hs : List Word) (ls : List Stamp) → stamp_in (words_in words sizes) (with_words hs ls) (operand.Slot 0) ≡ Some step
        frame_stamp hs ls =
            let n : wrap (c.top - 4 * 2 + 0) ≡ stack_address place = let m = filling.top in omega (arith, m, low) in
            let z : place + 0 ≡ place = omega arith in
            let stored : IsStored (stack_of (with_words hs ls)) step place (Code (g.begins back)) None = subst (λ p. IsStored (stack_of behind) step p (Code (g.begins back)) None) z (filling.stored 0 (put (Code (g.begins back)) None) refl) in
            ap (birth_at (words_in words sizes) (at (with_words hs ls) 0 0 0 0).state (at (with_words hs ls) 0 0 0 0).marks) n
            ∙ born_at words sizes (with_words hs ls) step place (Code (g.begins back)) None (filling.words ∙ h.frames.words) stored

        module _ (hs : List Word) (ls : List Stamp) (w : Stamp) (filled : IsFilled (with_words hs ls) c.longs.heap base (((done ++ Number 0x2D ∷ []) ++ Number (stack_address place) ∷ []) ++ Number (inner sizes l e g t s env c back h room) ∷ []) (suc left)) (stamped : slice_get ls (base + 1) ≡ Some (Some step)) where
          -- with the address of the heap and the escape around it
          abbrev fourth : Core
          fourth = record (with_words hs ls) { env = (Own (t + 1), Number (inner sizes l e g t s env c back h room)) ∷ (Own t, Number c.next) ∷ c.env; stamps = (Own (t + 1), w) ∷ (Own t, None) ∷ c.stamps }

          data_now : HoldsData sizes l (now sizes l e g t s env c back h room) (last sizes l e g t s env c back h room) fourth.storage (c.next + 16) c.output
          data_now =
              last_data sizes l e g t s env c back h room fourth.storage space refl
              (filled.heap ∙ four_behind done (Number 0x2D) (Number (stack_address place)) (Number (inner sizes l e g t s env c back h room)) (Number 0) (replicate left (Number 0)))

          module _ (u : Stamp) where
            abbrev stored : Core
            stored = with_statics_of fourth (slice_set c.storage.statics 0 (Number (c.next + 2))) (slice_set c.longs.statics 0 u)

            word_is : long_at stored.storage (static_at INNER) ≡ Some (Number (HEAP_START + 4 * s.store.heap + 2))
            word_is =
                let many = enough_statics sizes l e s c.storage c.next c.output h.data_held in
                let n : c.next + 2 ≡ HEAP_START + 4 * s.store.heap + 2 = omega (arith, h.data_held.next_is) in
                front_read stored.storage 0 (omega arith) ∙ (get_set c.storage.statics 0 (Number (c.next + 2)) (omega (arith, many)) ∙ ap (λ a. Some (Number a)) n)

            held_before : Holds sizes l (now sizes l e g t s env c back h room) (ways sizes l e g t s env c back h room step) t (last sizes l e g t s env c back h room) env stored
            held_before = record {
              data_held = front_stored sizes l (now sizes l e g t s env c back h room) (last sizes l e g t s env c back h room) fourth.storage (c.next + 16) c.output 0 (Number (c.next + 2)) (omega arith) data_now;
              frames = frames_held sizes l e g t s env c back h room step (stack_of stored) filling;
              escapes =
                  let all : HoldsEscapes sizes l (now sizes l e g t s env c back h room) (ways sizes l e g t s env c back h room step) (last sizes l e g t s env c back h room) stored =
                  escapes_held sizes l e g t s env c back h room step (stack_of stored) filling stored word_is stamped (λ p le. filled.stamps (p + 1) (omega (arith, le))) in
                  all;
              variables = record {
                each = λ x v found.
                    let o : HoldsVariable sizes l g t s c x v = h.variables.each x v found in
                    variable_kept sizes l e g t s env c back h room step (stack_of stored) filling stored x v o
                    (older_kept ((Own t, Number c.next) ∷ c.env) (t + 1) x (Number (inner sizes l e g t s env c back h room)) (omega (arith, o.older)) ∙ older_kept c.env t x (Number c.next) o.older)
                    (older_kept ((Own t, None) ∷ c.stamps) (t + 1) x w (omega (arith, o.older)) ∙ older_kept c.stamps t x None o.older);
              };
            }

            bound_word : StandsFor sizes l (ways sizes l e g t s env c back h room step) (last sizes l e g t s env c back h room) (Lasting (EscapeV (length s.frames))) (Number (c.next + 2)) None
            bound_word = record {
              number = c.next + 2;
              known =
                  let n : HEAP_START + 4 * s.store.heap + 2 ≡ c.next + 2 = omega (arith, h.data_held.next_is) in
                  ap (λ o. tagged 2 (Rattle.std.proofs.Common.option_map (λ p. HEAP_START + 4 * p) o)) (place_is sizes l e g t s env c back h room) ∙ ap Some n;
              is = refl;
            }

            pub held_now : Holds sizes l (now sizes l e g t s env c back h room) (ways sizes l e g t s env c back h room step) t (last sizes l e g t s env c back h room) ((to.0, Lasting (EscapeV (length s.frames))) ∷ env) (binding stored to (Number (c.next + 2)) None)
            held_now = binding_held sizes l (now sizes l e g t s env c back h room) (ways sizes l e g t s env c back h room step) t (last sizes l e g t s env c back h room) env stored to.0 (Lasting (EscapeV (length s.frames))) (Number (c.next + 2)) None before bound_word held_before

          pub bound_last : Performs words sizes Q 1 6 (make kind.Add (of_var t) (word 2) to (Do (op.Store (operand.Static INNER) (pos 0) (operand.Var to)) rest)) fourth
          bound_last =
              let held : kept fourth.env (Own t) ≡ Some (Number c.next) = older_kept ((Own t, Number c.next) ∷ c.env) (t + 1) t (Number (inner sizes l e g t s env c back h room)) (omega arith) ∙ newest_kept c.env t (Number c.next) in
              compute_performs words sizes Q c.next 2 (c.next + 2) held refl sum_is
              (stores_inner words sizes Q l (now sizes l e g t s env c back h room) (last sizes l e g t s env c back h room) (binding fourth to (Number (c.next + 2)) None) to.0 (c.next + 2) 0 0 rest data_now (newest_kept fourth.env to.0 (Number (c.next + 2)))
              (λ u.
              arrives words sizes Q
              (λ block at_place moves steps spelled. inl (record {
                step = step;
                goes = record { core = binding (stored u) to (Number (c.next + 2)) None; holds = held_now u; block = block; place = at_place; moves = moves; steps = steps; there = refl; spelled = spelled };
              }))))

        address : kept behind.env (Own t) ≡ Some (Number (HEAP_START + 4 * base))
        address = newest_kept c.env t (Number c.next) ∙ ap (λ n. Some (Number n)) h.data_held.next_is

        pub escape_made : Performs words sizes Q 1 17 (open_escape t to rest) behind
        escape_made =
            let first : IsFilled behind c.longs.heap base done (suc (suc (suc (suc left)))) = record { heap = heap_is; stamps = λ i lt. refl } in
            heap_store_performs words sizes Q t base c.longs.heap base (omega arith) 1 14 0 behind done (suc (suc (suc left))) (word 0x2D) (Number 0x2D) _ first address (omega (arith, done_length)) (omega (arith, small)) refl
            (λ hs ls filled here others.
            let long : base + 1 < length ls = let o = get_some c.longs.heap (base + 1) (omega (arith, long_enough)) in slice_get_within ls (base + 1) o.0 (others (base + 1) (λ eq. absurd (omega (arith, eq))) ∙ o.1) in
            heap_store_performs words sizes Q t base c.longs.heap base (omega arith) 1 11 1 (with_words hs ls) (done ++ Number 0x2D ∷ []) (suc (suc left)) (operand.Slot 0) (Number (stack_address place)) _ (record { heap = filled.heap; stamps = filled.stamps }) address
            (let m = length-append done (Number 0x2D ∷ []) in omega (arith, m, done_length)) (omega (arith, small)) (frame_word hs ls)
            (λ hs' ls' filled' here' others'.
            let stamp : slice_get ls' (base + 1) ≡ Some (Some step) = here' long ∙ ap Some (frame_stamp hs ls) in
            loads_inner words sizes Q (with_words hs' ls') (t + 1) (inner sizes l e g t s env c back h room) 1 9 _ h.escapes.inner
            (λ w.
            heap_store_performs words sizes Q t base c.longs.heap base (omega arith) 1 6 2 (binding (with_words hs' ls') (var (t + 1)) (Number (inner sizes l e g t s env c back h room)) w) ((done ++ Number 0x2D ∷ []) ++ Number (stack_address place) ∷ []) (suc left) (of_var (t + 1)) (Number (inner sizes l e g t s env c back h room)) _
            (record { heap = filled'.heap; stamps = filled'.stamps })
            (older_kept behind.env (t + 1) t (Number (inner sizes l e g t s env c back h room)) (omega arith) ∙ address)
            (let m = length-append done (Number 0x2D ∷ []) in let k = length-append (done ++ Number 0x2D ∷ []) (Number (stack_address place) ∷ []) in omega (arith, m, k, done_length)) (omega (arith, small))
            (newest_kept behind.env (t + 1) (Number (inner sizes l e g t s env c back h room)))
            (λ hs'' ls'' filled'' here'' others''.
            bound_last hs'' ls'' w (record { heap = filled''.heap; stamps = filled''.stamps }) (others'' (base + 1) (λ eq. absurd (omega (arith, eq))) ∙ stamp)))))

      -- ---- the frame

      abbrev first_put : Put
      first_put = put (Code (g.begins back)) None

      abbrev second_put : Put
      second_put = put (Number (stack_address (frames_place sizes (middle sizes l e g t s env c back h room).frames s.live))) (Some (born_first (ways sizes l e g t s env c back h room step) s.live))

      start : IsFilling (stack_of c) (stack_of raised) place 2 step []
      start = let o = nothing_stored c place 2 step (top_is sizes l e g t s env c back h room) in record { raised = o.raised; top = o.top; words = o.words; stamps = o.stamps; marked = o.marked; stored = o.stored; marks = o.marks }

      abbrev one : Core
      one = with_stack raised (slice_set c.storage.stack (place + 0) (Code (g.begins back))) (slice_set c.longs.stack (place + 0) None) (changed_at as_written raised.live 0)

      number_is : wrap (c.top - 4 * 2 + 4 * 2) ≡ stack_address (frames_place sizes (middle sizes l e g t s env c back h room).frames s.live)
      number_is =
          let at_top = top_is sizes l e g t s env c back h room in
          let same = place_stays sizes l g s (frame sizes l e g t s env c back h room) (stack_of c) (stack_of raised) step (below sizes l e g t s env c back h room) start.raised s.live (below sizes l e g t s env c back h room) in
          let n = inside in
          let m = h.frames.small in
          let k = h.frames.top in
          omega (arith, at_top, same, n, m, k)

      next_stamp : IsFilling (stack_of c) (stack_of one) place 2 step (first_put ∷ []) → stamp_in (words_in words sizes) one (operand.Slot (4 * 2)) ≡ second_put.stamp
      next_stamp filling =
          let all : HoldsAll sizes l (ways sizes l e g t s env c back h room step) (middle sizes l e g t s env c back h room) (stack_of one) s.live =
          all_raised sizes l g s (frame sizes l e g t s env c back h room) (stack_of c) (stack_of one) step h.frames filling.raised in
          ap (birth_at (words_in words sizes) (at one 0 0 0 0).state (at one 0 0 0 0).marks) number_is
          ∙ older_born words sizes l (ways sizes l e g t s env c back h room step) (middle sizes l e g t s env c back h room) one s.live h.frames.whole (filling.words ∙ h.frames.words) all

      pub frame_made : Performs words sizes Q 1 23 (stores 0 (operand.Code (g.begins back) ∷ operand.Slot (4 * 2) ∷ []) (open_escape t to rest)) raised
      frame_made =
          fill_performs words sizes Q (stack_of c) place 2 step h.frames.small inside h.frames.words h.frames.stamps 1 20 raised [] (operand.Code (g.begins back)) (Code (g.begins back)) (stores 1 (operand.Slot (4 * 2) ∷ []) (open_escape t to rest)) start (omega arith) refl
          (λ filling.
          fill_performs words sizes Q (stack_of c) place 2 step h.frames.small inside h.frames.words h.frames.stamps 1 17 one (first_put ∷ []) (operand.Slot (4 * 2)) second_put.word (open_escape t to rest) filling (omega arith) (ap (λ a. Some (Number a)) number_is)
          (λ more.
          escape_made (slice_set one.storage.stack (place + 1) second_put.word) (slice_set one.longs.stack (place + 1) (stamp_in (words_in words sizes) one (operand.Slot (4 * 2)))) (changed_at as_written one.live 1)
          (subst (λ y. IsFilling (stack_of c) (stack_of (with_stack one (slice_set one.storage.stack (place + 1) second_put.word) (slice_set one.longs.stack (place + 1) (stamp_in (words_in words sizes) one (operand.Slot (4 * 2)))) (changed_at as_written one.live 1))) place 2 step (first_put ∷ put second_put.word y ∷ [])) (next_stamp filling) more)))

    pub with_both : Performs words sizes Q 1 26 (catch_open t (g.begins back) to rest) c
    with_both =
        take_performs words sizes Q 16 refl space refl
        (push_performs words sizes Q {least = 1} {cost = 23} (omega arith) room (λ step. frame_made step))

  pub opens : Performs words sizes Q 1 26 (catch_open t (g.begins back) to rest) c
  opens = elim (cases_lt (heap_left sizes c) 16) [
    | inl lacking ↦ without_heap lacking
    | inr space ↦ elim (cases_lt (stack_left c) (4 * 2)) [
      | inl lacking ↦ without_stack (omega (arith, space)) lacking
      | inr room ↦ with_both (omega (arith, space)) (omega (arith, room))
    ]
  ]

pub catch_opened : (words : Words) (sizes : Sizes) (l : Layout) (e : Escapes) (g : Ways) (t : ℕ) (s : State) (env : Env) (c : Core) (back : ℕ) (to : Var) (rest : Tree) → Holds sizes l e g t s env c → length c.longs.heap ≡ length c.storage.heap → to.0 < t → Performs words sizes (OpensOrFull words sizes l e g t s env c back to rest) 1 26 (catch_open t (g.begins back) to rest) c
catch_opened words sizes l e g t s env c back to rest h fit before = opens words sizes l e g t s env c back to rest h fit before
