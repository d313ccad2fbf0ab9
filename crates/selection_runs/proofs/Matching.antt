-- Each step of the frames is matched by steps of the words, or these run out of room.
use Rattle.std.proofs.Common.{◌≡◌, ℕ, suc, ◌+◌, ◌-◌, ◌*◌, ◌/◌, ◌<◌, ◌≤◌, ◌⊎◌, inl, inr, Bool, true, false, None, refl, sym, ap, ◌∙◌, subst, arith, ⊎_elim}
use Rattle.program_runs.specs.Runs.{Full}
use Rattle.program_runs.specs.Keeps.{HasCost}
use Rattle.program_runs.specs.Follows.{Alike, after, Machine, runs, Matched, RunsOut, SimulatesWithin}
use Rattle.program_runs.proofs.Prefixes.{prefix_of_eq, prefix_trans}
use Rattle.program_runs.proofs.Simulate.{after_last, machine_steady}
use Rattle.word_ir.specs.Storage.{HEAP_START}
use Rattle.word_ir.specs.Step.{words_in}
use Rattle.word_ir.specs.Stamps.{Stamped, stamped_step, stamped_seen}
use Rattle.word_ir.proofs.Stamping.{stamped_steps_add}
use Rattle.frame_ir.specs.States.{Doing, Running, Calling, Looking, Entering, Ended, Stale, Wrong, State, end_of, seen}
use Rattle.frame_ir.specs.Sizes.{FramesAreSmall}
use Rattle.frame_ir.specs.Running.{step, start}
use Rattle.frame_ir.proofs.Growth.{is_machine}
use Rattle.frame_ir.proofs.SmallFrames.{frames_stay_small}
use Rattle.selection_steps.specs.Settings.{Setting, room_of, IsSound}
use Rattle.selection_steps.specs.Related.{CallsAt, IsCalling, IsDoing, Related}
use Rattle.selection_steps.specs.Led.{most_moves, paid, IsAsked, Comes, Led}
use Rattle.selection_runs.proofs.Leads.{advance_led}
use Rattle.selection_runs.proofs.Marks.{marks_after}

module _ (m : Setting) where
  abbrev pub a : Machine State
  a = record { step = step m.p; seen = seen }

  abbrev pub b : Machine Stamped
  b = record { step = stamped_step (words_in m.words m.sizes); seen = stamped_seen (words_in m.words m.sizes) }

  abbrev pub potential : State → Stamped → ℕ
  potential s x = paid s

  abbrev pub measure : State → ℕ
  measure s = 0

  -- ---- what is seen

  pub record IsSeen (s : State) (x : Stamped) (d : Doing) : Type 0 where
    pub output : x.state.output ≡ s.store.output
    pub next : x.state.next ≡ HEAP_START + 4 * s.store.heap
    pub end : x.state.end ≡ end_of d

  seen_call : (s : State) (f : _) (args : _) (t target : ℕ) (x : Stamped) (d : Doing) → end_of d ≡ None → CallsAt m s f args t target x → IsSeen s x d
  seen_call s f args t target x d none o =
      let there = o.calls.there in
      let kept = o.calls.holds.holds.data_held in
      record { output = ap (λ y. y.state.output) there ∙ kept.output_is; next = ap (λ y. y.state.next) there ∙ kept.next_is; end = ap (λ y. y.state.end) there ∙ sym none }

  seen_calling : (s : State) (f : _) (args : _) (x : Stamped) (d : Doing) → end_of d ≡ None → IsCalling m s f args x → IsSeen s x d
  seen_calling s f args x d none (inl o) = seen_call s f args _ _ x d none o
  seen_calling s f args x d none (inr (inl o)) = seen_call s f args _ _ x d none o.calls
  seen_calling s f args x d none (inr (inr o)) = seen_call s f args _ _ x d none o.calls

  pub is_seen : (s : State) (x : Stamped) (d : Doing) → IsDoing m s d x → IsSeen s x d
  is_seen s x (Running ops last env) o =
      record { output = ap (λ y. y.state.output) o.there ∙ o.holds.data_held.output_is; next = ap (λ y. y.state.next) o.there ∙ o.holds.data_held.next_is; end = ap (λ y. y.state.end) o.there }
  is_seen s x (Calling f args) o = seen_calling s f args x (Calling f args) refl o
  is_seen s x (Looking op methods args) o =
      record { output = ap (λ y. y.state.output) o.looks.there ∙ o.looks.holds.call.holds.data_held.output_is; next = ap (λ y. y.state.next) o.looks.there ∙ o.looks.holds.call.holds.data_held.next_is; end = ap (λ y. y.state.end) o.looks.there }
  is_seen s x (Entering code args) (inl o) = seen_call s o.f o.args _ _ x (Entering code args) refl o.calls
  is_seen s x (Entering code args) (inr o) = seen_call s o.f o.args _ _ x (Entering code args) refl o.calls
  is_seen s x (Ended end) o =
      record { output = ap (λ y. y.state.output) o.ends.there ∙ o.ends.data_held.output_is; next = ap (λ y. y.state.next) o.ends.there ∙ o.ends.data_held.next_is; end = ap (λ y. y.state.end) o.ends.there }
  is_seen s x Stale o = absurd o
  is_seen s x Wrong o = absurd o

  pub alike : (s : State) (x : Stamped) → Related m s x → Alike (seen s) (b.seen x)
  alike s x r = let o = is_seen s x s.doing r.stands.1 in record { end = o.end; output = o.output }

  -- ---- costs

  words_taken : (n k : ℕ) → n ≡ HEAP_START + 4 * k → (n - HEAP_START) / 4 ≤ k
  words_taken n k is = omega (arith, is)

  -- at each step the words have no more of the heap than at a later one
  heap_below : (x : Stamped) (count i k : ℕ) → i ≤ count → (runs b x count).heap ≤ k → (runs b x i).heap ≤ k
  heap_below x count i k le h =
      let grows = machine_steady b.step b.seen (stamped_steps_add (words_in m.words m.sizes)) x i (count - i) in
      let up : (runs b x i).heap ≤ (runs b x (i + (count - i))).heap = grows.heap in
      let same : i + (count - i) ≡ count = omega (arith, le) in
      let less : (runs b x i).heap ≤ (runs b x count).heap = subst (λ n. (runs b x i).heap ≤ (runs b x n).heap) same up in
      omega (arith, less, h)

  -- ---- a step

  comes_matched : (s : State) (x : Stamped) (r : Related m s x) (o : Led m s x (step m.p s)) → Comes m s (step m.p s) (after b.step o.leads.count x) → Matched a b (Related m) measure potential most_moves s x ⊎ RunsOut (room_of m) a b potential most_moves s x
  comes_matched s x r o (inl stands) =
      let more = o.leads.moves in
      let within = o.moves in
      let later = marks_after (words_in m.words m.sizes) o.leads.count x r.in_place r.marks in
      let now = is_seen (step m.p s) (after b.step o.leads.count x) (step m.p s).doing stands.1 in
      let low = words_taken (after b.step o.leads.count x).state.next (step m.p s).store.heap now.next in
      inl (record {
        count = o.leads.count;
        related = record { count = suc r.count; reached = ap (step m.p) r.reached ∙ sym (after_last (step m.p) r.count (start m.p)); stands = stands; in_place = later.0; marks = later.1 };
        goes = inl o.leads.enough;
        moves = omega (arith, more, within);
        costs = λ i some le. record { heap = inr (heap_below x o.leads.count i (step m.p s).store.heap le low); waiting = inl (omega arith) };
      })
  comes_matched s x r o (inr none) =
      let more = o.leads.moves in
      let within = o.moves in
      let grows = (is_machine m.p s).0 in
      inr (record {
        count = o.leads.count;
        full = (Full none.stack none.asked none.left, none.end, cost none.stack none.enough none.lacking);
        output = prefix_trans _ _ _ (prefix_of_eq _ _ none.output) grows.output;
        moves = omega (arith, more, within);
        costs = λ i some le. record { heap = ⊎_elim (λ low. inl (heap_below x o.leads.count i s.store.heap le low)) (λ low. inr (heap_below x o.leads.count i (step m.p s).store.heap le low)) none.heap; waiting = inl (omega arith) };
      })
    where
      cost : (stack : Bool) → IsAsked m s (step m.p s) stack none.asked none.left → none.left < none.asked → HasCost (room_of m) (runs a s) (Full stack none.asked none.left)
      cost false enough lacking = (lacking, (1, enough))
      cost true enough lacking = (lacking, (0, enough))

  small_now : (s : State) (count : ℕ) → s ≡ after (step m.p) count (start m.p) → FramesAreSmall m.p.shared.size s
  small_now s count reached = subst (FramesAreSmall m.p.shared.size) (sym reached) (frames_stay_small m.p m.small count)

  sound_next : (s : State) (count : ℕ) → s ≡ after (step m.p) count (start m.p) → IsSound (step m.p s)
  sound_next s count reached = subst IsSound (sym (ap (step m.p) reached ∙ sym (after_last (step m.p) count (start m.p)))) (m.sound (suc count))

  pub matched : (s : State) (x : Stamped) → Related m s x → (seen s).end ≡ None → Matched a b (Related m) measure potential most_moves s x ⊎ RunsOut (room_of m) a b potential most_moves s x
  matched s x r on =
      let o : Led m s x (step m.p s) = advance_led m s x r.stands.0 (small_now s r.count r.reached) r.marks.heap s.doing refl r.stands.1 on (sound_next s r.count r.reached) in
      comes_matched s x r o o.leads.there

  pub simulates : SimulatesWithin (room_of m) a b (Related m) measure potential most_moves
  simulates = record { machine = is_machine m.p; alike = alike; matched = matched }
