-- Wherever the run of the items, and so that of the bytes, has ended for want of room, what is left is what the registers say.
use Rattle.std.specs.Prelude.{option_map}
use Rattle.std.proofs.Common.{◌≡◌, ℕ, zero, suc, ◌+◌, ◌-◌, ◌≤◌, inl, inr, ◌⊎◌, ⊎_elim, Some, None, refl, sym, ap, subst, ◌∙◌, arith}
use Rattle.program_runs.specs.Keeps.{IsSafe}
use Rattle.program_runs.specs.Follows.{after}
use Rattle.program_runs.proofs.Simulate.{after_add, after_fixed}
use Rattle.program_runs.proofs.Weaken.{alike_is_safe, safe_never_broken}
use Rattle.word_ir.specs.declared.placed.Placed.{Placed}
use Rattle.word_ir.specs.State.{State as WordState, start}
use Rattle.word_ir.specs.Step.{step, placed_in, placed_run}
use Rattle.static_bytes.specs.Bytes.{static_bytes}
use Rattle.machine_services.specs.declared.exit.Exit.{Exit}
use Rattle.machine_services.specs.declared.exit.Exit.TheVariants as exit
use Rattle.machine_services.specs.Runs.{Progress, start_of, run_from}
use Rattle.machine_services.specs.Observed.{end_of}
use Rattle.item_runs.specs.Runs.{item_further, items_from}
use Rattle.item_runs.specs.Laws.{items_of, HasStrayed}
use Rattle.item_runs.proofs.Runs.{steps_are}
use Rattle.item_runs.proofs.Assembled.{bytes_run_as_items}
use Rattle.lap_paths.specs.Paths.{Assembly, code}
use Rattle.lap_paths.specs.Housed.{IsHoused}
use Rattle.lap_room.specs.Laws.{left_in}
use Rattle.lap_simulation.specs.Leads.{Told}
use Rattle.lap_simulation.specs.Laws.{IsBuilt, sizes_of, booted, EndsLead, LeftIsTold}
use Rattle.lap_simulation.proofs.Stepping.{Stage, goes, over, simulates}
use Rattle.lap_simulation.proofs.Keeping.{housed, first, emitted_keeps}

module _ (a : Assembly) where
  abbrev on : Progress → Progress
  on q = item_further a.names (code a) q q.end

  fixed : (q : Progress) (how : Exit) → q.end ≡ Some how → on q ≡ q
  fixed q how e = ap (λ o. item_further a.names (code a) q o) e

  -- the state after so many instructions, however many more there may be
  stays : (k more : ℕ) (q : Progress) (how : Exit) → (after on k q).end ≡ Some how → after on (k + more) q ≡ after on k q
  stays k more q how e = after_add on k more q ∙ after_fixed on more (after on k q) (fixed (after on k q) how e)

  -- after so many steps of the words the items have run as many instructions, or ended and told what is left
  record Came (n : ℕ) (q : Progress) : Type 0 where
    count : ℕ
    ends : (((after on count q).end ≡ None) × (n ≤ count)) ⊎ ((how : Exit) × ((after on count q).end ≡ Some how) × Told how (after on count q).state)

  further_came : (n count : ℕ) (q : Progress) → 1 ≤ count → Came n (after on count q) → Came (suc n) q
  further_came n count q some came =
      let there = after_add on count came.count q in
      record {
        count = count + came.count;
        ends = ⊎_elim (λ r. inl (ap (λ (p : Progress). p.end) there ∙ r.0, (let le = r.1 in omega (arith, le, some)))) (λ r. inr (r.0, ap (λ (p : Progress). p.end) there ∙ r.1, subst (λ p. Told r.0 p.state) (sym there) r.2)) came.ends;
      }

  -- so it has been told wherever it has ended
  came_told : (k : ℕ) (q : Progress) (how : Exit) → Came k q → (after on k q).end ≡ Some how → Told how (after on k q).state
  came_told k q how came e = ⊎_elim (λ r. absurd (runs_on r.0 r.1)) (λ r. by r.0 r.1 r.2) came.ends
    where
      runs_on : (after on came.count q).end ≡ None → k ≤ came.count → ⊥
      runs_on none le =
          let count : k + (came.count - k) ≡ came.count = omega (arith, le) in
          let same : after on came.count q ≡ after on k q = ap (λ (n : ℕ). after on n q) (sym count) ∙ stays k (came.count - k) q how e in
          let both : None ≡ Some how = sym none ∙ ap (λ (p : Progress). p.end) same ∙ e in
          cc

      by : (what : Exit) → (after on came.count q).end ≡ Some what → Told what (after on came.count q).state → Told how (after on k q).state
      by what ended told =
          let turned : came.count + k ≡ k + came.count = omega arith in
          let same : after on came.count q ≡ after on k q = sym (stays came.count k q what ended) ∙ ap (λ (n : ℕ). after on n q) turned ∙ stays k came.count q how e in
          let both : Some what ≡ Some how = sym ended ∙ ap (λ (p : Progress). p.end) same ∙ e in
          let one : what ≡ how = cc in
          subst (λ x. Told x (after on k q).state) one (subst (λ p. Told what p.state) same told)

module _ (a : Assembly) (placed : Placed) (heap stack : ℕ) (built : IsBuilt a placed heap stack) (serve : IsHoused (placed_in placed (sizes_of heap stack))) (safe : IsSafe (placed_run placed (sizes_of heap stack))) (ends : EndsLead) where
  came : (n : ℕ) (s : WordState) (q : Progress) → Stage a placed heap stack built serve safe ends s q → Came a n q
  came zero s q (goes g) = record { count = 0; ends = inl (g.running, omega arith) }
  came zero s q (over o) = record { count = 0; ends = inr (o.how, o.stopped, o.told) }
  came (suc n) s q (over o) = record { count = 0; ends = inr (o.how, o.stopped, o.told) }
  came (suc n) s q (goes g) =
      let one = (simulates a placed heap stack built serve safe ends).matched s q (goes g) g.going in
      let some : 1 ≤ one.count = ⊎_elim (λ le. le) (λ less. absurd (omega (arith, less))) one.goes in
      further_came a n one.count q some (came n (step (placed_in placed (sizes_of heap stack)) s) (after (on a) one.count q) one.related)

pub left_is_told : EndsLead → LeftIsTold
left_is_told ends a placed heap stack built safe k region asked left e =
    ⊎_elim told strayed (bytes_run_as_items a.names a.items a.bytes a.labels (booted a placed heap stack) k a.assembled a.can refl)
  where
    told : items_from a.names (code a) (start_of (booted a placed heap stack)) k ≡ run_from a.names (start_of (booted a placed heap stack)) k → left ≡ left_in region (run_from a.names (start_of (booted a placed heap stack)) k).state
    told same =
        let there : after (on a) k (start_of (booted a placed heap stack)) ≡ run_from a.names (start_of (booted a placed heap stack)) k = steps_are a.names (code a) (start_of (booted a placed heap stack)) k ∙ same in
        let c = came a placed heap stack built (housed a placed heap stack built safe ends) safe ends k (start (placed_in placed (sizes_of heap stack))) (start_of (booted a placed heap stack)) (first a placed heap stack built safe ends) in
        let t = came_told a k (start_of (booted a placed heap stack)) (exit.Full region asked left) c (ap (λ (p : Progress). p.end) there ∙ e) in
        t region asked left refl ∙ ap (λ (p : Progress). left_in region p.state) there

    strayed : HasStrayed (code a) (items_from a.names (code a) (start_of (booted a placed heap stack)) k) → left ≡ left_in region (run_from a.names (start_of (booted a placed heap stack)) k).state
    strayed h =
        let seen = items_of a.names a.items a.bytes a.labels a.assembled (static_bytes placed.words.statics.items a.labels) placed.words.entry (record { heap = heap; stack = stack }) in
        absurd (safe_never_broken seen (alike_is_safe 13 0 (placed_run placed (sizes_of heap stack)) seen (emitted_keeps ends a placed heap stack built safe)) k (ap (option_map (end_of a.names)) h.ended))
