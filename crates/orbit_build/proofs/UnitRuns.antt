-- The run of a unit's image keeps the unit's meaning.
use Rattle.std.proofs.Common.{◌≡◌, ℕ, ◌+◌, ◌-◌, ◌*◌, ◌/◌, ◌^◌, ◌≤◌, List, [], ◌∷◌, ◌++◌, length, Option, Some, None, refl, sym, ap, ◌∙◌, subst, arith, append_assoc, append-nil, inl, ⊎_elim}
use Rattle.std.specs.Prelude.{option_map, slice_index}
use Rattle.std.proofs.lemmas.Bool.{cases_lt}
use Rattle.std.proofs.lemmas.List.{length-replicate}
use Rattle.t_base.specs.declared.faults.Face.{Face}
use Rattle.t_base.specs.declared.faults.Face.TheVariants as face
use Rattle.program_runs.specs.Runs.{End, Shown, Fixnum, EmptyList, Observation, IsPrefix, IsProper}
use Rattle.program_runs.specs.Runs as runs
use Rattle.program_runs.specs.Keeps.{Room, KeepsWithin}
use Rattle.program_runs.proofs.Follow.{one_end, steady_goes_on}
use Rattle.program_runs.proofs.Prefixes.{prefix_of_eq}
use Rattle.program_runs.proofs.Weaken.{within_with_more}
use Rattle.m68020_code.specs.declared.instr.Instr.TheVariants.{Trap}
use Rattle.m68020_code.specs.Table.{spelling}
use Rattle.m68020_step.specs.declared.registers.Registers.{Registers}
use Rattle.m68020_step.specs.declared.machine.Sizes.{Sizes}
use Rattle.m68020_step.specs.declared.storage.TheConstants.{HEAP_START}
use Rattle.m68020_step.specs.Operand.{data_at, with_pc}
use Rattle.m68020_step.specs.Step.{State}
use Rattle.m68020_step.proofs.Executing.{IsAt}
use Rattle.m68020_step.proofs.Rows.{trap_by}
use Rattle.machine_services.specs.declared.exit.Exit.{Exit}
use Rattle.machine_services.specs.declared.exit.Exit.TheVariants as exit
use Rattle.word_faces.specs.Faces.{Reader, face_of, shown_of}
use Rattle.machine_services.specs.Services.{Exits, or_bad, reader_of, serve}
use Rattle.machine_services.specs.Runs.{start_of, run_from}
use Rattle.machine_services.specs.Runs as monitor
use Rattle.machine_services.specs.Observed.{end_of, observation_of}
use Rattle.orbit_monitor.specs.Run.{run, booted}
use Rattle.orbit_monitor.specs.Observed.{observed}
use Rattle.orbit_monitor.proofs.Runs.{run-stays_by, observed-grows}
use Rattle.t_core.specs.declared.forms.UnitCore.{UnitCore}
use Rattle.t_meaning.specs.Programs.{Marking, all_escape}
use Rattle.t_meaning.specs.Units.{meaning}
use Rattle.t_meaning.proofs.BoundTasks.{meaning_is_steady}
use Rattle.orbit_build.specs.Sums.{most_open, Term, HasFixnums, AreTerms}
use Rattle.orbit_build.proofs.Evaluation.{Outcome, Value, Faulted, Counters, Evaluation, whole, Progress, reached, counted, continued, whole_run, top, fresh}
use Rattle.orbit_build.proofs.Meanings.{seen, meaning_whole}
use Rattle.orbit_build.specs.Code.{empty_list, term_code, terms_code, unit_code, statics_bytes, image_of}
use Rattle.orbit_build.specs.Faithful.{factor, room_of, KeepsMeaning, TellsRoom}
use Rattle.orbit_build.proofs.Words.{face_word}
use Rattle.orbit_build.proofs.Runs.{Finishes, with_registers, finishes_one, finishes_on}
use Rattle.orbit_build.proofs.Sums.{Fit, Ending}
use Rattle.orbit_build.proofs.TermRuns.{nesting, fit_kept, Comes, loads, term_comes}

-- ---- terms

-- terms whose literals are fixnums, with few sums open at once
abbrev pub AreSmall : List Term → Type 0
AreSmall [] = Unit {0}
AreSmall (t ∷ ts) = (HasFixnums t × (nesting t ≤ most_open)) × AreSmall ts

-- the word is shown so
record Shows (w : ℕ) (last : Shown) : Type 0 where
  it : Face
  face_is : (read : Reader) → face_of read [] w ≡ Some it
  shown : shown_of [] it ≡ last

-- what comes of a unit, from s on, within six instructions for each evaluation and so many more
record UnitComes (s : State) (before more : ℕ) (p : Progress) : Type 0 where
  count : ℕ
  few : count + 6 * before ≤ 6 * p.counters.work + more
  how : Exit
  finishes : Finishes s count how
  end_is : p.end ≡ end_of [] how
  proper : IsProper (end_of [] how)

-- the end with what is in D0
halts : (s : State) (front : List ℕ) (c : Counters) (last : Shown) → IsAt s front (spelling (Trap 0)) → Shows (data_at s.registers 0) last → UnitComes s c.work 1 (reached c (runs.Value last))
halts s front c last at shows =
    let r : Registers = with_pc s.registers (s.registers.pc + length (spelling (Trap 0))) in
    let service : serve [] (with_registers s r) 0 ≡ Exits (exit.Done shows.it) = ap (or_bad (λ (f : Face). Exits (exit.Done f))) (shows.face_is (reader_of s.storage)) in
    let here = subst (λ l. IsAt s front l) (sym (append-nil (spelling (Trap 0)))) at in
    record {
      count = 1;
      few = omega arith;
      how = exit.Done shows.it;
      finishes = finishes_one s front (Trap 0) [] r 0 (exit.Done shows.it) refl here (trap_by s.storage s.registers.pc _ 0) refl service;
      end_is = ap (λ (x : Shown). runs.Value x) (sym shows.shown);
      proper = tt;
    }

first_term : (s : State) (front rest : List ℕ) (c : Counters) (r : Evaluation) (more : Counters → Shown → Progress) → Fit s → Comes s 0 front rest (c.work + 1) r
    → ((t : State) (shown : Shown) → Fit t → IsAt t front rest → Shows (data_at t.registers 0) shown → UnitComes t r.counters.work 1 (more r.counters shown))
    → UnitComes s c.work 1 (continued r.counters r.outcome more)
first_term s front rest c r more fit comes next = by_outcome r.outcome comes.count comes.few comes.ending
  where
    by_outcome : (o : Outcome) (k : ℕ) → k + 6 * (c.work + 1) ≤ 6 * r.counters.work → Ending s 0 front rest k o → UnitComes s c.work 1 (continued r.counters o more)
    by_outcome (Value v) k few e =
        let shows : Shows (data_at e.state.registers 0) (Fixnum v) = record { it = face.Fix v; face_is = λ read. ap (face_of read []) e.value ∙ face_word read v e.fixnum; shown = refl } in
        let u = next e.state (Fixnum v) (fit_kept 0 s e.state fit e.kept) e.at shows in
        record { count = k + u.count; few = omega (arith, few, u.few); how = u.how; finishes = finishes_on s e.state k u.count u.how e.passes u.finishes; end_is = u.end_is; proper = u.proper }
    by_outcome (Faulted fault) k few e = record { count = k; few = omega (arith, few); how = exit.Fault fault; finishes = e; end_is = refl; proper = tt }

terms_come : (ts : List Term) (c : Counters) (last : Shown) (s : State) (front : List ℕ) → AreSmall ts → Fit s → IsAt s front (terms_code ts ++ spelling (Trap 0)) → Shows (data_at s.registers 0) last → UnitComes s c.work 1 (whole_run ts c last)
unfolding whole_run
terms_come [] c last s front h fit at shows = halts s front c last at shows
terms_come (f ∷ fs) c last s front h fit at shows =
    let here = subst (λ l. IsAt s front l) (append_assoc (term_code 0 f) (terms_code fs) (spelling (Trap 0))) at in
    first_term s (front ++ term_code 0 f) (terms_code fs ++ spelling (Trap 0)) c (whole 1 f (counted c)) (λ t shown. whole_run fs t shown) fit
    (term_comes f 0 1 (counted c) s front _ h.0.0 (omega (arith, h.0.1)) fit here)
    (λ t shown fit2 at2 shows2. terms_come fs (whole 1 f (counted c)).counters shown t _ h.1 fit2 at2 shows2)

-- ---- from boot on

boot_fits : (ts : List Term) (sizes : Sizes) → Fit (booted (image_of ts) sizes)
boot_fits ts sizes = record { registers = refl; statics = length-replicate {A = ℕ} statics_bytes 0 }

boot_is_at : (ts : List Term) (sizes : Sizes) → length (unit_code ts) ≤ 2 ^ 28 → IsAt (booted (image_of ts) sizes) [] (unit_code ts)
boot_is_at ts sizes small = record { code = refl; pc = omega arith; even = refl; small = small }

unit_comes : (ts : List Term) (sizes : Sizes) → AreSmall ts → length (unit_code ts) ≤ 2 ^ 28 → UnitComes (booted (image_of ts) sizes) 0 2 (whole_run ts fresh EmptyList)
unit_comes ts sizes h small =
    let s = booted (image_of ts) sizes in
    let l = loads s [] (terms_code ts ++ spelling (Trap 0)) empty_list (omega arith) (boot_fits ts sizes) (boot_is_at ts sizes small) in
    let shows : Shows (data_at l.state.registers 0) EmptyList = record { it = face.Nil; face_is = λ read. ap (face_of read []) l.value; shown = refl } in
    let u = terms_come ts fresh EmptyList l.state _ h (fit_kept 0 s l.state (boot_fits ts sizes) (l.kept 0)) l.at shows in
    record { count = 1 + u.count; few = omega (arith, u.few); how = u.how; finishes = finishes_on s l.state 1 u.count u.how l.passes u.finishes; end_is = u.end_is; proper = u.proper }

-- ---- what is seen of it

none_some : {A : Type 0} (x : A) → None ≡ Some x → ⊥
none_some x e = cc

prefix_of_nothing : (p : List ℕ) → IsPrefix p [] → p ≡ []
prefix_of_nothing [] h = refl
prefix_of_nothing (b ∷ bs) h = cc

module _ (unit : UnitCore) (escapes : Marking) (ts : List Term) (are : AreTerms unit.forms.items ts) (sizes : Sizes) (h : AreSmall ts) (small : length (unit_code ts) ≤ 2 ^ 28) where
  comes : UnitComes (booted (image_of ts) sizes) 0 2 (whole_run ts fresh EmptyList)
  comes = unit_comes ts sizes h small

  abbrev b : ℕ → Observation
  b k = observed (image_of ts) sizes k

  at_end : run (image_of ts) sizes comes.count ≡ record { state = comes.finishes.state; output = []; end = Some comes.how; instructions = comes.count }
  at_end = comes.finishes.by

  -- where it has ended, it is as at the end
  end_of_run : (k : ℕ) (how : Exit) → (run (image_of ts) sizes k).end ≡ Some how → b k ≡ b comes.count
  end_of_run k how e = ap (observation_of []) (⊎_elim
      (λ lt. sym (run-stays_by (image_of ts) sizes k comes.count how e (omega arith)))
      (λ ge. run-stays_by (image_of ts) sizes comes.count k comes.how (ap (λ (p : monitor.Progress). p.end) at_end) ge)
      (cases_lt k comes.count))

  seen_end : (b comes.count).end ≡ Some (end_of [] comes.how)
  seen_end = ap (λ (p : monitor.Progress). option_map (end_of []) p.end) at_end

  seen_output : (b comes.count).output ≡ []
  seen_output = ap (λ (p : monitor.Progress). p.output) at_end

  -- behind the end and before it nothing was put, and heap and stack are as at boot
  record Quiet (k : ℕ) : Type 0 where
    output : (b k).output ≡ []
    heap : (b k).heap ≡ 0

  words_of : (a : List ℕ) → a ≡ (booted (image_of ts) sizes).registers.a → (slice_index a 4 - HEAP_START) / 4 ≡ 0
  words_of a e = ap (λ (l : List ℕ). (slice_index l 4 - HEAP_START) / 4) e

  quiet_to : (k : ℕ) → k ≤ comes.count → Quiet k
  quiet_to k le =
      let same : k + (comes.count - k) ≡ comes.count = omega arith in
      let grows : IsPrefix (b k).output (b comes.count).output = subst (λ n. IsPrefix (b k).output (b n).output) same (observed-grows (image_of ts) sizes k (comes.count - k)) in
      record {
        output = prefix_of_nothing (b k).output (subst (λ l. IsPrefix (b k).output l) seen_output grows);
        heap = words_of (run (image_of ts) sizes k).state.registers.a (comes.finishes.still k le);
      }

  quiet : (k : ℕ) → Quiet k
  quiet k = ⊎_elim
      (λ lt. quiet_to k (omega arith))
      (λ ge.
      let e = ap (observation_of []) (run-stays_by (image_of ts) sizes comes.count k comes.how (ap (λ (p : monitor.Progress). p.end) at_end) ge) in
      let q = quiet_to comes.count (omega arith) in
      let x : Quiet k = record { output = ap (λ (o : Observation). o.output) e ∙ q.output; heap = ap (λ (o : Observation). o.heap) e ∙ q.heap } in x)
      (cases_lt k comes.count)

  whole_meaning : meaning unit escapes (top ts) ≡ seen (whole_run ts fresh EmptyList)
  whole_meaning = meaning_whole unit escapes ts (top ts) are (omega arith)

  -- nothing is put at any bound
  silent : (m : ℕ) → (meaning unit escapes m).output ≡ []
  silent m =
      let later = ap (λ (o : Observation). o.output) (meaning_whole unit escapes ts (m + top ts) are (omega arith)) in
      prefix_of_nothing _ (subst (λ l. IsPrefix (meaning unit escapes m).output l) later (meaning_is_steady unit escapes m (top ts)).output)

  -- the end of the unit
  meant_end : (meaning unit escapes (top ts)).end ≡ Some (end_of [] comes.how)
  meant_end = ap (λ (o : Observation). o.end) whole_meaning ∙ ap (λ (e : End). Some e) comes.end_is

  meant : (m : ℕ) (e : End) → (meaning unit escapes m).end ≡ Some e → meaning unit escapes m ≡ meaning unit escapes (top ts)
  meant m e q = one_end (meaning unit escapes) (steady_goes_on _ (meaning_is_steady unit escapes)) (top ts) m (end_of [] comes.how) e meant_end q

  record Exited (k : ℕ) (e : End) : Type 0 where
    how : Exit
    ended : (run (image_of ts) sizes k).end ≡ Some how

  exited : (k : ℕ) (e : End) → (b k).end ≡ Some e → Exited k e
  exited k e q = by_end (run (image_of ts) sizes k).end refl
    where
      by_end : (o : Option Exit) → (run (image_of ts) sizes k).end ≡ o → Exited k e
      by_end (Some how) x = record { how = how; ended = x }
      by_end None x = absurd (none_some e (sym (ap (option_map (end_of [])) x) ∙ q))

  same_of : (e d : End) → Some e ≡ Some d → e ≡ d
  same_of e d q = cc

  -- the one end of the run
  the_end : (k : ℕ) (e : End) → (b k).end ≡ Some e → end_of [] comes.how ≡ e
  the_end k e q =
      let x = exited k e q in
      let same = end_of_run k x.how x.ended in
      same_of _ _ (sym seen_end ∙ sym (ap (λ (o : Observation). o.end) same) ∙ q)

  pub proper_end : (k : ℕ) (e : End) → (b k).end ≡ Some e → IsProper e
  proper_end k e q = subst IsProper (the_end k e q) comes.proper

  pub keeps_within : (room : Room) → KeepsWithin room 8 8 (meaning unit escapes) (observed (image_of ts) sizes)
  keeps_within room = record {
    ends_only = λ k e q.
        inl (proper_end k e q, (top ts, record { ended = meant_end ∙ ap (λ (d : End). Some d) (the_end k e q); output = silent (top ts) ∙ sym (quiet k).output }));
    ends = λ m e q.
        let same = meant m e q in
        let is : Some (end_of [] comes.how) ≡ Some e = sym meant_end ∙ sym (ap (λ (o : Observation). o.end) same) ∙ q in
        let work : (meaning unit escapes m).moves ≡ (whole_run ts fresh EmptyList).counters.work = ap (λ (o : Observation). o.moves) (same ∙ whole_meaning) in
        let moves : (b comes.count).moves ≡ comes.count = ap (λ (p : monitor.Progress). p.instructions) at_end in
        (comes.count, inl (seen_end ∙ is, seen_output ∙ sym (silent m)), omega (arith, work, moves, comes.few));
    shows = λ m. (0, inl (prefix_of_eq _ _ (silent m ∙ sym (quiet 0).output)), omega arith);
    shows_only = λ k. (0, prefix_of_eq _ _ ((quiet k).output ∙ sym (silent 0)));
    heap = λ k. (0, let q = (quiet k).heap in omega (arith, q));
    waiting = λ k. (0, omega arith);
  }

eight_within : (n : ℕ) → 8 ≤ 10467 * (n + 8)
eight_within n = omega arith

pub keeps_meaning : (unit : UnitCore) (ts : List Term) → AreTerms unit.forms.items ts → AreSmall ts → length (unit_code ts) ≤ 2 ^ 28 → KeepsMeaning unit (image_of ts)
keeps_meaning unit ts are h small sizes heap stack =
    within_with_more (room_of unit sizes) 8 8 (factor unit.shared.size) (factor unit.shared.size) (meaning unit all_escape) (observed (image_of ts) sizes) (eight_within unit.shared.size) (eight_within unit.shared.size)
    (keeps_within unit all_escape ts are sizes h small (room_of unit sizes))

-- It is never full.
pub tells_room : (unit : UnitCore) (ts : List Term) → AreTerms unit.forms.items ts → AreSmall ts → length (unit_code ts) ≤ 2 ^ 28 → TellsRoom (image_of ts)
tells_room unit ts are h small sizes heap stack k region asked left e =
    absurd (proper_end unit all_escape ts are sizes h small k (runs.Full region asked left) (ap (option_map (end_of [])) e))
