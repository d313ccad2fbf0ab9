-- What is put of a run, where a put fails and where none does.
use Rattle.std.proofs.Common.{◌≡◌, ℕ, ◌+◌, ◌-◌, ◌≤◌, ◌<◌, List, [], ◌++◌, Option, Some, None, Result, Ok, Err, sym, ap, ◌∙◌, subst, inl, inr, ⊎_elim, arith, append_assoc, append-nil}
use Rattle.t_base.specs.declared.faults.Face.{Face}
use Rattle.t_ports.specs.declared.ports.Sink.{Ghosts as SinkOf}
use Rattle.t_ports.specs.Causes.{Rose}
use Rattle.t_ports.specs.Pieces.{TookFront}
use Rattle.program_runs.specs.Runs.{IsPrefix}
use Rattle.machine_services.specs.declared.exit.Exit.{Exit}
use Rattle.machine_services.specs.declared.exit.Exit.TheVariants.{Done}
use Rattle.word_faces.specs.Faces.{shown_of}
use Rattle.machine_services.specs.Runs.{Progress, act, followed, run_from}
use Rattle.orbit_monitor.specs.Answering.{Loaded, run_on, last_after, FailsAtPut}
use Rattle.machine_services.proofs.Runs.{run_from-next, run_from-add, run_from-grows, further-going}
use Rattle.orbit_cli.specs.declared.status.Status.{Status}
use Rattle.orbit_cli.specs.declared.status.Status.TheVariants as status
use Rattle.orbit_cli.specs.Lines.{shown_text, value_line}
use Rattle.orbit_cli.specs.Answer.{Answer, answer_at, answer_on, value_text, end_line, end_status, printed}
use Rattle.orbit_cli.specs.Changes.{Change, change, Says, IsPut}
use Rattle.orbit_cli.specs.Outcome.{IsAnswered}
use Rattle.orbit_cli.specs.Parts.{Reports}

-- a count that rose from a later one rose from an earlier one
rose_from : (a b c : ℕ) → a ≤ b → Rose b c → Rose a c
rose_from a b c le rose = grind (arith, le, rose)

-- ---- the output of a run

-- what an instruction puts stands behind what was put before it, and before all else
output_split : (b : Loaded) (m steps : ℕ) → m < steps → (run_on b m).end ≡ None → (more : List ℕ) × ((run_on b steps).output ≡ ((run_on b m).output ++ (act b.names (run_on b m).state).output) ++ more)
output_split b m steps within going =
    let p0 : Progress = run_on b 0 in
    let p : Progress = run_on b m in
    let k : ℕ = steps - (m + 1) in
    let count : steps ≡ (m + 1) + k = omega (arith, within) in
    let next : run_on b (m + 1) ≡ followed p (act b.names p.state) = run_from-next b.names p0 m ∙ further-going b.names p going in
    let grown : IsPrefix (run_on b (m + 1)).output (run_from b.names (run_on b (m + 1)) k).output = run_from-grows b.names (run_on b (m + 1)) k in
    (grown.0, ap (λ (n : ℕ). (run_on b n).output) count ∙ ap (λ (q : Progress). q.output) (run_from-add b.names p0 (m + 1) k) ∙ grown.1 ∙ ap (λ (q : Progress). q.output ++ grown.0) next)

-- six pieces, of which the first two are a front
regroup : (a b c d e : List ℕ) → ((a ++ (b ++ c)) ++ d) ++ e ≡ (a ++ b) ++ (c ++ (d ++ e))
regroup a b c d e =
    append_assoc (a ++ (b ++ c)) d e
    ∙ ap (λ (l : List ℕ). l ++ (d ++ e)) (sym (append_assoc a b c))
    ∙ append_assoc (a ++ b) c (d ++ e)

-- a put of a service failed
pub service_cut_off : {S : Type 0} (took : S → List ℕ → S → Type 0) (b c : Loaded) (steps : ℕ) (old new : S) → FailsAtPut took b steps c old new → TookFront took old (answer_on b steps).out new
service_cut_off took b c steps old new f =
    let split = output_split b f.before steps f.within f.going in
    let line : List ℕ = value_text b.names (last_after b.last (run_on b steps).output) (run_on b steps).end in
    let put : List ℕ = (run_on b f.before).output in (
      put ++ f.front,
      f.rest ++ (split.0 ++ line),
      ap (λ (l : List ℕ). l ++ line) split.1
          ∙ ap (λ (l : List ℕ). ((put ++ l) ++ split.0) ++ line) f.due
          ∙ regroup put f.front f.rest split.0 line,
      f.given,
    )

-- a line was put, or a put failed
pub says : {E T D : Type 0} (e : SinkOf E) (err : Change E) (line : List ℕ) (r : Result T D) → IsPut e err line r → Says e err line
says e err line (Ok x) put = record { whole = λ quiet. put.whole; front = (line, [], sym (append-nil line), put.whole) }
says e err line (Err x) put = record { whole = λ quiet. absurd (quiet put.cause.failed); front = put.part }

module _ {S E : Type 0} (o : SinkOf S) (e : SinkOf E) where
  -- a run ended so, without a value, and its line was put
  pub ended_so : {T D : Type 0} (b : Loaded) (steps : ℕ) (end : Option Exit) (out : Change S) (err : Change E) (ended : Status) (r : Result T D)
      → (run_on b steps).end ≡ end → value_text b.names (last_after b.last (run_on b steps).output) end ≡ [] → end_status end ≡ ended → (ended ≡ status.Done → ⊥)
      → o.took out.old (run_on b steps).output out.new → IsPut e err (end_line steps end) r
      → Reports o e out err (answer_on b steps) ended
  ended_so b steps end out err ended r same no_text status_is not_done taken put_so =
      let put : List ℕ = (run_on b steps).output in
      let whole : answer_at b put end steps ≡ answer_on b steps = ap (λ (x : Option Exit). answer_at b put x steps) (sym same) in
      let no_line : put ≡ put ++ value_text b.names (last_after b.last put) end = sym (append-nil put) ∙ ap (λ (l : List ℕ). put ++ l) (sym no_text) in
      inl (subst (λ (a : Answer). IsAnswered o e out err a ended) whole (record {
        printed = subst (λ (l : List ℕ). o.took out.old l out.new) no_line taken;
        noted = says e err (end_line steps end) r put_so;
        silent = λ done. absurd (not_done done);
        status_is = status_is;
      }))

  module _ (both : (a b c : S) (first second : List ℕ) → o.took a first b → o.took b second c → o.took a (first ++ second) c) (old mid new : S) where
    -- a put of the value's line failed
    line_cut_off : (output line : List ℕ) → o.took old output mid → TookFront o.took mid line new → TookFront o.took old (output ++ line) new
    line_cut_off output line t f =
        (output ++ f.0, f.1, ap (λ (l : List ℕ). output ++ l) f.2 ∙ sym (append_assoc output f.0 f.1), both old mid new output f.0 t f.3)

    -- a run halted, and its line was put or cut off
    pub halted : (b : Loaded) (steps : ℕ) (face : Face) (line : List ℕ) (err : Change E) (ended : Status)
        → (run_on b steps).end ≡ Some (Done face) → line ≡ value_line (last_after b.last (run_on b steps).output) (shown_text (shown_of b.names face))
        → o.took old (run_on b steps).output mid → o.faults old ≤ o.faults mid
        → Reports o e (change mid new) err (printed line) ended → Reports o e (change old new) err (answer_on b steps) ended
    halted b steps face line err ended same line_is t later h =
        let put : List ℕ = (run_on b steps).output in
        let whole : printed (put ++ line) ≡ answer_on b steps = ap (λ (l : List ℕ). printed (put ++ l)) line_is ∙ ap (λ (x : Option Exit). answer_at b put x steps) (sym same) in
        subst (λ (a : Answer). Reports o e (change old new) err a ended) whole
        (⊎_elim
        (λ a. inl (record { printed = both old mid new put line t a.printed; noted = a.noted; silent = a.silent; status_is = a.status_is }))
        (λ u. inr (
          record {
            cut = record { failed = rose_from (o.faults old) (o.faults mid) (o.faults new) later u.0.cut.failed; front = line_cut_off put line t u.0.cut.front };
            noted = u.0.noted;
          },
          u.1,
        ))
        h)
