-- From what the parts of a command come to, to what it comes to.
use Rattle.std.proofs.Common.{◌≡◌, ℕ, true, false, List, Option, Some, None, refl, sym, ap, ◌∙◌, subst, inl, inr, ⊎_elim}
use Rattle.t_ports.specs.declared.ports.Folder.{Ghosts as FolderOf}
use Rattle.t_ports.specs.declared.ports.Sink.{Ghosts as SinkOf}
use Rattle.t_ports.specs.Causes.{Rose}
use Rattle.t_ports.specs.Files.{Files, IfBothTold, IsSame, Puts}
use Rattle.t_core.specs.declared.forms.UnitCore.{UnitCore}
use Rattle.orbit_build.proofs.FullRuns.{never_stops, full_for}
use Rattle.machine_services.specs.declared.exit.Exit.{Exit}
use Rattle.machine_services.specs.declared.exit.Exit.TheVariants as exit
use Rattle.orbit_monitor.specs.Run.{run}
use Rattle.orbit_monitor.specs.Answering.{Loaded}
use Rattle.orbit_cli.specs.declared.prepare.Counts.{Counts}
use Rattle.orbit_cli.specs.declared.words.Bounds.{Bounds}
use Rattle.orbit_cli.specs.declared.status.Status.{Status}
use Rattle.orbit_cli.specs.declared.status.Status.TheVariants as status
use Rattle.orbit_cli.specs.declared.refusal.Refusal.{Refusal}
use Rattle.orbit_cli.specs.declared.refusal.Refusal.TheVariants as refusal
use Rattle.orbit_cli.specs.Lines.{counts_line}
use Rattle.orbit_cli.specs.Answer.{Answer, answer, answer_on, listing_answer, most_nodes, counts_answer, printed, end_status}
use Rattle.orbit_cli.specs.Changes.{Change, change, IsIdle, Says, IsUnchanged, Keeps}
use Rattle.orbit_cli.specs.Command.{AreSizes}
use Rattle.orbit_cli.specs.Outcome.{IsCompiled, CompileOutcome, OfCore, CheckOutcome, IsAnswered, IsUnwritten, IsRun, RunOutcome, ListOutcome, IsKeptAndRun, GoOutcome}
use Rattle.orbit_cli.specs.Parts.{refusal_line, refusal_status, CompileCause, CheckCause, ImageCause, KeepCause, IsTranslated, IsFetchedCounts, IsFetchedProgram, IsFetchedListing, IsProgram, Reports}

-- ---- folders

same_twice : (a b c : Option Files) → IfBothTold a b IsSame → IfBothTold b c IsSame → IfBothTold a c IsSame
same_twice None None None p q = tt
same_twice None None (Some z) p q = absurd q
same_twice None (Some y) c p q = absurd p
same_twice (Some x) None c p q = absurd p
same_twice (Some x) (Some y) None p q = absurd q
same_twice (Some x) (Some y) (Some z) p q = λ name. q name ∙ p name

puts_after_same : (a b c : Option Files) (name bytes : List ℕ) → IfBothTold a b IsSame → IfBothTold b c (Puts name bytes) → IfBothTold a c (Puts name bytes)
puts_after_same None None None name bytes p q = tt
puts_after_same None None (Some z) name bytes p q = absurd q
puts_after_same None (Some y) c name bytes p q = absurd p
puts_after_same (Some x) None c name bytes p q = absurd p
puts_after_same (Some x) (Some y) None name bytes p q = absurd q
puts_after_same (Some x) (Some y) (Some z) name bytes p q = record { here = q.here; others = λ other ne. q.others other ne ∙ p other }

module _ {F : Type 0} (f : FolderOf F) (old mid new : F) (same : IsUnchanged f (change old mid)) (keeps : f.keep_faults mid ≡ f.keep_faults old) (src bytes : List ℕ) (translated : IsTranslated f (change old mid) src bytes) where
  -- the image of a fetched text was kept
  pub kept : (img : List ℕ) → Keeps f (change mid new) img bytes → IsCompiled f (change old new) src img bytes
  kept img k = record {
    text = translated.text;
    given = record { told = translated.given.told; short = translated.given.short };
    built = translated.built;
    faithful = translated.faithful;
    kept = puts_after_same (f.files old) (f.files mid) (f.files new) img bytes same k;
  }

  pub unchanged : IsUnchanged f (change mid new) → IsUnchanged f (change old new)
  unchanged u = same_twice (f.files old) (f.files mid) (f.files new) same u

  -- it was not kept
  pub unkept : (r : Refusal) → KeepCause f (change mid new) r → CompileCause f (change old new) src r
  unkept refusal.Unkept h = (
    subst (λ (n : ℕ). Rose n (f.keep_faults new)) keeps h,
    (translated.text, record { told = translated.given.told; short = translated.given.short }, (bytes, translated.built, translated.faithful)),
  )
  unkept refusal.Memory h = tt
  unkept refusal.Unread h = absurd h
  unkept refusal.Long h = absurd h
  unkept (refusal.Source kind line column) h = absurd h
  unkept (refusal.Over fault) h = absurd h
  unkept (refusal.Bad kind at) h = absurd h
  unkept refusal.Unbuilt h = absurd h

-- ---- refusals

module _ {F E : Type 0} (f : FolderOf F) (e : SinkOf E) (folder : Change F) (err : Change E) where
  compile_refused_so : (src img : List ℕ) (r : Refusal) → IsUnchanged f folder → CompileCause f folder src r → Says e err (refusal_line src r) → CompileOutcome f e folder err src img (refusal_status r)
  compile_refused_so src img refusal.Unread u h n = record { unchanged = u; noted = n; why = h }
  compile_refused_so src img refusal.Long u h n = record { unchanged = u; noted = n; why = h }
  compile_refused_so src img (refusal.Source kind line column) u h n = (kind, line, column, record { unchanged = u; noted = n; why = h })
  compile_refused_so src img (refusal.Over fault) u h n = (fault, record { unchanged = u; noted = n; why = h })
  compile_refused_so src img (refusal.Bad kind at) u h n = absurd h
  compile_refused_so src img refusal.Unbuilt u h n = record { unchanged = u; noted = n; why = h }
  compile_refused_so src img refusal.Unkept u h n = record { unchanged = u; noted = n; why = h }
  compile_refused_so src img refusal.Memory u h n = record { unchanged = u; noted = n; why = tt }

  pub compile_refused : (src img : List ℕ) (r : Refusal) (ended : Status) → IsUnchanged f folder → CompileCause f folder src r → ended ≡ refusal_status r → Says e err (refusal_line src r) → CompileOutcome f e folder err src img ended
  compile_refused src img r ended u h is n = subst (λ (s : Status). CompileOutcome f e folder err src img s) (sym is) (compile_refused_so src img r u h n)

-- ---- how a run ends

-- what holds at each status that a run has holds at the status of its end
by_end : (P : Status → Type 0) → P status.Done → P status.SourceFault → P status.HeapFull → P status.StackFull → P status.StepLimit → P status.MachineStop → (end : Option Exit) → P (end_status end)
by_end P done fault heap stack limit stop (Some (exit.Done face)) = done
by_end P done fault heap stack limit stop (Some (exit.Fault x)) = fault
by_end P done fault heap stack limit stop (Some (exit.Full true asked left)) = stack
by_end P done fault heap stack limit stop (Some (exit.Full false asked left)) = heap
by_end P done fault heap stack limit stop (Some (exit.Stop why at)) = stop
by_end P done fault heap stack limit stop None = limit

module _ {F S E : Type 0} (f : FolderOf F) (o : SinkOf S) (e : SinkOf E) (folder : Change F) (out : Change S) (err : Change E) where
  -- ---- run

  module _ (img : List ℕ) (bounds : Bounds) where
    run_refused_so : (r : Refusal) → IsIdle out → IsUnchanged f folder → ImageCause f folder img r → Says e err (refusal_line img r) → RunOutcome f o e folder out err img bounds (refusal_status r)
    run_refused_so refusal.Unread i u h n = (i, record { unchanged = u; noted = n; why = h })
    run_refused_so refusal.Long i u h n = (i, record { unchanged = u; noted = n; why = h })
    run_refused_so (refusal.Bad kind at) i u h n = (i, (kind, at, record { unchanged = u; noted = n; why = h }))
    run_refused_so refusal.Memory i u h n = (i, record { unchanged = u; noted = n; why = tt })
    run_refused_so (refusal.Source kind line column) i u h n = absurd h
    run_refused_so (refusal.Over fault) i u h n = absurd h
    run_refused_so refusal.Unbuilt i u h n = absurd h
    run_refused_so refusal.Unkept i u h n = absurd h

    pub run_refused : (r : Refusal) (ended : Status) → IsIdle out → IsUnchanged f folder → ImageCause f folder img r → ended ≡ refusal_status r → Says e err (refusal_line img r) → RunOutcome f o e folder out err img bounds ended
    run_refused r ended i u h is n = subst (λ (s : Status). RunOutcome f o e folder out err img bounds s) (sym is) (run_refused_so r i u h n)

    module _ (same : IsUnchanged f folder) (loaded : Loaded) (h : IsFetchedProgram f folder img bounds.sizes loaded) where
      answer_is : answer_on loaded bounds.steps ≡ answer h.image bounds.sizes bounds.steps
      answer_is = ap (λ (l : Loaded). answer_on l bounds.steps) h.fresh_is

      ran : (ended : Status) → IsAnswered o e out err (answer h.image bounds.sizes bounds.steps) ended → IsRun f o e folder out err img bounds ended
      ran ended a = record { bytes = h.fetched.bytes; image = h.image; given = h.fetched.given; spelled = h.fetched.spelled; unchanged = same; due = a }

      run_cut : IsUnwritten o e out err (answer h.image bounds.sizes bounds.steps) → RunOutcome f o e folder out err img bounds status.WriteFault
      run_cut u = record { bytes = h.fetched.bytes; image = h.image; given = h.fetched.given; spelled = h.fetched.spelled; unchanged = same; due = u }

      abbrev RunsTo : Status → Type 0
      RunsTo s = IsAnswered o e out err (answer h.image bounds.sizes bounds.steps) s → RunOutcome f o e folder out err img bounds s

      pub reported : (ended : Status) → Reports o e out err (answer_on loaded bounds.steps) ended → RunOutcome f o e folder out err img bounds ended
      reported ended r =
          ⊎_elim
          (λ a. subst RunsTo a.status_is (by_end RunsTo (ran status.Done) (ran status.SourceFault) (ran status.HeapFull) (ran status.StackFull) (ran status.StepLimit) (ran status.MachineStop) (run h.image bounds.sizes bounds.steps).end) a)
          (λ u. subst (λ (s : Status). RunOutcome f o e folder out err img bounds s) (sym u.1) (run_cut u.0))
          (subst (λ (x : Answer). Reports o e out err x ended) answer_is r)

  -- ---- check

  module _ (src : List ℕ) where
    check_refused_so : (r : Refusal) → IsIdle out → IsUnchanged f folder → CheckCause f folder src r → Says e err (refusal_line src r) → CheckOutcome f o e folder out err src (refusal_status r)
    check_refused_so refusal.Unread i u h n = (i, record { unchanged = u; noted = n; why = h })
    check_refused_so refusal.Long i u h n = (i, record { unchanged = u; noted = n; why = h })
    check_refused_so (refusal.Source kind line column) i u h n = (i, (kind, line, column, record { unchanged = u; noted = n; why = h }))
    check_refused_so (refusal.Over fault) i u h n = (i, (fault, record { unchanged = u; noted = n; why = h }))
    check_refused_so (refusal.Bad kind at) i u h n = absurd h
    check_refused_so refusal.Unbuilt i u h n = absurd h.2
    check_refused_so refusal.Unkept i u h n = absurd h
    check_refused_so refusal.Memory i u h n = (i, record { unchanged = u; noted = n; why = tt })

    pub check_refused : (r : Refusal) (ended : Status) → IsIdle out → IsUnchanged f folder → CheckCause f folder src r → ended ≡ refusal_status r → Says e err (refusal_line src r) → CheckOutcome f o e folder out err src ended
    check_refused r ended i u h is n = subst (λ (s : Status). CheckOutcome f o e folder out err src s) (sym is) (check_refused_so r i u h n)

    module _ (same : IsUnchanged f folder) (counts : Counts) (h : IsFetchedCounts f folder src counts) where
      counts_are : printed (counts_line counts.nodes counts.weight) ≡ counts_answer h.counted.unit
      counts_are =
          ap (λ (n : ℕ). printed (counts_line n counts.weight)) h.counted.nodes_are
          ∙ ap (λ (n : ℕ). printed (counts_line (most_nodes h.counted.unit) n)) h.counted.weight_is

      told : (IsDue : UnitCore → Type 0) → IsDue h.counted.unit → OfCore f o e folder out err src IsDue
      told IsDue due = record { text = h.text; unit = h.counted.unit; given = h.given; core = h.counted.core; within = h.counted.within; unchanged = same; due = due }

      abbrev ChecksTo : Status → Type 0
      ChecksTo s = IsAnswered o e out err (counts_answer h.counted.unit) s → CheckOutcome f o e folder out err src s

      checked_done : ChecksTo status.Done
      checked_done a = told (λ unit. IsAnswered o e out err (counts_answer unit) status.Done) a

      check_cut : IsUnwritten o e out err (counts_answer h.counted.unit) → CheckOutcome f o e folder out err src status.WriteFault
      check_cut u = told (λ unit. IsUnwritten o e out err (counts_answer unit)) u

      pub checked : (ended : Status) → Reports o e out err (printed (counts_line counts.nodes counts.weight)) ended → CheckOutcome f o e folder out err src ended
      checked ended r =
          ⊎_elim
          (λ a. subst ChecksTo a.status_is checked_done a)
          (λ u. subst (λ (s : Status). CheckOutcome f o e folder out err src s) (sym u.1) (check_cut u.0))
          (subst (λ (x : Answer). Reports o e out err x ended) counts_are r)

  -- ---- list

  module _ (img : List ℕ) where
    list_refused_so : (r : Refusal) → IsIdle out → IsUnchanged f folder → ImageCause f folder img r → Says e err (refusal_line img r) → ListOutcome f o e folder out err img (refusal_status r)
    list_refused_so refusal.Unread i u h n = (i, record { unchanged = u; noted = n; why = h })
    list_refused_so refusal.Long i u h n = (i, record { unchanged = u; noted = n; why = h })
    list_refused_so (refusal.Bad kind at) i u h n = (i, (kind, at, record { unchanged = u; noted = n; why = h }))
    list_refused_so refusal.Memory i u h n = (i, record { unchanged = u; noted = n; why = tt })
    list_refused_so (refusal.Source kind line column) i u h n = absurd h
    list_refused_so (refusal.Over fault) i u h n = absurd h
    list_refused_so refusal.Unbuilt i u h n = absurd h
    list_refused_so refusal.Unkept i u h n = absurd h

    pub list_refused : (r : Refusal) (ended : Status) → IsIdle out → IsUnchanged f folder → ImageCause f folder img r → ended ≡ refusal_status r → Says e err (refusal_line img r) → ListOutcome f o e folder out err img ended
    list_refused r ended i u h is n = subst (λ (s : Status). ListOutcome f o e folder out err img s) (sym is) (list_refused_so r i u h n)

    module _ (same : IsUnchanged f folder) (text : List ℕ) (h : IsFetchedListing f folder img text) where
      shown : (IsAnswered o e out err (listing_answer h.image) status.Done) → ListOutcome f o e folder out err img status.Done
      shown a = record { bytes = h.fetched.bytes; image = h.image; given = h.fetched.given; spelled = h.fetched.spelled; unchanged = same; due = a }

      list_cut : IsUnwritten o e out err (listing_answer h.image) → ListOutcome f o e folder out err img status.WriteFault
      list_cut u = record { bytes = h.fetched.bytes; image = h.image; given = h.fetched.given; spelled = h.fetched.spelled; unchanged = same; due = u }

      abbrev ListsTo : Status → Type 0
      ListsTo s = IsAnswered o e out err (listing_answer h.image) s → ListOutcome f o e folder out err img s

      pub listed : (ended : Status) → Reports o e out err (printed text) ended → ListOutcome f o e folder out err img ended
      listed ended r =
          ⊎_elim
          (λ a. subst ListsTo a.status_is shown a)
          (λ u. subst (λ (s : Status). ListOutcome f o e folder out err img s) (sym u.1) (list_cut u.0))
          (subst (λ (l : List ℕ). Reports o e out err (printed l) ended) h.listed r)

  -- ---- go

  module _ (src img : List ℕ) (bounds : Bounds) where
    go_refused_so : (r : Refusal) → IsIdle out → IsUnchanged f folder → CompileCause f folder src r → Says e err (refusal_line src r) → GoOutcome f o e folder out err src img bounds (refusal_status r)
    go_refused_so refusal.Unread i u h n = (i, compile_refused_so f e folder err src img refusal.Unread u h n)
    go_refused_so refusal.Long i u h n = (i, compile_refused_so f e folder err src img refusal.Long u h n)
    go_refused_so (refusal.Source kind line column) i u h n = (i, compile_refused_so f e folder err src img (refusal.Source kind line column) u h n)
    go_refused_so (refusal.Over fault) i u h n = (i, compile_refused_so f e folder err src img (refusal.Over fault) u h n)
    go_refused_so (refusal.Bad kind at) i u h n = absurd h
    go_refused_so refusal.Unbuilt i u h n = (i, compile_refused_so f e folder err src img refusal.Unbuilt u h n)
    go_refused_so refusal.Unkept i u h n = inr (i, compile_refused_so f e folder err src img refusal.Unkept u h n)
    go_refused_so refusal.Memory i u h n = (i, compile_refused_so f e folder err src img refusal.Memory u h n)

    pub go_refused : (r : Refusal) (ended : Status) → IsIdle out → IsUnchanged f folder → CompileCause f folder src r → ended ≡ refusal_status r → Says e err (refusal_line src r) → GoOutcome f o e folder out err src img bounds ended
    go_refused r ended i u h is n = subst (λ (s : Status). GoOutcome f o e folder out err src img bounds s) (sym is) (go_refused_so r i u h n)

    module _ (sized : AreSizes bounds.sizes) (bytes : List ℕ) (compiled : IsCompiled f folder src img bytes) (loaded : Loaded) (h : IsProgram bytes bounds.sizes loaded) where
      go_answer_is : answer_on loaded bounds.steps ≡ answer h.image bounds.sizes bounds.steps
      go_answer_is = ap (λ (l : Loaded). answer_on l bounds.steps) h.fresh_is

      kept_and_ran : (ended : Status) → IsAnswered o e out err (answer h.image bounds.sizes bounds.steps) ended → IsKeptAndRun f o e folder out err src img bounds ended
      kept_and_ran ended a = record { bytes = bytes; image = h.image; compiled = compiled; spelled = h.spelled; due = a }

      go_cut : IsUnwritten o e out err (answer h.image bounds.sizes bounds.steps) → GoOutcome f o e folder out err src img bounds status.WriteFault
      go_cut u = inl (record { bytes = bytes; image = h.image; compiled = compiled; spelled = h.spelled; due = u })

      abbrev GoesTo : Status → Type 0
      GoesTo s = IsAnswered o e out err (answer h.image bounds.sizes bounds.steps) s → GoOutcome f o e folder out err src img bounds s

      -- by how the run has ended
      went_at : (end : Option Exit) → (run h.image bounds.sizes bounds.steps).end ≡ end → GoesTo (end_status end)
      unfolding kept_and_ran
      went_at (Some (exit.Done face)) is a = kept_and_ran status.Done a
      went_at (Some (exit.Fault x)) is a = kept_and_ran status.SourceFault a
      went_at (Some (exit.Full true asked left)) is a =
          record { ran = kept_and_ran status.StackFull a; full = full_for compiled.text bytes h.image bounds.sizes bounds.steps compiled.faithful h.spelled sized.heap sized.stack true asked left is }
      went_at (Some (exit.Full false asked left)) is a =
          record { ran = kept_and_ran status.HeapFull a; full = full_for compiled.text bytes h.image bounds.sizes bounds.steps compiled.faithful h.spelled sized.heap sized.stack false asked left is }
      went_at (Some (exit.Stop why at)) is a = absurd (never_stops compiled.text bytes h.image bounds.sizes bounds.steps compiled.faithful h.spelled sized.heap sized.stack why at is)
      went_at None is a = kept_and_ran status.StepLimit a

      pub went : (ended : Status) → Reports o e out err (answer_on loaded bounds.steps) ended → GoOutcome f o e folder out err src img bounds ended
      went ended r =
          ⊎_elim
          (λ a. subst GoesTo a.status_is (went_at (run h.image bounds.sizes bounds.steps).end refl) a)
          (λ u. subst (λ (s : Status). GoOutcome f o e folder out err src img bounds s) (sym u.1) (go_cut u.0))
          (subst (λ (x : Answer). Reports o e out err x ended) go_answer_is r)
