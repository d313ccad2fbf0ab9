-- Laws of services, and of the run with them.
use Rattle.std.specs.Prelude.{◌≡◌, ℕ, ◌+◌, ◌≤◌, List, Some, None}
use Rattle.program_runs.specs.Runs.{IsPrefix}
use Rattle.program_runs.specs.Follows.{GoesOn, runs}
use Rattle.program_runs.specs.LawsOfKeeps.{CountsSteps}
use Rattle.m68020_step.specs.Step.{State}
use Rattle.machine_services.specs.declared.exit.Exit.{Exit}
use Rattle.word_faces.specs.Faces.{Reader}
use Rattle.word_faces.specs.Laws.{ReadsAlike}
use Rattle.machine_services.specs.Services.{Served, Bad, service}
use Rattle.machine_services.specs.Runs.{Progress, start_of, run_from}
use Rattle.machine_services.specs.Observed.{observed_from, service_machine}

-- a run goes on from where a shorter one came to
abbrev pub RunsAddUp : Type 0
RunsAddUp = (names : List (List ℕ)) (p : Progress) (m k : ℕ) → run_from names p (m + k) ≡ run_from names (run_from names p m) k

abbrev pub EndedStays : Type 0
EndedStays = (names : List (List ℕ)) (p : Progress) (m : ℕ) (e : Exit) → p.end ≡ Some e → run_from names p m ≡ p

abbrev pub OutputGrows : Type 0
OutputGrows = (names : List (List ℕ)) (p : Progress) (m : ℕ) → IsPrefix p.output (run_from names p m).output

abbrev pub InstructionsWithin : Type 0
InstructionsWithin = (names : List (List ℕ)) (p : Progress) (m : ℕ) → (run_from names p m).instructions ≤ p.instructions + m

-- where a run goes on, as many instructions ran as the bound says
abbrev pub GoingCounts : Type 0
GoingCounts = (names : List (List ℕ)) (p : Progress) (m : ℕ) → (run_from names p m).end ≡ None → (run_from names p m).instructions ≡ p.instructions + m

-- ---- what is seen

-- the run from a state is that of the machine
abbrev pub ObservedIsMachine : Type 0
ObservedIsMachine = (names : List (List ℕ)) (s : State) → runs (service_machine names) (start_of s) ≡ observed_from names s

-- what is seen of it only goes on
abbrev pub ObservedGoesOn : Type 0
ObservedGoesOn = (names : List (List ℕ)) (s : State) → GoesOn (observed_from names s)

-- and its moves are its steps
abbrev pub ObservedCounts : Type 0
ObservedCounts = (names : List (List ℕ)) (s : State) → CountsSteps (observed_from names s)

-- ---- readers

-- where the operands of the first service are of their kind, the second is the same
abbrev pub IsDoneAlike : Served → Served → Type 0
IsDoneAlike s t = (s ≡ Bad → ⊥) → t ≡ s

abbrev pub ServicesReadAlike : Type 0
ServicesReadAlike =
    (a b : Reader) → ReadsAlike a b → (names : List (List ℕ)) (vector d0 d1 d2 : ℕ) →
    IsDoneAlike (service a names vector d0 d1 d2) (service b names vector d0 d1 d2)
