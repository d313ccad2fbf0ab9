-- A program in the monitor, and what a call that runs it answers.
use Rattle.std.specs.Prelude.{◌≡◌, ℕ, zero, suc, ◌+◌, ◌<◌, List, [], ◌∷◌, ◌++◌, length, Option, Some, None}
use Rattle.t_base.specs.declared.faults.Face.{Face}
use Rattle.t_base.specs.declared.faults.Face.TheVariants as face
use Rattle.image_file.specs.Grammar.{Parts}
use Rattle.m68020_step.specs.declared.machine.Sizes.{Sizes}
use Rattle.m68020_step.specs.declared.machine.Step.{Step}
use Rattle.m68020_step.specs.declared.machine.Step.TheVariants as step
use Rattle.m68020_step.specs.Step.{State, step_of}
use Rattle.machine_services.specs.declared.exit.Exit.{Exit}
use Rattle.machine_services.specs.declared.exit.Exit.TheVariants as exit
use Rattle.orbit_monitor.specs.declared.end.End.{End}
use Rattle.orbit_monitor.specs.declared.end.End.TheVariants as answer
use Rattle.machine_services.specs.Services.{Served, Puts, Exits, Bad, serve}
use Rattle.machine_services.specs.Runs.{Progress, act, run_from}
use Rattle.orbit_monitor.specs.Run.{booted}

-- the names of the image, the machine, how the program ended, if it has, and the last byte that a service put
pub record Loaded : Type 0 where
  pub names : List (List ℕ)
  pub state : State
  pub end : Option Exit
  pub last : Option ℕ

-- at boot
abbrev pub fresh : Parts → Sizes → Loaded
fresh image sizes = record { names = image.names; state = booted image sizes; end = None; last = None }

-- The run of a loaded program, from where it is. That of a fresh one is the run of its image.
abbrev pub run_on : Loaded → ℕ → Progress
run_on b m = run_from b.names (record { state = b.state; output = []; end = b.end; instructions = 0 }) m

-- the last byte, where these are put after it
abbrev pub last_after : Option ℕ → List ℕ → Option ℕ
last_after last [] = last
last_after last (byte ∷ rest) = last_after (Some byte) rest

-- a loaded program after some progress
abbrev pub after : Loaded → Progress → Loaded
after b p = record { names = b.names; state = p.state; end = p.end; last = last_after b.last p.output }

-- how a program ended by an answer, if it has
abbrev pub exit_of : End → Option Exit
exit_of (answer.Done face) = Some (exit.Done face)
exit_of (answer.Fault fault) = Some (exit.Fault fault)
exit_of (answer.Full stack asked left) = Some (exit.Full stack asked left)
exit_of (answer.Stop why at) = Some (exit.Stop why at)
exit_of answer.Steps = None
exit_of answer.Sink = None

-- of an answer that blames the sink, a fact
abbrev pub IfSink : End → Type 0 → Type 0
IfSink answer.Sink p = p
IfSink answer.Steps p = Unit {0}
IfSink (answer.Done face) p = Unit {0}
IfSink (answer.Fault fault) p = Unit {0}
IfSink (answer.Full stack asked left) p = Unit {0}
IfSink (answer.Stop why at) p = Unit {0}

-- of every other answer, a fact
abbrev pub IfRan : End → Type 0 → Type 0
IfRan answer.Sink p = Unit {0}
IfRan answer.Steps p = p
IfRan (answer.Done face) p = p
IfRan (answer.Fault fault) p = p
IfRan (answer.Full stack asked left) p = p
IfRan (answer.Stop why at) p = p

-- a symbol's name is one of these
abbrev pub FaceIsNamed : List (List ℕ) → Face → Type 0
FaceIsNamed names (face.Symbol name) = name.0 < length names
FaceIsNamed names (face.Fix number) = Unit {0}
FaceIsNamed names (face.Char code) = Unit {0}
FaceIsNamed names face.Nil = Unit {0}
FaceIsNamed names face.True = Unit {0}
FaceIsNamed names (face.Kind kind) = Unit {0}

abbrev pub IsNamed : List (List ℕ) → Exit → Type 0
IsNamed names (exit.Done face) = FaceIsNamed names face
IsNamed names (exit.Fault fault) = Unit {0}
IsNamed names (exit.Full stack asked left) = Unit {0}
IsNamed names (exit.Stop why at) = Unit {0}

abbrev pub EndIsNamed : List (List ℕ) → Option Exit → Type 0
EndIsNamed names (Some how) = IsNamed names how
EndIsNamed names None = Unit {0}

abbrev pub AnswerIsNamed : List (List ℕ) → End → Type 0
AnswerIsNamed names (answer.Done face) = FaceIsNamed names face
AnswerIsNamed names (answer.Fault fault) = Unit {0}
AnswerIsNamed names (answer.Full stack asked left) = Unit {0}
AnswerIsNamed names answer.Steps = Unit {0}
AnswerIsNamed names (answer.Stop why at) = Unit {0}
AnswerIsNamed names answer.Sink = Unit {0}

-- ---- the services that put

-- the instruction at which the machine stands is a TRAP whose service puts these bytes
pub record AsksToPut (names : List (List ℕ)) (s : State) : Type 0 where
  pub vector : ℕ
  pub behind : State
  pub asked : step_of s ≡ (step.Service vector, behind)
  pub bytes : List ℕ
  pub puts : serve names behind vector ≡ Puts bytes

-- of a service, one piece or none
abbrev pub pieces_served : Served → ℕ
pieces_served (Puts bytes) = 1
pieces_served (Exits how) = 0
pieces_served Bad = 0

-- of an instruction: only a service puts
abbrev pub pieces_stepped : List (List ℕ) → Step × State → ℕ
pieces_stepped names (step.On, s) = 0
pieces_stepped names (step.Service vector, s) = pieces_served (serve names s vector)
pieces_stepped names (step.Stop why, s) = 0

abbrev pub pieces_next : List (List ℕ) → State → Option Exit → ℕ
pieces_next names s (Some how) = 0
pieces_next names s None = pieces_stepped names (step_of s)

-- how many of the first m instructions are services that put
abbrev pub pieces_within : Loaded → ℕ → ℕ
pieces_within b zero = 0
pieces_within b (suc m) = pieces_within b m + pieces_next b.names (run_on b m).state (run_on b m).end

-- A put failed: so many instructions ran and put all that was due, and then a service had a front of its bytes taken. The
-- program stands behind that service, whose bytes do not count as put.
pub record FailsAtPut {S : Type 0} (took : S → List ℕ → S → Type 0) (b : Loaded) (steps : ℕ) (c : Loaded) (old new : S) : Type 0 where
  pub before : ℕ
  pub within : before < steps
  pub going : (run_on b before).end ≡ None
  pub asks : AsksToPut b.names (run_on b before).state
  pub front : List ℕ
  pub rest : List ℕ
  pub due : (act b.names (run_on b before).state).output ≡ front ++ rest
  pub given : took old ((run_on b before).output ++ front) new
  pub goes_on : (run_on b (before + 1)).end ≡ None
  pub loaded : c ≡ record (after b (run_on b (before + 1))) { last = last_after b.last (run_on b before).output }
