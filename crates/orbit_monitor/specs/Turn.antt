-- What a service and an instruction come to, as the monitor sees it.
use Rattle.std.specs.Prelude.{◌≡◌, ℕ, List, [], ◌++◌, Option, Some, None}
use Rattle.m68020_step.specs.declared.registers.Why.TheVariants.{BadService}
use Rattle.machine_services.specs.declared.exit.Exit.TheVariants as exit
use Rattle.orbit_monitor.specs.declared.services.Outcome.{Outcome}
use Rattle.orbit_monitor.specs.declared.services.Outcome.TheVariants as outcome
use Rattle.machine_services.specs.Services.{Served, Puts, Exits, Bad}
use Rattle.machine_services.specs.Runs.{act}
use Rattle.orbit_monitor.specs.Answering.{Loaded, last_after, after, IsNamed, AsksToPut}

-- of what was put only the last byte is kept
abbrev pub outcome_of : Served → Outcome
outcome_of (Puts bytes) = outcome.Put (last_after None bytes)
outcome_of (Exits how) = outcome.Exit how
outcome_of Bad = outcome.Bad

abbrev pub put_of : Served → List ℕ
put_of (Puts bytes) = bytes
put_of (Exits how) = []
put_of Bad = []

abbrev pub OutcomeIsNamed : List (List ℕ) → Outcome → Type 0
OutcomeIsNamed names (outcome.Put last) = Unit {0}
OutcomeIsNamed names (outcome.Exit how) = IsNamed names how
OutcomeIsNamed names outcome.Bad = Unit {0}

abbrev pub or_else : Option ℕ → Option ℕ → Option ℕ
or_else (Some byte) last = Some byte
or_else None last = last

-- a loaded program after the outcome of a TRAP at an address
abbrev pub settled : Loaded → Outcome → ℕ → Loaded
settled b (outcome.Put last) at = record b { last = or_else last b.last }
settled b (outcome.Exit how) at = record b { end = Some how }
settled b outcome.Bad at = record b { end = Some (exit.Stop BadService at) }

-- a put of the service failed behind a front of its bytes
pub record FailsIn {S : Type 0} (took : S → List ℕ → S → Type 0) (served : Served) (old new : S) : Type 0 where
  pub bytes : List ℕ
  pub is : served ≡ Puts bytes
  pub front : List ℕ
  pub rest : List ℕ
  pub due : bytes ≡ front ++ rest
  pub given : took old front new

-- so it was with an instruction, behind whose service the program stands
pub record FailsInTurn {S : Type 0} (took : S → List ℕ → S → Type 0) (b c : Loaded) (old new : S) : Type 0 where
  pub asks : AsksToPut b.names b.state
  pub front : List ℕ
  pub rest : List ℕ
  pub due : (act b.names b.state).output ≡ front ++ rest
  pub given : took old front new
  pub goes_on : (act b.names b.state).end ≡ None
  pub loaded : c ≡ record (after b (act b.names b.state)) { last = b.last }
