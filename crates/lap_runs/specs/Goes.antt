-- Runs of items through several places.
use Rattle.std.specs.Prelude.{◌≡◌, ℕ, ◌+◌, List, None}
use Rattle.program_runs.specs.Follows.{after}
use Rattle.m68020_step.specs.Step.{State}
use Rattle.m68020_asm.specs.Run.{Program}
use Rattle.machine_services.specs.Runs.{Progress}
use Rattle.item_runs.specs.Runs.{item_machine}

-- From one state the items come to another in so many instructions, whatever was put before, and put nothing.
pub record Goes (names : List (List ℕ)) (p : Program) (s t : State) (count : ℕ) : Type 0 where
  pub runs : (q : Progress) → q.state ≡ s → q.end ≡ None
      → after (item_machine names p).step count q ≡ record { state = t; output = q.output; end = None; instructions = q.instructions + count }
