-- Ways of the run of items that put bytes or end the run.
use Rattle.std.specs.Prelude.{◌≡◌, ℕ, ◌+◌, ◌≤◌, List, [], ◌++◌, Option, Some, None}
use Rattle.program_runs.specs.Runs.{End, Value, Faulted, Full, Broken}
use Rattle.program_runs.specs.Follows.{after}
use Rattle.word_ir.specs.State.{Setting, State as WordState}
use Rattle.word_ir.specs.Effects.{Effect, Binds, Stores, Takes, SetsTop, Puts, Turns, Enters, Ends}
use Rattle.word_ir.specs.Step.{changed}
use Rattle.m68020_step.specs.Step.{State}
use Rattle.m68020_asm.specs.declared.item.Item.{Item}
use Rattle.machine_services.specs.declared.exit.Exit.{Exit}
use Rattle.machine_services.specs.Runs.{Progress}
use Rattle.machine_services.specs.Observed.{end_of}
use Rattle.item_runs.specs.Runs.{item_machine}
use Rattle.lap_paths.specs.Paths.{Assembly, code, next_of}
use Rattle.lap_lines.specs.Arrives.{Behind}

-- From a state the items come to one of which Q holds, in some instructions but at most so many; they put these bytes and may end the run.
-- On the way no more of the heap is in use than at the end.
pub record Tells (a : Assembly) (n : ℕ) (t : State) (bytes : List ℕ) (end : Option Exit) (Q : State → Type 0) : Type 0 where
  pub count : ℕ
  pub few : count ≤ n
  pub some : 1 ≤ count
  pub to : State
  pub runs : (q : Progress) → q.state ≡ t → q.end ≡ None → after (item_machine a.names (code a)).step count q ≡ record { state = to; output = q.output ++ bytes; end = end; instructions = q.instructions + count }
  pub costs : (i : ℕ) → i ≤ count → (q : Progress) → q.state ≡ t → q.end ≡ None → next_of (after (item_machine a.names (code a)).step i q).state ≤ next_of to
  pub there : Q to

-- the run ends so, with as much of the heap in use
abbrev pub EndsSo : Assembly → WordState → State → ℕ → End → Type 0
EndsSo a s t n e = (how : Exit) × (end_of a.names how ≡ e) × Tells a n t [] (Some how) (λ u. next_of u ≡ s.next)

-- What the items come to where a service has this effect. A broken run doesn't come up; the other effects no service has.
abbrev pub Serves : Assembly → Setting → WordState → State → List Item → ℕ → Effect → Type 0
Serves a m s t items n (Puts bytes) = Tells a n t bytes None (Behind a m (changed s (Puts bytes)) items)
Serves a m s t items n (Ends (Value shown)) = EndsSo a s t n (Value shown)
Serves a m s t items n (Ends (Faulted fault)) = EndsSo a s t n (Faulted fault)
Serves a m s t items n (Ends (Full stack asked left)) = EndsSo a s t n (Full stack asked left)
Serves a m s t items n (Ends Broken) = Unit {0}
Serves a m s t items n (Binds to x) = Unit {0}
Serves a m s t items n (Stores at x) = Unit {0}
Serves a m s t items n (Takes to bytes) = Unit {0}
Serves a m s t items n (SetsTop top) = Unit {0}
Serves a m s t items n (Turns block) = Unit {0}
Serves a m s t items n (Enters block env) = Unit {0}
