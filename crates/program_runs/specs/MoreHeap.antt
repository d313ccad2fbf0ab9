-- Runs that differ in the words of heap alone.
use Rattle.std.specs.Prelude.{◌≡◌, ◌≤◌}
use Rattle.program_runs.specs.Runs.{Observation}

-- the same but for the words of heap, of which the second has no fewer
pub record IsAtMost (x y : Observation) : Type 0 where
  pub output : y.output ≡ x.output
  pub end : y.end ≡ x.end
  pub heap : x.heap ≤ y.heap
  pub waiting : y.waiting ≡ x.waiting
  pub moves : y.moves ≡ x.moves
