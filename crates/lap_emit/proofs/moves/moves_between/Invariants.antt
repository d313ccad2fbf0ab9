use Rattle.std.proofs.Common.{◌≡◌, take}
use Rattle.lap_items.specs.Moves.{each_pair}
use Rattle.lap_items.specs.Program.{single_move}
use Rattle.lap_emit.proofs.moves.moves_between.Given as goal

abbrev pub invariant-pairs : goal.invariant-pairs
invariant-pairs l = l.moves.items ≡ each_pair single_move (take l.n l.sources) (take l.n l.places)
