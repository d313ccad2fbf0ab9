use Rattle.std.proofs.Common.{◌≡◌, take}
use Rattle.lap_items.specs.Moves.{each_pair, moving}
use Rattle.lap_emit.proofs.moves.moves_to.Given as goal

abbrev pub invariant-pairs : goal.invariant-pairs
invariant-pairs l = l.moves.items ≡ each_pair (moving l.homes) (take l.n l.args) (take l.n l.places)
