use Rattle.std.proofs.Common.{◌≡◌, ◌++◌, take}
use Rattle.lap_items.specs.Moves.{each_pair, filling}
use Rattle.lap_emit.proofs.moves.push_fills.Given as goal

abbrev pub invariant-pairs : goal.invariant-pairs
invariant-pairs l = l.items.items ≡ l.initial.items.items ++ each_pair (filling l.homes) (take l.n l.args) (take l.n l.places)
