use Rattle.std.proofs.Common.{◌≡◌, ◌++◌, take}
use Rattle.std.specs.Prelude.{map}
use Rattle.lap_items.specs.Moves.{one_item}
use Rattle.lap_emit.proofs.moves.push_moved.Given as goal

abbrev pub invariant-moves : goal.invariant-moves
invariant-moves l = l.items.items ≡ l.initial.items.items ++ map one_item (take l.at l.done)
