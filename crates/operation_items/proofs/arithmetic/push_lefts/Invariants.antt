use Rattle.std.proofs.Common.{◌≡◌, ◌++◌}
use Rattle.lap_items.specs.Arithmetic.{left_shift, repeated}
use Rattle.operation_items.proofs.arithmetic.push_lefts.Given as goal

abbrev pub invariant-eights : goal.invariant-eights
invariant-eights l = l.items.items ≡ l.initial.items.items ++ repeated (left_shift l.over 8) l.eight
