use Rattle.std.proofs.Common.{◌≡◌, ◌++◌}
use Rattle.lap_items.specs.Arithmetic.{right_shift, repeated}
use Rattle.operation_items.proofs.arithmetic.push_rights.Given as goal

abbrev pub invariant-eights : goal.invariant-eights
invariant-eights l = l.items.items ≡ l.initial.items.items ++ repeated (right_shift 8) l.eight
