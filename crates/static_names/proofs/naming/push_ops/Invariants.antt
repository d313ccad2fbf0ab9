use Rattle.std.proofs.Common.{◌≡◌, ◌++◌, take}
use Rattle.std.specs.List.{flat_map}
use Rattle.static_names.specs.Named.{of_op}
use Rattle.static_names.proofs.naming.push_ops.Given as goal

abbrev pub invariant-loop-op : goal.invariant-loop-op
invariant-loop-op l = l.things.items ≡ l.fn.things.items ++ flat_map of_op (take l.op-index l.ops)
