use Rattle.std.proofs.Common.{◌≡◌, ◌++◌, take}
use Rattle.std.specs.List.{flat_map}
use Rattle.lap_items.specs.Operations.{op_items}
use Rattle.lap_emit.proofs.program.push_ops.Given as goal

abbrev pub invariant-loop-op : goal.invariant-loop-op
invariant-loop-op l = l.items.items ≡ l.initial.items.items ++ flat_map (op_items l.homes) (take l.op-index l.ops)
