use Rattle.std.proofs.Common.{◌≡◌, ◌≤◌, length, take}
use Rattle.std.specs.List.{filter}
use Rattle.unit_conversion.specs.FirstLams.{has_default}
use Rattle.unit_conversion.proofs.first_lams.count_ops.Given as goal

abbrev pub invariant-loop-op : goal.invariant-loop-op
invariant-loop-op l = (l.count ≤ l.op-index) × (l.count ≡ length (filter has_default (take l.op-index l.ops)))
