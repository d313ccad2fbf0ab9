use Rattle.std.proofs.Common.{◌≡◌, ◌≤◌, length, take}
use Rattle.std.specs.List.{filter}
use Rattle.cps_walk.proofs.parts.count_defaults.Given as goal

abbrev pub invariant-loop-op : goal.invariant-loop-op
invariant-loop-op l = (l.count ≤ l.op-index) × (l.count ≡ length (filter (λ o. o.default) (take l.op-index l.ops)))
