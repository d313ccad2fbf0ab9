use Rattle.std.proofs.Common.{◌≡◌, ◌≤◌, take, sum_by}
use Rattle.std.specs.Prelude.{◌^◌}
use Rattle.t_core.specs.Counts.{method_nodes}
use Rattle.core_size.proofs.sizes.methods_size.Given as goal

abbrev pub invariant-methods : goal.invariant-methods
invariant-methods l = (l.total ≡ sum_by method_nodes (take l.method-index l.methods)) × (l.total ≤ 2 ^ 31)
