use Rattle.std.proofs.Common.{◌≡◌, ◌≤◌, take, sum_by}
use Rattle.std.specs.Prelude.{◌^◌}
use Rattle.t_core.specs.Counts.{Pairs, node_count}
use Rattle.core_size.specs.Sizes.{KnowsSizes}
use Rattle.core_size.proofs.sizes.nodes_size.Given as goal

abbrev pub invariant-nodes : goal.invariant-nodes
invariant-nodes l = record {
  few : l.total ≤ 2 ^ 31;
  is : (pairs : Pairs) → KnowsSizes l.sizes pairs → l.total ≡ sum_by (node_count pairs) (take l.node-index l.nodes);
}
