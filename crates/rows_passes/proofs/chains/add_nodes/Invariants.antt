use Rattle.std.proofs.Common.{◌≡◌, ◌+◌}
use Rattle.use_chain.specs.Chains.{node_count}
use Rattle.rows_passes.proofs.chains.add_nodes.Given as goal

abbrev pub invariant-nodes : goal.invariant-nodes
invariant-nodes l = record { nodes : node_count l.web ≡ node_count l.initial.web + l.counter; chains : l.web.chains ≡ l.initial.web.chains; spare : l.web.spare ≡ l.initial.web.spare }
