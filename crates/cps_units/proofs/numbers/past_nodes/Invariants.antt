use Rattle.std.proofs.Common.{take}
use Rattle.cps_units.specs.Numbers.{ArePastNodes}
use Rattle.cps_units.proofs.numbers.past_nodes.Given as goal

abbrev pub invariant-nodes : goal.invariant-nodes
invariant-nodes l = ArePastNodes l.least l.past (take l.node-index l.nodes)
