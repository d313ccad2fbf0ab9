use Rattle.std.proofs.Common.{subst, ◌∷◌, []}
use Rattle.std.proofs.lemmas.List.{take_all}
use Rattle.cps_units.specs.Numbers.{ArePastNodes}
use Rattle.cps_units.proofs.Walked.{nodes_none, nodes_step}
use Rattle.cps_units.proofs.numbers.past_nodes.Goals as goal

pub nodes-init : goal.nodes-init
nodes-init c = nodes_none c.args.least

pub nodes-preserved : goal.nodes-preserved
nodes-preserved c =
    nodes_step c.args.least c.nodes.past c.in_ok-past.past c.args.nodes.now c.nodes.node-index c.node-item.result c.nodes-test.true c.nodes.invariant
    (subst (λ n. ArePastNodes c.nodes.past c.in_ok-past.past (n ∷ [])) c.node-item.is c.in_ok-past.ensures)

pub returns : goal.returns
returns c = subst (ArePastNodes c.args.least c.nodes.past) (take_all c.nodes.node-index c.args.nodes.now c.nodes-test.false) c.nodes.invariant
