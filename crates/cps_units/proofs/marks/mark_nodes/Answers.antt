use Rattle.std.proofs.Common.{◌||◌, ap, ◌∙◌}
use Rattle.std.specs.List.{list_any}
use Rattle.std.proofs.lemmas.List.{take_all}
use Rattle.t_meaning.specs.Costs.{assigns}
use Rattle.cps_walk.specs.Marked.{is_marked}
use Rattle.cps_walk.proofs.MarkLemmas.{or_nothing}
use Rattle.cps_units.proofs.Walked.{then_any}
use Rattle.cps_units.proofs.marks.mark_nodes.Goals as goal

pub nodes-init : goal.nodes-init
nodes-init c = λ v. or_nothing (is_marked c.args.marks.now.items v.0)

pub nodes-preserved : goal.nodes-preserved
nodes-preserved c = λ v.
    then_any (assigns v) c.args.nodes.now c.nodes.node-index c.node-item.result (is_marked c.args.marks.now.items v.0) (is_marked c.nodes.marks.items v.0) (is_marked c.mark_node.new.marks.items v.0) c.nodes-test.true
    (c.in_ok-mark_node.ensures v ∙ ap (λ n. is_marked c.nodes.marks.items v.0 || assigns v n) c.node-item.is) (c.nodes.invariant v)

pub returns : goal.returns
returns c = λ v. c.nodes.invariant v ∙ ap (λ ns. is_marked c.args.marks.now.items v.0 || list_any (assigns v) ns) (take_all c.nodes.node-index c.args.nodes.now c.nodes-test.false)
