use Rattle.std.proofs.Common.{ap}
use Rattle.t_expand.proofs.StepLemmas.{enters_opened}
use Rattle.t_expand.proofs.TallyLemmas.{enters_tallied_opened}
use Rattle.t_expand.proofs.driver_state.Expansion.enter.Goals as goal

pub returns-clause-under : goal.returns-clause-under
returns-clause-under c root f left others distinct all first u =
    let rest = c.in_ok-vars.ensures.rest in
    enters_opened root c.args.self.now c.bind_part.new.self c.open_node.new.self c.args.frames.now c.set_waiting.new.self c.open_node.new.frames others f left c.args.part c.in-Some.state.now c.in_ok-vars.vars
    c.is_tail_part-tail.result distinct all first u c.in-Some.ensures
    (record { forms = ap (λ e. e.forms) rest; shared = ap (λ e. e.shared) rest; nodes = ap (λ e. e.nodes) rest; first = ap (λ e. e.first) rest }) c.in_ok-vars.ensures.inside c.set_waiting.ensures
    c.in_ok-open_node.ensures.grows c.in_ok-open_node.ensures.scope c.in_ok-open_node.ensures.opens

pub returns-clause-tallied : goal.returns-clause-tallied
returns-clause-tallied c before t =
    let rest = c.in_ok-vars.ensures.rest in
    enters_tallied_opened before c.args.self.now c.bind_part.new.self c.open_node.new.self c.args.frames.now c.set_waiting.new.self c.open_node.new.frames c.in-Some.state.now c.done-done.result.now
    c.in_ok-vars.vars c.args.part.form c.is_tail_part-tail.result c.in-Some.ensures c.done-done.ensures (ap (λ e. e.nodes) rest) (ap (λ e. e.shared) rest) (ap (λ e. e.first) rest)
    c.in_ok-vars.ensures.takes c.set_waiting.ensures c.in_ok-open_node.ensures.keeps c.in_ok-open_node.ensures.opens t
