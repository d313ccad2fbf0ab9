use Rattle.std.proofs.Common.{◌≢◌, ◌∷◌, ◌∙◌, refl, sym, ap, subst, AllPairs}
use Rattle.t_expand.specs.Driving.{Root, AreUnder}
use Rattle.t_expand.specs.Tallies.{Tallied, roots_of, reserved}
use Rattle.t_expand.proofs.StepLemmas.{begins}
use Rattle.t_expand.proofs.TallyLemmas.{begins_tallied}
use Rattle.t_expand.proofs.driver_state.Expansion.expand_form.Goals as goal

pub returns-clause-expands : goal.returns-clause-expands
returns-clause-expands c d around distinct held scope =
    let root : Root = record { at = c.args.self.now.scope; around = around; form = d; first = c.args.self.now.first } in
    let call = c.in_ok-open_node.ensures in
    let opened = call.opens in
    let first = begins root c.args.self.now c.open_node.new.self opened.frame (opened.opens d around distinct held scope) call.scope refl refl opened.tail_is in
    let end = c.in_ok-root.ensures.end root (subst (λ n. AllPairs (λ a b. a ≢ b) n) (sym call.grows.shared.names) distinct)
    (subst (λ l. AreUnder root c.open_node.new.self l) (sym (opened.put ∙ ap (λ l. opened.frame ∷ l) c.new-frames.ensures)) first) in
    record { scope = end.scope; means = end.made; known = end.known; least = end.least; kept = end.kept }

pub returns-clause-tallied : goal.returns-clause-tallied
returns-clause-tallied c before t =
    let call = c.in_ok-open_node.ensures in
    let opened = call.opens in
    c.in_ok-root.ensures.tallied before
    (subst (λ l. Tallied before c.open_node.new.self (roots_of l) (reserved l)) (sym (opened.put ∙ ap (λ l. opened.frame ∷ l) c.new-frames.ensures))
    (begins_tallied before c.args.self.now c.open_node.new.self opened.frame call.keeps opened.none_done t))
