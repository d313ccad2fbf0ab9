use Rattle.std.proofs.Common.{◌∙◌, sym, ap, subst}
use Rattle.t_expand.specs.Driving.{Inside}
use Rattle.t_expand.specs.Tallies.{fresh_done}
use Rattle.t_expand.proofs.TallyLemmas.{takes_none, takes_again}
use Rattle.t_expand.proofs.StepLemmas.{inside_bound}
use Rattle.t_expand.proofs.driver_state.Expansion.bind_part.Goals as goal

pub returns-then-state-eq0-clause-inside : goal.returns-then-state-eq0-clause-inside
returns-then-state-eq0-clause-inside c at around last bound s i b =
    subst (λ l. Inside c.args.self.now.shared.names c.args.self.now.scope at around l c.args.state.now.bound) (sym (rw c.in-AsBefore.is at b)) i

pub returns-then-binds_again-clause-inside : goal.returns-then-binds_again-clause-inside
returns-then-binds_again-clause-inside c at around last bound s i b =
    subst (λ l. Inside c.args.self.now.shared.names c.args.self.now.scope at around l c.args.state.now.bound) (sym (rw c.in-AsBefore.is at b)) i

pub returns-then-state-eq0-clause-takes : goal.returns-then-state-eq0-clause-takes
returns-then-state-eq0-clause-takes c =
    takes_none c.args.state.now.shape (fresh_done c.args.done.now) c.args.state.now.bound c.args.self.now.next (c.if-state-eq0.true)

pub returns-then-binds_again-clause-takes : goal.returns-then-binds_again-clause-takes
returns-then-binds_again-clause-takes c =
    takes_again c.args.state.now.shape (fresh_done c.args.done.now) c.args.state.now.bound c.args.self.now.next (sym c.binds_again.ensures ∙ c.if-binds_again.true)

pub returns-in_ok-bind_all-in-Names-clause-inside : goal.returns-in_ok-bind_all-in-Names-clause-inside
returns-in_ok-bind_all-in-Names-clause-inside c at around last bound s i b =
    let names = c.in-Names.names in
    let rest = c.in_ok-vars-in-Names.ensures.rest in
    let all = c.in_ok-bind_all-in-Names.ensures in
    inside_bound c.args.self.now.shared.names c.args.self.now.scope c.variables_for.new.self.scope c.bind_all.new.scope at around last bound c.args.state.now.bound c.in_ok-vars-in-Names.vars
    names.items c.as_slice.result.now s i (ap (λ e. e.scope.locals) rest ∙ c.unbind_all.ensures.locals) (ap (λ e. e.scope.table) rest ∙ c.unbind_all.ensures.table)
    (rw c.in-Names.is at b) c.as_slice.ensures.value all.names all.vars all.outer all.table (c.in_ok-vars-in-Names.ensures.count ∙ c.in-Ok.ensures.1 ∙ c.len.ensures ∙ names.ok.0)
