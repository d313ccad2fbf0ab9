use Rattle.std.proofs.Common.{◌≡◌, refl}
use Rattle.t_forms.specs.Held.{vars_of}
use Rattle.expansion.specs.Meaning.{top_scope}
use Rattle.t_expand.proofs.FirstLemmas.{first_of_expands}
use Rattle.t_expand.proofs.GrowingLemmas.{root_means}
use Rattle.t_expand.proofs.KeepingLemmas.{keeps_grows, no_vars}
use Rattle.t_expand.proofs.UnitTallies.{before_of, starts, root_tallied}
use Rattle.t_expand.proofs.driver_state.Expansion.expand_root.Goals as goal

pub returns-clause-kept : goal.returns-clause-kept
returns-clause-kept c d defined ready held =
    let x = c.in_ok-root.ensures.expands d (top_scope defined) ready.distinct held ready.scope in
    let k = keeps_grows _ _ c.in_ok-root.ensures.grows x.scope in
    record { forms = k.forms; scope = k.scope; shared = k.shared; globals = k.globals; ops = k.ops }

pub returns-clause-refused : goal.returns-clause-refused
returns-clause-refused c d defined ready held =
    first_of_expands _ _ (top_scope defined) d c.in_ok-root.root (c.in_ok-root.ensures.expands d (top_scope defined) ready.distinct held ready.scope)

pub returns-clause-meant : goal.returns-clause-meant
returns-clause-meant c d defined ready held none later grown =
    let x = c.in_ok-root.ensures.expands d (top_scope defined) ready.distinct held ready.scope in
    root_means defined c.expand_form.new.self.shared later c.expand_form.new.self.nodes c.into_lists-nodes.result.0.items c.into_lists-nodes.result.1.items
    (vars_of c.args.self.now.scope) d c.in_ok-root.root (cc c.into_lists-nodes.ensures.nodes) (cc c.into_lists-nodes.ensures.spans) (no_vars c.args.self.now defined ready) grown (x.means none)

pub returns-clause-first : goal.returns-clause-first
returns-clause-first c none = c.in_ok-root.ensures.grows.first none

pub returns-clause-tallied : goal.returns-clause-tallied
returns-clause-tallied c forms tallied none =
    let made : c.into_lists-nodes.result.0.items ≡ c.expand_form.new.self.nodes.nodes = cc c.into_lists-nodes.ensures.nodes in
    root_tallied forms _ c.expand_form.new.self _ made refl refl
    (c.in_ok-root.ensures.tallied (before_of forms) (λ n. starts forms c.args.self.now _ c.new.ensures.nodes refl refl (tallied n)) none)
