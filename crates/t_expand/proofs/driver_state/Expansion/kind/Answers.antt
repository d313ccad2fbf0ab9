use Rattle.std.proofs.Common.{sym, ◌∙◌}
use Rattle.t_forms.specs.Held.{vars_of}
use Rattle.expansion.specs.Meaning.{top_scope}
use Rattle.expansion.specs.Units.{defined_name as name_of}
use Rattle.t_expand.proofs.KindLemmas.{is_kind}
use Rattle.t_expand.proofs.driver_state.Expansion.kind.Goals as goal

pub returns-in-Some : goal.returns-in-Some
returns-in-Some c cells d defined ready of none =
    is_kind c.args.self.now.shared.names cells (vars_of c.args.self.now.scope) c.args.definition.now d defined c.meaning-meant.result c.in-Some.kind of
    (sym c.kind_of.ensures ∙ c.in-Some.is)
    (c.meaning-meant.ensures (name_of d).name (top_scope defined) ready.distinct (c.defined_name-name.ensures c.args.self.now.shared.names cells d of).1 ready.scope)
