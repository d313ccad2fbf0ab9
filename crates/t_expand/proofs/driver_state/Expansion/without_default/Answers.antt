use Rattle.std.proofs.Common.{◌∙◌, Contains}
use Rattle.t_rows.specs.Rows.{twice}
use Rattle.t_expand.proofs.FirstLemmas.{first_lists, was_none}
use Rattle.t_expand.proofs.UnitTallies.{none_tallied}
use Rattle.t_expand.proofs.driver_state.Expansion.without_default.Goals as goal

pub returns-clause-refused : goal.returns-clause-refused
returns-clause-refused c bs defined ready are =
    first_lists c.args.self.now.first c.note.new.self.first c.as_slice.result.now (twice bs)
    (c.as_slice.ensures.value ∙ c.in_ok-refusals.ensures c.args.self.now.shared.names bs ready.distinct are) c.note.ensures.first

pub returns-clause-first : goal.returns-clause-first
returns-clause-first c none = was_none (Contains c.as_slice.result.now) c.args.self.now.first c.note.new.self.first none c.note.ensures.first

pub returns-clause-tallied : goal.returns-clause-tallied
returns-clause-tallied c forms tallied none =
    none_tallied forms c.no_nodes.result c.args.self.now c.note.new.self c.no_nodes.ensures.nodes c.note.ensures.next c.note.ensures.shared
    (tallied (was_none (Contains c.as_slice.result.now) c.args.self.now.first c.note.new.self.first none c.note.ensures.first))
