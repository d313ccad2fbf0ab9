use Rattle.std.proofs.Common.{[], ◌∷◌, Contains}
use Rattle.t_rows.specs.Rows.{refusal}
use Rattle.t_rows.specs.declared.refusal.SyntaxKind.TheVariants.{Twice}
use Rattle.expansion.specs.Units.{names_defined}
use Rattle.expansion.specs.Refusals.{twice_defined}
use Rattle.t_expand.proofs.FirstLemmas.{first_lists, twice_is, was_none}
use Rattle.t_expand.proofs.driver_state.Expansion.look_for_twice.Goals as goal

pub returns-then-branch-clause-refused : goal.returns-then-branch-clause-refused
returns-then-branch-clause-refused c before defined b ready is marks =
    first_lists c.args.self.now.first c.note.new.self.first _ (twice_defined before b)
    (twice_is before b c.args.name.at c.in_ok-mark.field-0
    (c.in_ok-mark.ensures.before c.args.self.now.shared.names (names_defined before) b.name is.1 marks) c.if-branch.true is.0)
    c.note.ensures.first

pub returns-then-branch-clause-first : goal.returns-then-branch-clause-first
returns-then-branch-clause-first c none = was_none (Contains (refusal Twice c.args.name.at ∷ [])) c.args.self.now.first c.note.new.self.first none c.note.ensures.first
