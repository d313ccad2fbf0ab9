use Rattle.std.proofs.Common.{[], ◌∷◌, sym, ◌∙◌}
use Rattle.choice_rows.proofs.cond.last_clause.Goals as goal

pub returns-in-None-clause-row : goal.returns-in-None-clause-row
returns-in-None-clause-row c names vars a bs h r o =
    let none = c.in-None.ensures names bs r in rw none (c.plain_clause.ensures.row names vars a [] [] h (rw none at r) o)

pub returns-else-is_else-clause-row : goal.returns-else-is_else-clause-row
returns-else-is_else-clause-row c names vars a bs h r o =
    let f = c.in-Some.ensures names bs r in
    rw (f.2, sym (c.word_of.ensures names a h), sym c.is_else.ensures ∙ c.if-is_else.false)
    (c.plain_clause-else-is_else.ensures.row names vars a (f.0 ∷ f.1) [] h (rw f.2 at r) o)
