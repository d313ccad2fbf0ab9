use Rattle.std.proofs.Common.{◌∷◌}
use Rattle.choice_rows.proofs.cond.cond_clause.Goals as goal

pub returns-in-None-clause-row : goal.returns-in-None-clause-row
returns-in-None-clause-row c names vars cs ds o r = rw (c.in-None.ensures names ds r) (c.no_row.ensures.row names vars)

pub returns-in-None-split-clause-row : goal.returns-in-None-split-clause-row
returns-in-None-split-clause-row c names vars cs ds o r =
    let f = c.in-Some.ensures names ds r in
    let none = c.in-None-split.ensures names cs o in
    rw (f.2, none) (c.last_clause.ensures.row names vars f.0 f.1 f.3 f.4 (rw none at o))

pub returns-in-Some-split-clause-row : goal.returns-in-Some-split-clause-row
returns-in-Some-split-clause-row c names vars cs ds o r =
    let f = c.in-Some.ensures names ds r in
    let n = c.in-Some-split.ensures names cs o in
    rw (f.2, n.2) (c.plain_clause.ensures.row names vars f.0 f.1 (n.0 ∷ n.1) f.3 f.4 (rw n.2 at o))
