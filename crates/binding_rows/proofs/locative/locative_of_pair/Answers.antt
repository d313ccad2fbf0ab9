use Rattle.binding_rows.proofs.locative.locative_of_pair.Goals as goal

pub returns-in-None-clause-row : goal.returns-in-None-clause-row
returns-in-None-clause-row c names vars d h = rw (c.in-None.ensures names d h) (c.no_row.ensures.row names vars)

pub returns-in-None-split-clause-row : goal.returns-in-None-split-clause-row
returns-in-None-split-clause-row c names vars d h =
    let i = c.in-Some.ensures names d h in
    rw (i.1, c.in-None-split.ensures names i.0 i.2) (c.no_row-in-None-split.ensures.row names vars)

pub returns-in-Some-split-clause-row : goal.returns-in-Some-split-clause-row
returns-in-Some-split-clause-row c names vars d h =
    let i = c.in-Some.ensures names d h in
    let f = c.in-Some-split.ensures names i.0 i.2 in
    rw (i.1, f.2) (c.locative_of_list.ensures.row names vars f.0 f.1 (rw f.2 at i.2))
