use Rattle.binding_rows.proofs.loops.do_row.Goals as goal

pub returns-in-None-clause-row : goal.returns-in-None-clause-row
returns-in-None-clause-row c names vars ds h = rw (c.in-None.ensures names ds h) (c.no_row.ensures.row names vars)

pub returns-in-None-split-clause-row : goal.returns-in-None-split-clause-row
returns-in-None-split-clause-row c names vars ds h =
    let f = c.in-Some.ensures names ds h in
    rw (f.2, c.in-None-split.ensures names f.1 f.4) (c.no_row-in-None-split.ensures.row names vars)

pub returns-in-Some-split-clause-row : goal.returns-in-Some-split-clause-row
returns-in-Some-split-clause-row c names vars ds h =
    let f = c.in-Some.ensures names ds h in
    let e = c.in-Some-split.ensures names f.1 f.4 in
    rw (f.2, e.2) (c.do_found.ensures.row names vars f.0 e.0 e.1 f.3 e.3 e.4)
