use Rattle.choice_rows.proofs.case.case_row.Goals as goal

pub returns-in-None-clause-row : goal.returns-in-None-clause-row
returns-in-None-clause-row c names vars ds h = rw (c.in-None.ensures names ds h) (c.no_row.ensures.row names vars)

pub returns-in-Some-clause-row : goal.returns-in-Some-clause-row
returns-in-Some-clause-row c names vars ds h =
    let f = c.in-Some.ensures names ds h in
    rw f.2 (c.case_with.ensures.row names vars f.0 f.1 f.3 f.4)
