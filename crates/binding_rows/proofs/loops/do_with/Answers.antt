use Rattle.binding_rows.proofs.loops.do_with.Goals as goal

pub returns-in-None-clause-row : goal.returns-in-None-clause-row
returns-in-None-clause-row c names vars xs e ds z h b = rw (c.in-None.ensures names e h) (c.no_row.ensures.row names vars)

pub returns-in-None-split-clause-row : goal.returns-in-None-split-clause-row
returns-in-None-split-clause-row c names vars xs e ds z h b =
    let i = c.in-Some.ensures names e h in
    rw (i.1, c.in-None-split.ensures names i.0 i.2) (c.no_row-in-None-split.ensures.row names vars)

pub returns-in-Some-split-clause-row : goal.returns-in-Some-split-clause-row
returns-in-Some-split-clause-row c names vars xs e ds z h b =
    let i = c.in-Some.ensures names e h in
    let f = c.in-Some-split.ensures names i.0 i.2 in
    rw (i.1, f.2) (c.do_form.ensures.row names vars xs f.0 f.1 ds z f.3 f.4 b)
