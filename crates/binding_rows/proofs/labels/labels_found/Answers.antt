use Rattle.binding_rows.proofs.labels.labels_found.Goals as goal

pub returns-in-None-clause-row : goal.returns-in-None-clause-row
returns-in-None-clause-row c vars o d ds apart z h = rw (rw c.in-None.is at z) (c.no_row.ensures.row c.args.texts.now vars)

pub returns-in-Some-clause-row : goal.returns-in-Some-clause-row
returns-in-Some-clause-row c vars o d ds apart z h =
    let n = rw c.in-Some.is at z in
    rw n.1 (c.labels_procedures.ensures.row vars n.0 d ds apart (rw c.as_slice.ensures.value n.2) h)
