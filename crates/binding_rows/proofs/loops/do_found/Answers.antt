use Rattle.binding_rows.proofs.loops.do_found.Goals as goal

pub returns-in-None-clause-row : goal.returns-in-None-clause-row
returns-in-None-clause-row c names vars d e ds h k b = rw (rw c.in-None.is at (c.in_ok-found.ensures names d h)) (c.no_row.ensures.row names vars)

pub returns-in-Some-clause-row : goal.returns-in-Some-clause-row
returns-in-Some-clause-row c names vars d e ds h k b =
    let n = rw c.in-Some.is at (c.in_ok-found.ensures names d h) in
    rw n.1 (c.do_with.ensures.row names vars n.0 e ds (rw c.as_slice.ensures.value n.2) k b)
