use Rattle.binding_rows.proofs.bindings.iterate_named.Goals as goal

pub returns-in-None-clause-row : goal.returns-in-None-clause-row
returns-in-None-clause-row c names vars f d ds b h r = rw (rw c.in-None.is at (c.in_ok-found.ensures names d h)) (c.no_row.ensures.row names vars)

pub returns-in-Some-clause-row : goal.returns-in-Some-clause-row
returns-in-Some-clause-row c names vars f d ds b h r =
    let n = rw c.in-Some.is at (c.in_ok-found.ensures names d h) in
    rw n.1 (c.iterate_node.ensures.row names vars f n.0 ds b (rw c.as_slice.ensures.value n.2) r)
