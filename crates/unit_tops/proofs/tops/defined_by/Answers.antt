use Rattle.unit_tops.proofs.tops.defined_by.Goals as goal

pub returns-in-Some-clause-defines : goal.returns-in-Some-clause-defines
returns-in-Some-clause-defines c names d held =
    let are = c.in-Some.ensures names d held in
    rw are.1 (c.defined_by_items.ensures.defines names d are.0 held are.2)
