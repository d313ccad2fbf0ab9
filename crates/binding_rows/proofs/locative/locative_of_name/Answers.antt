use Rattle.std.proofs.Common.{refl}
use Rattle.binding_rows.proofs.locative.locative_of_name.Goals as goal

pub returns-in-None-clause-row : goal.returns-in-None-clause-row
returns-in-None-clause-row c names vars d h = rw (c.in-None.ensures names d h) (c.no_row.ensures.row names vars)

pub returns-in_ok-object-in-Some-clause-row : goal.returns-in_ok-object-in-Some-clause-row
returns-in_ok-object-in-Some-clause-row c names vars d h =
    let n = c.in-Some.ensures names d h in
    rw n.1 (_, refl, c.in_ok-object-in-Some.ensures.made names d h)
