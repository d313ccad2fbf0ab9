use Rattle.std.proofs.Common.{refl}
use Rattle.form_rows.proofs.object.method_of.Goals as goal

pub returns-in-None-clause-made : goal.returns-in-None-clause-made
returns-in-None-clause-made c names d h = rw (c.in-None.ensures names d h) refl

pub returns-in-Some-clause-made : goal.returns-in-Some-clause-made
returns-in-Some-clause-made c names d h =
    let i = c.in-Some.ensures names d h in
    rw i.1 (c.method_of_items.ensures.made names i.0 i.2)
