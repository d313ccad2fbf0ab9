use Rattle.t_forms.specs.Held.{vars_of}
use Rattle.form_rows.proofs.object.object_found.Goals as goal

pub returns-in-None-clause-row : goal.returns-in-None-clause-row
returns-in-None-clause-row c around p o apart s h z = rw (rw c.in-None.is at z) (c.no_row.ensures.row c.args.names.now (vars_of c.args.scope.now))

pub returns-in_ok-row-in-Some-clause-row : goal.returns-in_ok-row-in-Some-clause-row
returns-in_ok-row-in-Some-clause-row c around p o apart s h z =
    let n = rw c.in-Some.is at z in
    rw n.1 (c.in_ok-row-in-Some.ensures around p n.0 apart s h (rw c.as_slice.ensures.value n.2))
