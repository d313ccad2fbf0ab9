use Rattle.t_forms.specs.Held.{vars_of}
use Rattle.form_rows.proofs.object.object_row.Goals as goal

pub returns-in-None-clause-row : goal.returns-in-None-clause-row
returns-in-None-clause-row c around ds apart h s = rw (c.in-None.ensures c.args.names.now ds h) (c.no_row.ensures.row c.args.names.now (vars_of c.args.scope.now))

pub returns-in-Some-clause-row : goal.returns-in-Some-clause-row
returns-in-Some-clause-row c around ds apart h s =
    let f = c.in-Some.ensures c.args.names.now ds h in
    rw f.2 (c.object_with.ensures.row around f.0 f.1 apart s f.3 f.4)
