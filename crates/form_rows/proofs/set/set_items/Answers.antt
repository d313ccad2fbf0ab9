use Rattle.t_forms.specs.Held.{vars_of}
use Rattle.t_rows.specs.Rows.{meant}
use Rattle.form_rows.proofs.set.set_items.Goals as goal

pub returns-in-None-clause-row : goal.returns-in-None-clause-row
returns-in-None-clause-row c around d v apart h k s = rw (c.in-None.ensures c.args.names.now d h) (c.no_row.ensures.row c.args.names.now (vars_of c.args.scope.now))

pub returns-in-None-split-clause-row : goal.returns-in-None-split-clause-row
returns-in-None-split-clause-row c around d v apart h k s =
    let i = c.in-Some.ensures c.args.names.now d h in
    rw (i.1, c.in-None-split.ensures c.args.names.now i.0 i.2) (c.no_row-in-None-split.ensures.row c.args.names.now (vars_of c.args.scope.now))

pub returns-in-Some-split-clause-row : goal.returns-in-Some-split-clause-row
returns-in-Some-split-clause-row c around d v apart h k s =
    let i = c.in-Some.ensures c.args.names.now d h in
    let f = c.in-Some-split.ensures c.args.names.now i.0 i.2 in
    rw (i.1, f.2)
    (c.set_call.ensures.row c.args.names.now (vars_of c.args.scope.now) f.0 f.1 v (meant around f.0) f.3 f.4 k (c.meant-meant.ensures f.0 around apart f.3 s))
