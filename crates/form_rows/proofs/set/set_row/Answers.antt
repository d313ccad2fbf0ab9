use Rattle.t_forms.specs.Held.{vars_of}
use Rattle.form_rows.proofs.set.set_row.Goals as goal

pub returns-in-Two-clause-row : goal.returns-in-Two-clause-row
returns-in-Two-clause-row c around ds apart h s =
    let f = c.in-Two.ensures c.args.names.now ds h in
    rw f.2 (c.set_place.ensures.row around f.0 f.1 apart f.3 f.4 s)

pub returns-in-Zero-clause-row : goal.returns-in-Zero-clause-row
returns-in-Zero-clause-row c around ds apart h s = rw (c.in-Zero.ensures c.args.names.now ds h) (c.no_row.ensures.row c.args.names.now (vars_of c.args.scope.now))

pub returns-in-One-clause-row : goal.returns-in-One-clause-row
returns-in-One-clause-row c around ds apart h s =
    rw ((c.in-One.ensures c.args.names.now ds h).1) (c.no_row-in-One.ensures.row c.args.names.now (vars_of c.args.scope.now))

pub returns-in-Three-clause-row : goal.returns-in-Three-clause-row
returns-in-Three-clause-row c around ds apart h s =
    rw ((c.in-Three.ensures c.args.names.now ds h).3) (c.no_row-in-Three.ensures.row c.args.names.now (vars_of c.args.scope.now))

pub returns-in-More-clause-row : goal.returns-in-More-clause-row
returns-in-More-clause-row c around ds apart h s =
    rw ((c.in-More.ensures c.args.names.now ds h).5) (c.no_row-in-More.ensures.row c.args.names.now (vars_of c.args.scope.now))
