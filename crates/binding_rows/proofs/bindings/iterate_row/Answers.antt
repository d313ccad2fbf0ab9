use Rattle.std.proofs.Common.{◌∷◌, refl}
use Rattle.t_rows.specs.Rows.{iterate_row, no_row}
use Rattle.t_rows.proofs.RowLemmas.{short}
use Rattle.binding_rows.proofs.bindings.iterate_row.Goals as goal

pub returns-in-None-clause-row : goal.returns-in-None-clause-row
returns-in-None-clause-row c names vars ds h = rw (c.in-None.ensures names ds h) (c.no_row.ensures.row names vars)

pub returns-in-None-with_body-clause-row : goal.returns-in-None-with_body-clause-row
returns-in-None-with_body-clause-row c names vars ds h =
    let f = c.in-Some.ensures names ds h in
    rw (f.2, short (λ xs. iterate_row c.args.span (f.0 ∷ xs)) (no_row c.args.span) f.1 (c.in-None-with_body.ensures names f.1 f.4) refl (λ d. refl))
    (c.no_row-in-None-with_body.ensures.row names vars)

pub returns-in-None-binder_of-clause-row : goal.returns-in-None-binder_of-clause-row
returns-in-None-binder_of-clause-row c names vars ds h =
    let f = c.in-Some.ensures names ds h in
    let w = c.in-Some-with_body.ensures names f.1 f.4 in
    rw (f.2, w.3, c.in-None-binder_of.ensures names f.0 f.3) (c.no_row-in-None-binder_of.ensures.row names vars)

pub returns-in-Some-binder_of-clause-row : goal.returns-in-Some-binder_of-clause-row
returns-in-Some-binder_of-clause-row c names vars ds h =
    let f = c.in-Some.ensures names ds h in
    let w = c.in-Some-with_body.ensures names f.1 f.4 in
    let g = c.in-Some-binder_of.ensures names f.0 f.3 in
    rw (f.2, w.3, g.1) (c.iterate_named.ensures.row names vars g.0 w.0 (w.1 ∷ w.2) g.2 w.4 w.5)
