use Rattle.std.proofs.Common.{refl}
use Rattle.t_rows.specs.Rows.{labels_row, no_row}
use Rattle.t_rows.proofs.RowLemmas.{short}
use Rattle.binding_rows.proofs.labels.labels_row.Goals as goal

pub returns-in-None-clause-row : goal.returns-in-None-clause-row
returns-in-None-clause-row c vars ds apart h =
    rw (short (labels_row c.args.span) (no_row c.args.span) ds (c.in-None.ensures c.args.texts.now ds h) refl (λ d. refl)) (c.no_row.ensures.row c.args.texts.now vars)

pub returns-in-None-items_of-clause-row : goal.returns-in-None-items_of-clause-row
returns-in-None-items_of-clause-row c vars ds apart h =
    let f = c.in-Some.ensures c.args.texts.now ds h in
    rw (f.3, c.in-None-items_of.ensures c.args.texts.now f.0 f.4) (c.no_row-in-None-items_of.ensures.row c.args.texts.now vars)

pub returns-in-Some-items_of-clause-row : goal.returns-in-Some-items_of-clause-row
returns-in-Some-items_of-clause-row c vars ds apart h =
    let f = c.in-Some.ensures c.args.texts.now ds h in
    let i = c.in-Some-items_of.ensures c.args.texts.now f.0 f.4 in
    rw (f.3, i.1) (c.labels_with.ensures.row vars i.0 f.1 f.2 apart i.2 f.5)
