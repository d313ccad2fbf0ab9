use Rattle.std.proofs.Common.{refl}
use Rattle.t_rows.specs.Rows.{let_row, no_row}
use Rattle.t_rows.proofs.RowLemmas.{short}
use Rattle.binding_rows.proofs.bindings.let_row.Goals as goal

pub returns-in-None-clause-row : goal.returns-in-None-clause-row
returns-in-None-clause-row c vars ds apart h =
    rw (short (let_row c.args.span) (no_row c.args.span) ds (c.in-None.ensures c.args.texts.now ds h) refl (λ d. refl)) (c.no_row.ensures.row c.args.texts.now vars)

pub returns-in-None-found-clause-row : goal.returns-in-None-found-clause-row
returns-in-None-found-clause-row c vars ds apart h =
    let f = c.in-Some.ensures c.args.texts.now ds h in
    let n = c.in_ok-found-in-Some.ensures c.args.texts.now f.0 f.4 in
    rw (f.3, rw c.in-None-found.is at n) (c.no_row-in-None-found.ensures.row c.args.texts.now vars)

pub returns-in-Some-found-clause-row : goal.returns-in-Some-found-clause-row
returns-in-Some-found-clause-row c vars ds apart h =
    let f = c.in-Some.ensures c.args.texts.now ds h in
    let n = rw c.in-Some-found.is at (c.in_ok-found-in-Some.ensures c.args.texts.now f.0 f.4) in
    rw (f.3, n.1) (c.let_bindings.ensures.row vars n.0 f.1 f.2 apart (rw c.as_slice.ensures.value n.2) f.5)
