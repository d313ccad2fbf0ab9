use Rattle.std.proofs.Common.{[], ◌∷◌, refl}
use Rattle.t_rows.specs.Rows.{let_star_row, no_row}
use Rattle.t_rows.proofs.RowLemmas.{short}
use Rattle.binding_rows.proofs.bindings.let_star_row.Goals as goal

pub returns-in-None-clause-row : goal.returns-in-None-clause-row
returns-in-None-clause-row c names vars ds h =
    rw (short (let_star_row c.args.span) (no_row c.args.span) ds (c.in-None.ensures names ds h) refl (λ d. refl)) (c.no_row.ensures.row names vars)

pub returns-in-None-items_of-clause-row : goal.returns-in-None-items_of-clause-row
returns-in-None-items_of-clause-row c names vars ds h =
    let f = c.in-Some.ensures names ds h in
    rw (f.3, c.in-None-items_of.ensures names f.0 f.4) (c.no_row-in-None-items_of.ensures.row names vars)

pub returns-in_ok-form-in-None-split-clause-row : goal.returns-in_ok-form-in-None-split-clause-row
returns-in_ok-form-in-None-split-clause-row c names vars ds h =
    let f = c.in-Some.ensures names ds h in
    let i = c.in-Some-items_of.ensures names f.0 f.4 in
    rw (f.3, i.1, c.in-None-split.ensures names i.0 i.2) (_, refl, c.in_ok-form-in-None-split.ensures.made names f.1 f.2 f.5)

pub returns-in-Some-split-clause-row : goal.returns-in-Some-split-clause-row
returns-in-Some-split-clause-row c names vars ds h =
    let f = c.in-Some.ensures names ds h in
    let i = c.in-Some-items_of.ensures names f.0 f.4 in
    let n = c.in-Some-split.ensures names i.0 i.2 in
    rw (f.3, i.1, n.2) (c.rewritten.ensures.row names vars (n.0 ∷ []) (n.1 ∷ (f.1 ∷ f.2) ∷ []) (n.3, tt) (n.4, (f.5, tt)))
