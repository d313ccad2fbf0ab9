use Rattle.std.proofs.Common.{[], ◌∷◌, refl}
use Rattle.t_rows.specs.Rows.{body, catch_row, no_row}
use Rattle.t_rows.proofs.RowLemmas.{short}
use Rattle.t_rows.proofs.words.catch_row.Goals as goal

pub returns-in-None-clause-row : goal.returns-in-None-clause-row
returns-in-None-clause-row c names vars ds h =
    rw (short (catch_row c.args.span) (no_row c.args.span) ds (c.in-None.ensures names ds h) refl (λ d. refl)) (c.no_row.ensures.row names vars)

pub returns-in-None-name_of-clause-row : goal.returns-in-None-name_of-clause-row
returns-in-None-name_of-clause-row c names vars ds h =
    let f = c.in-Some.ensures names ds h in
    rw (f.3, c.in-None-name_of.ensures names f.0 f.4) (c.no_row-in-None-name_of.ensures.row names vars)

pub returns-in_ok-parts-in-Some-name_of-clause-row : goal.returns-in_ok-parts-in-Some-name_of-clause-row
returns-in_ok-parts-in-Some-name_of-clause-row c names vars ds h =
    let f = c.in-Some.ensures names ds h in
    let n = c.in-Some-name_of.ensures names f.0 f.4 in
    rw (f.3, n.1) (
      _,
      _,
      _,
      refl,
      refl,
      c.new.ensures.items,
      c.in_ok-parts-in-Some-name_of.ensures names (n.0 ∷ []) (body c.args.span (f.1 ∷ f.2)) (rw (c.in_ok-push-in-Some-name_of.ensures.items, c.new-binds.ensures.items) (n.2, tt))
          (c.in_ok-form-in-Some-name_of.ensures.made names f.1 f.2 f.5),
    )
