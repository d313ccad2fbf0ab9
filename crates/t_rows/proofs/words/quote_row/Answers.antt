use Rattle.std.proofs.Common.{[], ◌∷◌, refl, sym, ◌∙◌}
use Rattle.t_rows.specs.Rows.{constant}
use Rattle.t_rows.proofs.RowLemmas.{quote_new, quote_datum, quote_more}
use Rattle.t_rows.proofs.words.quote_row.Goals as goal

pub returns-then-is_new-clause-row : goal.returns-then-is_new-clause-row
returns-then-is_new-clause-row c names vars ds h =
    let f = c.in-One.ensures names ds h in
    rw (f.1, quote_new c.args.span f.0 (sym (c.is_new.ensures names f.0 f.2) ∙ c.if-is_new.true)) (c.no_row.ensures.row names vars)

pub returns-else-is_new-clause-row : goal.returns-else-is_new-clause-row
returns-else-is_new-clause-row c names vars ds h =
    let f = c.in-One.ensures names ds h in
    rw (f.1, quote_datum c.args.span f.0 (sym (c.is_new.ensures names f.0 f.2) ∙ c.if-is_new.false))
    (c.plain_node.ensures.row names vars (constant f.0) [] (_, refl, f.2) tt)

pub returns-in-Zero-clause-row : goal.returns-in-Zero-clause-row
returns-in-Zero-clause-row c names vars ds h = rw (c.in-Zero.ensures names ds h) (c.no_row-in-Zero.ensures.row names vars)

pub returns-in-Two-clause-row : goal.returns-in-Two-clause-row
returns-in-Two-clause-row c names vars ds h = let f = c.in-Two.ensures names ds h in rw (f.2, quote_more c.args.span f.0 f.1 []) (c.no_row-in-Two.ensures.row names vars)

pub returns-in-Three-clause-row : goal.returns-in-Three-clause-row
returns-in-Three-clause-row c names vars ds h = let f = c.in-Three.ensures names ds h in rw (f.3, quote_more c.args.span f.0 f.1 (f.2 ∷ [])) (c.no_row-in-Three.ensures.row names vars)

pub returns-in-More-clause-row : goal.returns-in-More-clause-row
returns-in-More-clause-row c names vars ds h = let f = c.in-More.ensures names ds h in rw (f.5, quote_more c.args.span f.0 f.1 (f.2 ∷ f.3 ∷ f.4)) (c.no_row-in-More.ensures.row names vars)
