use Rattle.std.proofs.Common.{[], ◌∷◌, refl}
use Rattle.t_rows.specs.Rows.{if_}
use Rattle.t_rows.proofs.words.if_row.Goals as goal

pub returns-in-Two-clause-row : goal.returns-in-Two-clause-row
returns-in-Two-clause-row c names vars ds h =
    let f = c.in-Two.ensures names ds h in
    rw f.2 (c.rewritten.ensures.row names vars (f.0 ∷ f.1 ∷ []) [] (f.3, (f.4, tt)) tt)

pub returns-in-Three-clause-row : goal.returns-in-Three-clause-row
returns-in-Three-clause-row c names vars ds h =
    let f = c.in-Three.ensures names ds h in
    rw f.3 (c.plain_node.ensures.row names vars if_ (f.0 ∷ f.1 ∷ f.2 ∷ []) refl (f.4, (f.5, (f.6, tt))))

pub returns-in-Zero-clause-row : goal.returns-in-Zero-clause-row
returns-in-Zero-clause-row c names vars ds h = rw (c.in-Zero.ensures names ds h) (c.no_row.ensures.row names vars)

pub returns-in-One-clause-row : goal.returns-in-One-clause-row
returns-in-One-clause-row c names vars ds h = rw ((c.in-One.ensures names ds h).1) (c.no_row-in-One.ensures.row names vars)

pub returns-in-More-clause-row : goal.returns-in-More-clause-row
returns-in-More-clause-row c names vars ds h = rw ((c.in-More.ensures names ds h).5) (c.no_row-in-More.ensures.row names vars)
