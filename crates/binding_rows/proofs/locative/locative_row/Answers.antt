use Rattle.std.proofs.Common.{sym, ◌∙◌}
use Rattle.binding_rows.proofs.LocativeLemmas.{of_pair, of_name}
use Rattle.binding_rows.proofs.locative.locative_row.Goals as goal

pub returns-then-is_pair-clause-row : goal.returns-then-is_pair-clause-row
returns-then-is_pair-clause-row c names vars ds h =
    let f = c.in-One.ensures names ds h in
    rw (f.1, of_pair c.args.span f.0 (sym (c.is_pair.ensures names f.0 f.2) ∙ c.if-is_pair.true)) (c.locative_of_pair.ensures.row names vars f.0 f.2)

pub returns-else-is_pair-clause-row : goal.returns-else-is_pair-clause-row
returns-else-is_pair-clause-row c names vars ds h =
    let f = c.in-One.ensures names ds h in
    rw (f.1, of_name c.args.span f.0 (sym (c.is_pair.ensures names f.0 f.2) ∙ c.if-is_pair.false)) (c.locative_of_name.ensures.row names vars f.0 f.2)

pub returns-in-Zero-clause-row : goal.returns-in-Zero-clause-row
returns-in-Zero-clause-row c names vars ds h = rw (c.in-Zero.ensures names ds h) (c.no_row.ensures.row names vars)

pub returns-in-Two-clause-row : goal.returns-in-Two-clause-row
returns-in-Two-clause-row c names vars ds h = rw ((c.in-Two.ensures names ds h).2) (c.no_row-in-Two.ensures.row names vars)

pub returns-in-Three-clause-row : goal.returns-in-Three-clause-row
returns-in-Three-clause-row c names vars ds h = rw ((c.in-Three.ensures names ds h).3) (c.no_row-in-Three.ensures.row names vars)

pub returns-in-More-clause-row : goal.returns-in-More-clause-row
returns-in-More-clause-row c names vars ds h = rw ((c.in-More.ensures names ds h).5) (c.no_row-in-More.ensures.row names vars)
