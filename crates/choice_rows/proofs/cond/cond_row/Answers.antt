use Rattle.std.proofs.Common.{refl}
use Rattle.t_reader.specs.Grammar.{nil}
use Rattle.t_forms.specs.Data.{given}
use Rattle.choice_rows.proofs.cond.cond_row.Goals as goal

pub returns-in-None-clause-row : goal.returns-in-None-clause-row
returns-in-None-clause-row c names vars ds h = rw (c.in-None.ensures names ds h) (c.stands_for_atom.ensures.row names vars (given nil) refl)

pub returns-in-None-items_of-clause-row : goal.returns-in-None-items_of-clause-row
returns-in-None-items_of-clause-row c names vars ds h =
    let f = c.in-Some.ensures names ds h in
    rw (f.2, c.in-None-items_of.ensures names f.0 f.3) (c.no_row.ensures.row names vars)

pub returns-in-Some-items_of-clause-row : goal.returns-in-Some-items_of-clause-row
returns-in-Some-items_of-clause-row c names vars ds h =
    let f = c.in-Some.ensures names ds h in
    let i = c.in-Some-items_of.ensures names f.0 f.3 in
    rw (f.2, i.1) (c.cond_clause.ensures.row names vars f.1 i.0 f.4 i.2)
