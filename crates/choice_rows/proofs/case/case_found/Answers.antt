use Rattle.std.proofs.Common.{[], ◌∷◌}
use Rattle.t_rows.specs.Rows.{case_clauses}
use Rattle.choice_rows.proofs.CaseLemmas.{held_none, held_some}
use Rattle.choice_rows.proofs.case.case_found.Goals as goal

pub returns-in-None-clause-row : goal.returns-in-None-clause-row
returns-in-None-clause-row c names vars e cs h k =
    rw (held_none names c.args.forms.now (case_clauses c.args.span cs) (rw c.in-None.is at k)) (c.no_row.ensures.row names vars)

pub returns-in-Some-clause-row : goal.returns-in-Some-clause-row
returns-in-Some-clause-row c names vars e cs h k =
    let d = held_some names c.args.forms.now c.in-Some.form (case_clauses c.args.span cs) (rw c.in-Some.is at k) in
    rw d.1 (c.rewritten.ensures.row names vars (e ∷ d.0 ∷ []) [] (h, (d.2, tt)) tt)
