use Rattle.std.proofs.Common.{[], ◌∷◌}
use Rattle.choice_rows.proofs.cond.clause_with_body.Goals as goal

pub returns-clause-row : goal.returns-clause-row
returns-clause-row c names vars a bs cs h r o = c.rewritten.ensures.row names vars (a ∷ []) (bs ∷ cs ∷ []) (h, tt) (r, (o, tt))
