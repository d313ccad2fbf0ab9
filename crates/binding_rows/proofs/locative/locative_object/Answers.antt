use Rattle.std.proofs.Common.{[], ◌∷◌}
use Rattle.binding_rows.proofs.locative.locative_object.Goals as goal

pub returns-clause-made : goal.returns-clause-made
returns-clause-made c names d h = c.in_ok-object.ensures.made names (d ∷ []) [] (h, tt) tt
