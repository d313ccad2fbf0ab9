use Rattle.std.proofs.Common.{[], ◌∷◌}
use Rattle.binding_rows.proofs.loops.first_binding.Goals as goal

pub returns-clause-made : goal.returns-clause-made
returns-clause-made c names x e h k = c.in_ok-binding.ensures.made names (x ∷ e ∷ []) [] (h, (k, tt)) tt
