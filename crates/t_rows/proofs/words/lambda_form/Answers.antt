use Rattle.std.proofs.Common.{[], ◌∷◌}
use Rattle.t_rows.proofs.words.lambda_form.Goals as goal

pub returns-clause-made : goal.returns-clause-made
returns-clause-made c names xs bs h r = c.in_ok-form.ensures.made names [] (xs ∷ bs ∷ []) tt (h, (r, tt))
