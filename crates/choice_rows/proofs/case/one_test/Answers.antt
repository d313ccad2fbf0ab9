use Rattle.std.proofs.Common.{[], ◌∷◌}
use Rattle.t_rows.specs.Rows.{key_test}
use Rattle.choice_rows.proofs.case.one_test.Goals as goal

pub returns-clause-made : goal.returns-clause-made
returns-clause-made c names k ks h r = c.in_ok-test.ensures.made names (k ∷ key_test c.args.span ks ∷ []) [] (h, (r, tt)) tt
