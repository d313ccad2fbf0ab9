use Rattle.std.proofs.Common.{[], ◌∷◌}
use Rattle.t_rows.specs.Rows.{key_test}
use Rattle.t_rows.proofs.Growth.{extends_trans, held_grows, items_grow}
use Rattle.choice_rows.proofs.case.keyed_clause.Goals as goal

pub returns-clause-grown : goal.returns-clause-grown
returns-clause-grown c = extends_trans c.in_ok-test.ensures.grown c.in_ok-clause.ensures.grown

pub returns-clause-made : goal.returns-clause-made
returns-clause-made c names ks bs r h k o =
    let g = c.in_ok-test.ensures.grown in
    c.in_ok-clause.ensures.made names (key_test c.args.span ks ∷ r ∷ []) (bs ∷ []) (c.in_ok-test.ensures.made names ks h, (held_grows g names c.args.others r o, tt))
    (items_grow g names c.args.items bs k, tt)
