use Rattle.std.proofs.Common.{[], ◌∷◌, ◌++◌}
use Rattle.t_rows.proofs.Growth.{held_grows}
use Rattle.form_rows.proofs.set.set_through.Goals as goal

pub returns-clause-row : goal.returns-clause-row
returns-clause-row c names vars a es v h r k =
    c.rewritten.ensures.row names vars (a ∷ []) ((es ++ v ∷ []) ∷ []) (held_grows c.in_ok-operands.ensures.grown names c.args.operator a h, tt)
    (c.in_ok-operands.ensures.made names (es ++ v ∷ []) (rw c.as_slice.ensures.value (c.in_ok-keys.ensures names es v r k)), tt)
