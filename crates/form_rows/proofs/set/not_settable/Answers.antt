use Rattle.std.proofs.Common.{[], ◌∷◌, ◌++◌, sym}
use Rattle.form_rows.proofs.set.not_settable.Goals as goal

pub returns-clause-row : goal.returns-clause-row
returns-clause-row c names vars a es v h r k =
    rw (sym (c.span_of-at.ensures names a h))
    (c.refused_node.ensures.row names vars (es ++ v ∷ []) (rw c.as_slice.ensures.value (c.in_ok-keys.ensures names es v r k)))
