use Rattle.std.proofs.Common.{◌∷◌, refl}
use Rattle.t_rows.specs.Rows.{call}
use Rattle.form_rows.proofs.calls.call_node.Goals as goal

pub returns-clause-row : goal.returns-clause-row
returns-clause-row c names vars f ds h r =
    c.plain_node.ensures.row names vars call (f ∷ ds) refl
    (rw (c.as_slice-2.ensures.value, c.in_ok-extend_from_slice.ensures.items, c.in_ok-push.ensures.items, c.new-keys.ensures.items)
    (h, rw c.as_slice.ensures.value (c.in_ok-operands.ensures names ds r)))
