use Rattle.std.proofs.Common.{refl}
use Rattle.form_rows.proofs.set.refused_node.Goals as goal

pub returns-clause-row : goal.returns-clause-row
returns-clause-row c names vars ds h =
    (_, _, _, refl, refl, rw (c.in_ok-push.ensures.items, c.new-refusals.ensures.items) refl, c.in_ok-parts.ensures names ds h)
