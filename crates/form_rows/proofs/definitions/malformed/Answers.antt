use Rattle.std.proofs.Common.{refl}
use Rattle.form_rows.proofs.definitions.malformed.Goals as goal

pub returns-clause-row : goal.returns-clause-row
returns-clause-row c names vars =
    (_, _, _, refl, refl, rw (c.in_ok-push-2.ensures.items, c.in_ok-push.ensures.items, c.new-refusals.ensures.items) refl, c.new.ensures.items)
