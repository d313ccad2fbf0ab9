use Rattle.std.proofs.Common.{refl}
use Rattle.t_rows.proofs.nodes.one_part.Goals as goal

pub returns : goal.returns
returns c names ns d h k = rw (c.in_ok-push.ensures.items, c.in_ok-parts.ensures.items) (_, _, refl, (h, k), refl)
