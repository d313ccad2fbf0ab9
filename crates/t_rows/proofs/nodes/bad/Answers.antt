use Rattle.std.proofs.Common.{refl}
use Rattle.t_rows.proofs.nodes.bad.Goals as goal

pub returns : goal.returns
returns c names cells vars = (_, _, _, refl, refl, rw (c.in_ok-push.ensures.items, c.new-refusals.ensures.items) refl, c.new.ensures.items)
