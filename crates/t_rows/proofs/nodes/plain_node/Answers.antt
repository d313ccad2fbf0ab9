use Rattle.std.proofs.Common.{refl}
use Rattle.t_rows.proofs.nodes.plain_node.Goals as goal

pub returns-clause-row : goal.returns-clause-row
returns-clause-row c names vars s ds is h = (_, _, _, refl, is, c.new.ensures.items, c.in_ok-parts.ensures names ds h)
