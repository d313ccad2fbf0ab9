use Rattle.std.proofs.Common.{◌≡◌}
use Rattle.t_reader.specs.Grammar.{Tree}
use Rattle.t_reader.specs.Unit.{Holds}
use Rattle.t_objects.specs.Lists.{is_list_of}
use Rattle.t_objects.proofs.operations.is_list.Given as goal

abbrev pub invariant-items : goal.invariant-items
invariant-items l =
    (t : Tree) → Holds l.unit.names l.unit.nodes.items l.fn.key t
    → (r : Tree) × Holds l.unit.names l.unit.nodes.items l.at r × (is_list_of l.names t ≡ is_list_of l.names r)

abbrev pub decreases-items : goal.decreases-items
decreases-items l = l.at
