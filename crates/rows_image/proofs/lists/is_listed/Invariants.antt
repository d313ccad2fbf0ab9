use Rattle.std.proofs.Common.{◌≤◌, drop}
use Rattle.rows_image.specs.Lists.{IsListed}
use Rattle.rows_image.proofs.lists.is_listed.Given as goal

abbrev pub invariant-loop-item : goal.invariant-loop-item
invariant-loop-item l = (IsListed l.next l.count (drop l.item-index l.items) → IsListed 0 l.count l.items) × (l.next ≤ l.item-index)
