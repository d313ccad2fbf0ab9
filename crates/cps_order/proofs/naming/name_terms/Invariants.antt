use Rattle.std.proofs.Common.{◌≤◌, length}
use Rattle.cps_order.specs.Order.{IsOrderedFrom}
use Rattle.cps_order.proofs.naming.name_terms.Given as goal

abbrev pub invariant-terms : goal.invariant-terms
invariant-terms l = record {
  within : l.at ≤ length l.cps.terms.items;
  ordered : IsOrderedFrom l.cps (length l.cps.terms.items) l.fn.marks.items → IsOrderedFrom l.cps l.at l.marks.items;
}

abbrev pub decreases-terms : goal.decreases-terms
decreases-terms l = l.at
