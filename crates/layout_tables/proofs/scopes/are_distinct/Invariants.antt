use Rattle.std.proofs.Common.{length}
use Rattle.layout_relation.specs.Laid.{numbers, AreDistinct}
use Rattle.layout_tables.proofs.scopes.are_distinct.Given as goal

abbrev pub invariant-loop-var : goal.invariant-loop-var
invariant-loop-var l = AreDistinct (numbers l.rest) → AreDistinct (numbers l.vars)

abbrev pub decreases-loop-var : goal.decreases-loop-var
decreases-loop-var l = length l.rest
