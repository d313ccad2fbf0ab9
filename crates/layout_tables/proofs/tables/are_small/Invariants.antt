use Rattle.std.proofs.Common.{◌≤◌, length, take}
use Rattle.std.specs.List.{AllByRecursion}
use Rattle.layout_tables.proofs.tables.are_small.Given as goal

abbrev pub invariant-loop-vars : goal.invariant-loop-vars
invariant-loop-vars l = AllByRecursion (λ vs. length vs ≤ l.cps.shared.size) (take l.vars-index l.vars-items)
