use Rattle.std.proofs.Common.{◌≡◌, ◌++◌}
use Rattle.static_names.specs.Named.{closures_below}
use Rattle.static_names.proofs.naming.push_closures.Given as goal

abbrev pub invariant-loop-k : goal.invariant-loop-k
invariant-loop-k l = l.things.items ≡ l.fn.things.items ++ closures_below l.k
