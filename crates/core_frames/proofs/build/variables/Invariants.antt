use Rattle.std.proofs.Common.{◌≡◌}
use Rattle.expansion.specs.Lists.{numbered}
use Rattle.core_frames.proofs.build.variables.Given as goal

abbrev pub invariant-loop-k : goal.invariant-loop-k
invariant-loop-k l = l.items.items ≡ numbered l.vars.first l.k
