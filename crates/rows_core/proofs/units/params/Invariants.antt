use Rattle.std.proofs.Common.{◌≡◌, length}
use Rattle.rows_core.proofs.units.params.Given as goal

abbrev pub invariant-loop-k : goal.invariant-loop-k
invariant-loop-k l = length l.vars.items ≡ l.k
