use Rattle.std.proofs.Common.{◌≡◌}
use Rattle.rows_core.specs.Units.{IsOnes, rest_of}
use Rattle.rows_core.proofs.units.ones.Given as goal

abbrev pub invariant-loop-k : goal.invariant-loop-k
invariant-loop-k l = record { ones : IsOnes l.k l.pairs.items; rest : l.rest ≡ rest_of l.k }
