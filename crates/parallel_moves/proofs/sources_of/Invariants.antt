use Rattle.std.proofs.Common.{◌≡◌, ℕ, nat_eq, nat_lt, take}
use Rattle.std.specs.HashSet.{contains}
use Rattle.parallel_moves.specs.Moves.{readers_at}
use Rattle.parallel_moves.proofs.sources_of.Given as goal

abbrev pub invariant-moves : goal.invariant-moves
invariant-moves l = (p : ℕ) → contains nat_eq l.sources p ≡ nat_lt 0 (readers_at p (take l.at l.moves))
