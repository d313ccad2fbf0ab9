use Rattle.std.proofs.Common.{◌≡◌, ℕ, length}
use Rattle.static_tables.specs.Gathered.{IsClosing}
use Rattle.static_tables.proofs.gathering.add_operations.Given as goal

abbrev pub invariant-loop-t : goal.invariant-loop-t
invariant-loop-t l = IsClosing l.frames l.t (length l.frames.shared.pairs.items) 0 l.statics
