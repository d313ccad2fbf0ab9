use Rattle.std.proofs.Common.{◌≡◌, ℕ, length}
use Rattle.static_tables.specs.Gathered.{IsClosing}
use Rattle.static_tables.proofs.gathering.add_pairs.Given as goal

abbrev pub invariant-loop-k : goal.invariant-loop-k
invariant-loop-k l = IsClosing l.frames (length l.frames.templates.items) l.k 0 l.statics

abbrev pub decreases-loop-k : goal.decreases-loop-k
decreases-loop-k l = l.k
