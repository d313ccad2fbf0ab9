use Rattle.std.proofs.Common.{◌≡◌, ℕ, length}
use Rattle.static_tables.specs.Gathered.{IsClosing}
use Rattle.static_tables.proofs.gathering.add_print_names.Given as goal

abbrev pub invariant-loop-n : goal.invariant-loop-n
invariant-loop-n l = IsClosing l.frames (length l.frames.templates.items) 0 l.n l.statics
