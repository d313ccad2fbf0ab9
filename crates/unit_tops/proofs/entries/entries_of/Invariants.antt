use Rattle.std.proofs.Common.{◌≡◌, ◌≢◌, ℕ, List, ◌++◌, take, AllPairs}
use Rattle.t_reader.specs.Unit.{fixed_names}
use Rattle.t_forms.specs.declared.arena.Cell.{Cell}
use Rattle.unit_tops.specs.Entries.{AreEntries}
use Rattle.unit_tops.specs.Tops.{AreTops}
use Rattle.expansion.specs.Units.{Top, entries_of}
use Rattle.unit_tops.proofs.entries.entries_of.Given as goal

abbrev pub invariant-tops : goal.invariant-tops
invariant-tops l =
    (cells : List Cell) (ts : List Top) (others : List (List ℕ)) → l.names ≡ fixed_names ++ others → AllPairs (λ a b. a ≢ b) l.names
    → AreTops l.names cells l.tops ts → AreEntries l.names l.entries (entries_of (take l.top-index ts))
