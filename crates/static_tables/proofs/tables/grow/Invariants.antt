use Rattle.std.proofs.Common.{◌≡◌, ℕ, ◌+◌, ◌-◌, length}
use Rattle.operand_drafts.specs.Places.{word_at}
use Rattle.static_tables.proofs.tables.grow.Given as goal

abbrev pub invariant-loop-table : goal.invariant-loop-table
invariant-loop-table l = (m : ℕ) → word_at l.table.items m ≡ word_at l.fn.table.items m

abbrev pub decreases-loop-table : goal.decreases-loop-table
decreases-loop-table l = l.at + 1 - length l.table.items
