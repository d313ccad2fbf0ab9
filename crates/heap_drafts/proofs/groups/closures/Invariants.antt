use Rattle.heap_drafts.proofs.Grouping.{GroupsFrom}
use Rattle.heap_drafts.proofs.groups.closures.Given as goal

abbrev pub invariant-loop-place : goal.invariant-loop-place
invariant-loop-place l = GroupsFrom l.ops l.place
