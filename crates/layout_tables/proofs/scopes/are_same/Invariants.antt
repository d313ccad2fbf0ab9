use Rattle.std.proofs.Common.{◌≡◌, take}
use Rattle.layout_tables.proofs.scopes.are_same.Given as goal

abbrev pub invariant-loop-place : goal.invariant-loop-place
invariant-loop-place l = take l.place l.vars ≡ take l.place l.others
