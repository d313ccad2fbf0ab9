use Rattle.std.proofs.Common.{◌≡◌, take}
use Rattle.layout_tables.proofs.sites.same_catches.Given as goal

abbrev pub invariant-loop-place : goal.invariant-loop-place
invariant-loop-place l = take l.place l.catches ≡ take l.place l.others
