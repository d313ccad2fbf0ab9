use Rattle.std.proofs.Common.{◌≡◌, [], take}
use Rattle.cps_live.proofs.NeedLemmas.{Kinds, IsTable, AreNeededSoFar}
use Rattle.cps_live.proofs.Passing.{AreMet}
use Rattle.cps_live.proofs.needs.needed_variables.Given as goal

abbrev pub invariant-loop-place : goal.invariant-loop-place
invariant-loop-place l = record {
  found : l.found ≡ [];
  kinds : Kinds l.cps l.joins.joins l.joins.ks;
  table : IsTable l.cps l.joins.met l.joins.lists.items;
  met : AreMet l.cps (take l.place-index l.place-items) l.joins.met;
  so_far : AreNeededSoFar l.cps (take l.place-index l.place-items) l.at.items;
}
