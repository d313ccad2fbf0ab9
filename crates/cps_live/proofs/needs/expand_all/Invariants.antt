use Rattle.std.specs.List.{flat_map}
use Rattle.std.proofs.Common.{◌≡◌, ℕ, ◌||◌, take}
use Rattle.cps_ir.specs.Reaches.{is_in}
use Rattle.cps_live.specs.Gathered.{numbers}
use Rattle.cps_live.specs.Needs.{expansion}
use Rattle.cps_live.proofs.needs.expand_all.Given as goal

abbrev pub invariant-loop-x : goal.invariant-loop-x
invariant-loop-x l = (m : ℕ) → is_in l.found m ≡ (is_in l.fn.found m || is_in (flat_map (expansion l.joins.joins l.joins.ks l.joins.lists.items) (numbers (take l.x-index l.free))) m)
