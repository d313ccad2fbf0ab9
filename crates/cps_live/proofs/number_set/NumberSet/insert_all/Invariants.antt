use Rattle.std.proofs.Common.{◌≡◌, ℕ, ◌||◌, take}
use Rattle.cps_ir.specs.Reaches.{is_in}
use Rattle.cps_live.specs.Gathered.{numbers}
use Rattle.cps_live.proofs.number_set.NumberSet.insert_all.Given as goal

abbrev pub invariant-loop-x : goal.invariant-loop-x
invariant-loop-x l = (m : ℕ) → is_in l.self m ≡ (is_in l.fn.self m || is_in (numbers (take l.x-index l.vars)) m)
