use Rattle.std.proofs.Common.{◌≡◌, ℕ, ◌==◌, ◌&&◌, not, take}
use Rattle.cps_ir.specs.Reaches.{is_in}
use Rattle.cps_live.specs.Gathered.{numbers}
use Rattle.cps_live.proofs.needs.others.Given as goal

abbrev pub invariant-loop-x : goal.invariant-loop-x
invariant-loop-x l = (m : ℕ) → is_in (numbers l.vars.items) m ≡ (is_in (numbers (take l.x-index l.from)) m && not (l.but.0 == m))
