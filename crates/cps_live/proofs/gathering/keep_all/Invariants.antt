use Rattle.std.proofs.Common.{◌≡◌, ℕ, ◌||◌, ◌&&◌, not, take}
use Rattle.cps_ir.specs.Reaches.{is_in}
use Rattle.cps_live.proofs.gathering.keep_all.Given as goal

abbrev pub invariant-loop-n : goal.invariant-loop-n
invariant-loop-n l = (m : ℕ) → is_in l.found m ≡ (is_in l.fn.found m || (is_in (take l.n-index l.wanted) m && not (is_in l.ks m)))
