use Rattle.std.proofs.Common.{◌≡◌, ℕ, take}
use Rattle.cps_ir.specs.Reaches.{is_in}
use Rattle.cps_live.proofs.number_set.NumberSet.of.Given as goal

abbrev pub invariant-loop-n : goal.invariant-loop-n
invariant-loop-n l = (m : ℕ) → is_in l.set m ≡ is_in (take l.n-index l.numbers) m
