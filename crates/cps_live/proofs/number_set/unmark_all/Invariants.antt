use Rattle.std.proofs.Common.{◌≡◌, ℕ, ◌&&◌, not, take}
use Rattle.cps_walk.specs.Marked.{is_marked}
use Rattle.cps_ir.specs.Reaches.{is_in}
use Rattle.cps_live.proofs.number_set.unmark_all.Given as goal

abbrev pub invariant-loop-n : goal.invariant-loop-n
invariant-loop-n l = (m : ℕ) → is_marked l.marks.items m ≡ (is_marked l.fn.marks.items m && not (is_in (take l.n-index l.numbers) m))
