use Rattle.std.proofs.Common.{◌≡◌, ℕ, ◌||◌, take}
use Rattle.cps_ir.specs.Reaches.{is_in}
use Rattle.cps_walk.specs.Marked.{is_marked}
use Rattle.closure_strategy.proofs.choice.mark_all.Given as goal

abbrev pub invariant-loop-place : goal.invariant-loop-place
invariant-loop-place l = (m : ℕ) → is_marked l.marks.items m ≡ (is_marked l.fn.marks.items m || is_in (take l.place-index l.places) m)
