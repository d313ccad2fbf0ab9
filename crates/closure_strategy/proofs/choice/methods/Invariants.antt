use Rattle.std.proofs.Common.{◌≡◌, ℕ, take}
use Rattle.cps_ir.specs.Reaches.{is_in}
use Rattle.cps_walk.specs.Marked.{is_marked}
use Rattle.closure_strategy.proofs.Chosen.{methods_at}
use Rattle.closure_strategy.proofs.choice.methods.Given as goal

abbrev pub invariant-loop-place : goal.invariant-loop-place
invariant-loop-place l = (m : ℕ) → is_marked l.marks.items m ≡ is_in (methods_at l.cps.terms.items (take l.place-index l.place-items)) m
