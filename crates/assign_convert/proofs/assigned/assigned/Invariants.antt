use Rattle.std.proofs.Common.{◌≡◌, ℕ, take}
use Rattle.cps_walk.specs.Marked.{is_marked}
use Rattle.assign_convert.proofs.Marks.{assigned_in}
use Rattle.assign_convert.proofs.assigned.assigned.Given as goal

abbrev pub invariant-loop-place : goal.invariant-loop-place
invariant-loop-place l = (x : ℕ) → is_marked l.marks.items x ≡ assigned_in l.cps.terms.items (take l.place-index l.place-items) x
