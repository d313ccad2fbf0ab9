use Rattle.std.proofs.Common.{◌≡◌, ℕ, take}
use Rattle.std.specs.List.{list_any}
use Rattle.cps_ir.specs.Parts.{assigns}
use Rattle.cps_walk.specs.Marked.{is_marked}
use Rattle.cps_order.proofs.assigned.marks_of.Given as goal

abbrev pub invariant-terms : goal.invariant-terms
invariant-terms l = (x : ℕ) → is_marked l.marks.items x ≡ list_any (assigns x) (take l.term-index l.terms)
