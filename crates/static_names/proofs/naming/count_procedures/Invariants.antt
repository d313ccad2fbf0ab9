use Rattle.std.proofs.Common.{◌≡◌, ◌≤◌, count_by, take}
use Rattle.frame_ir.specs.Arguments.{is_proc}
use Rattle.static_names.proofs.naming.count_procedures.Given as goal

abbrev pub invariant-loop-global : goal.invariant-loop-global
invariant-loop-global l = (l.count ≤ l.global-index) × (l.count ≡ count_by (λ g. is_proc g.kind) (take l.global-index l.globals))
