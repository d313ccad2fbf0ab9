use Rattle.std.proofs.Common.{◌≡◌, ◌≤◌, length, take}
use Rattle.std.specs.List.{filter}
use Rattle.cps_ir.specs.Parts.{is_procedure}
use Rattle.unit_conversion.proofs.first_lams.count_globals.Given as goal

abbrev pub invariant-loop-global : goal.invariant-loop-global
invariant-loop-global l = (l.count ≤ l.global-index) × (l.count ≡ length (filter is_procedure (take l.global-index l.globals)))
