use Rattle.std.proofs.Common.{◌≡◌, false, take}
use Rattle.cps_ir.specs.Reaches.{is_in}
use Rattle.layout_relation.specs.Laid.{numbers}
use Rattle.layout_tables.proofs.scopes.names.Given as goal

abbrev pub invariant-loop-other : goal.invariant-loop-other
invariant-loop-other l = is_in (numbers (take l.other-index l.vars)) l.var.0 ≡ false
