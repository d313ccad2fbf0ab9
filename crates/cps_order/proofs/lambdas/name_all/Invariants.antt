use Rattle.std.proofs.Common.{take}
use Rattle.std.specs.List.{flat_map}
use Rattle.cps_ir.specs.Parts.{lams_of}
use Rattle.cps_order.specs.Order.{AreNamed}
use Rattle.cps_order.proofs.lambdas.name_all.Given as goal

abbrev pub invariant-terms : goal.invariant-terms
invariant-terms l = AreNamed l.count (flat_map lams_of (take l.term-index l.terms)) l.fn.marks.items l.marks.items
