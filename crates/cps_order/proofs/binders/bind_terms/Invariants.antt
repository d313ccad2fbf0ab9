use Rattle.std.proofs.Common.{◌^◌, take}
use Rattle.std.specs.List.{flat_map}
use Rattle.cps_ir.specs.Parts.{own_binders}
use Rattle.cps_order.specs.Order.{AreNamed}
use Rattle.cps_order.proofs.binders.bind_terms.Given as goal

abbrev pub invariant-terms : goal.invariant-terms
invariant-terms l = AreNamed (2 ^ 32) (flat_map own_binders (take l.term-index l.terms)) l.fn.marks.items l.marks.items
