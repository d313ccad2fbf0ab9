use Rattle.std.proofs.Common.{◌^◌, take}
use Rattle.std.specs.List.{flat_map}
use Rattle.cps_ir.specs.Parts.{lam_binders}
use Rattle.cps_order.specs.Order.{AreNamed}
use Rattle.cps_order.proofs.binders.bind_lams.Given as goal

abbrev pub invariant-lams : goal.invariant-lams
invariant-lams l = AreNamed (2 ^ 32) (flat_map lam_binders (take l.lam-index l.lams)) l.fn.marks.items l.marks.items
