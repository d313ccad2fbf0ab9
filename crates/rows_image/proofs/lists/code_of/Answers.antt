use Rattle.std.proofs.Common.{arith, refl}
use Rattle.rows_image.proofs.Listed.{can_assemble}
use Rattle.rows_image.proofs.lists.code_of.Goals as goal

pub assemble-requires : goal.assemble-requires
assemble-requires c = can_assemble c.args.labels c.args.items.now (c.if-not-is_listed.ensures refl) (omega (arith, c.if-items.false))
