use Rattle.std.proofs.Common.{sym, ◌∙◌}
use Rattle.core_size.proofs.PairSizes.{size_is}
use Rattle.core_size.proofs.sizes.const_size.Goals as goal

pub returns-clause-is : goal.returns-clause-is
returns-clause-is c pairs known =
    c.in_ok-few.ensures.0 ∙ size_is pairs c.args.sizes.now known c.args.c c.in_ok-size.size (sym c.in_ok-size.ensures)
