use Rattle.std.proofs.Common.{rules}
use Rattle.t_prim.proofs.folding.fold_two.Goals as goal

pub returns-in-Fix-Fix : goal.returns-in-Fix-Fix
returns-in-Fix-Fix c = λ s. let here = c.fold_numbers.ensures s in search rules
