use Rattle.std.proofs.Common.{rules}
use Rattle.t_prim.proofs.folding.fold_one.Goals as goal

pub returns-in-Fix : goal.returns-in-Fix
returns-in-Fix c = λ s. let here = c.fold_number.ensures s in search rules
