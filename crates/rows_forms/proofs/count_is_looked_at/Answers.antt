use Rattle.std.proofs.Common.{refl}
use Rattle.cps_ir.specs.Parts.{walked_within}
use Rattle.rows_forms.proofs.count_is_looked_at.Goals as goal

pub returns : goal.returns
unfolding walked_within
returns c = λ alloc. refl
