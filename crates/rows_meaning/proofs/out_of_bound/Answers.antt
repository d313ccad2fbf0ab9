use Rattle.std.proofs.Common.{refl}
use Rattle.std.specs.Fmt.{digits}
use Rattle.rows_meaning.proofs.out_of_bound.Goals as goal

pub returns-clause-areas : goal.returns-clause-areas
unfolding digits
returns-clause-areas c = λ alloc. refl
