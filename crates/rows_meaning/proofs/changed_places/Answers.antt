use Rattle.std.proofs.Common.{refl}
use Rattle.std.specs.Fmt.{digits}
use Rattle.rows_meaning.proofs.changed_places.Goals as goal

pub returns-clause-changed_vector : goal.returns-clause-changed_vector
unfolding digits
returns-clause-changed_vector c = λ alloc. refl
