use Rattle.std.proofs.Common.{refl}
use Rattle.std.specs.Fmt.{digits}
use Rattle.rows_meaning.proofs.faults_of_builtins.Goals as goal

pub returns-clause-quotient_too_large : goal.returns-clause-quotient_too_large
unfolding digits
returns-clause-quotient_too_large c = λ alloc. refl
