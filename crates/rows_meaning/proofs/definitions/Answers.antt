use Rattle.std.proofs.Common.{refl}
use Rattle.std.specs.Fmt.{digits}
use Rattle.rows_meaning.proofs.definitions.Goals as goal

pub returns-clause-late_procedure : goal.returns-clause-late_procedure
unfolding digits
returns-clause-late_procedure c = λ alloc. refl

pub returns-clause-early_set : goal.returns-clause-early_set
unfolding digits
returns-clause-early_set c = λ alloc. refl

pub returns-clause-bump : goal.returns-clause-bump
unfolding digits
returns-clause-bump c = λ alloc. refl
