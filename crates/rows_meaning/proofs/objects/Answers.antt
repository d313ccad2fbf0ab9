use Rattle.std.proofs.Common.{refl}
use Rattle.std.specs.Fmt.{digits}
use Rattle.rows_meaning.proofs.objects.Goals as goal

pub returns-clause-areas : goal.returns-clause-areas
unfolding digits
returns-clause-areas c = λ alloc. refl

pub returns-clause-settable : goal.returns-clause-settable
unfolding digits
returns-clause-settable c = λ alloc. refl

pub returns-clause-locative_once : goal.returns-clause-locative_once
unfolding digits
returns-clause-locative_once c = λ alloc. refl
