use Rattle.std.proofs.Common.{refl}
use Rattle.std.specs.Fmt.{digits}
use Rattle.rows_meaning.proofs.results.output_before_a_wrong_call.Goals as goal

pub returns : goal.returns
unfolding digits
returns c = λ alloc. refl
