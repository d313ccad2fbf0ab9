use Rattle.std.proofs.Common.{refl}
use Rattle.std.specs.Fmt.{digits}
use Rattle.rows_meaning.proofs.calls.Goals as goal

pub returns-clause-no_procedure : goal.returns-clause-no_procedure
unfolding digits
returns-clause-no_procedure c = λ alloc. refl

pub returns-clause-operator_first : goal.returns-clause-operator_first
unfolding digits
returns-clause-operator_first c = λ alloc. refl

pub returns-clause-too_many_operands : goal.returns-clause-too_many_operands
unfolding digits
returns-clause-too_many_operands c = λ alloc. refl

pub returns-clause-values_in_order : goal.returns-clause-values_in_order
unfolding digits
returns-clause-values_in_order c = λ alloc. refl
