use Rattle.frame_operations.proofs.Methods.{method_found, method_passed, default_taken, unhandled_fails}
use Rattle.frame_operations.proofs.Looking.{operation_looks, operation_of_none_fails}
use Rattle.frame_operations.proofs.laws.operations_look_at_methods.Goals as goal

pub returns-clause-look : goal.returns-clause-look
returns-clause-look c = operation_looks

pub returns-clause-none : goal.returns-clause-none
returns-clause-none c = operation_of_none_fails

pub returns-clause-found : goal.returns-clause-found
returns-clause-found c = method_found

pub returns-clause-passed : goal.returns-clause-passed
returns-clause-passed c = method_passed

pub returns-clause-defaults : goal.returns-clause-defaults
returns-clause-defaults c = default_taken

pub returns-clause-unhandled : goal.returns-clause-unhandled
returns-clause-unhandled c = unhandled_fails
