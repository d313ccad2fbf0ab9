use Rattle.frame_dispatch.proofs.Headers.{builtin_applied, not_procedure_fails}
use Rattle.frame_dispatch.proofs.laws.calls_look_at_headers.Goals as goal

pub returns-clause-builtins : goal.returns-clause-builtins
returns-clause-builtins c = builtin_applied

pub returns-clause-not_procedures : goal.returns-clause-not_procedures
returns-clause-not_procedures c = not_procedure_fails
