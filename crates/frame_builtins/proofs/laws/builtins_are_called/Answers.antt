use Rattle.frame_builtins.proofs.Entries.{builtin_called, fault_ends}
use Rattle.frame_builtins.proofs.laws.builtins_are_called.Goals as goal

pub returns-clause-values : goal.returns-clause-values
returns-clause-values c = builtin_called

pub returns-clause-faults : goal.returns-clause-faults
returns-clause-faults c = fault_ends
