use Rattle.frame_methods.proofs.Methods.{method_performs, method_fails}
use Rattle.frame_methods.proofs.laws.methods_are_entered.Goals as goal

pub returns-clause-entries : goal.returns-clause-entries
returns-clause-entries c = method_performs

pub returns-clause-counts : goal.returns-clause-counts
returns-clause-counts c = method_fails
