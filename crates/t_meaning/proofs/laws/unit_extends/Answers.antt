use Rattle.t_meaning.proofs.BoundTasks.{unit_extends, meaning_is_steady, meaning_waits}
use Rattle.t_meaning.proofs.laws.unit_extends.Goals as goal

pub returns-clause-outcome : goal.returns-clause-outcome
returns-clause-outcome c = unit_extends

pub returns-clause-steady : goal.returns-clause-steady
returns-clause-steady c = meaning_is_steady

pub returns-clause-waits : goal.returns-clause-waits
returns-clause-waits c = meaning_waits
