use Rattle.machine_services.proofs.Steps.{observed_is_machine, observed_goes_on, observed_counts}
use Rattle.machine_services.proofs.laws.observed_runs_go_on.Goals as goal

pub returns-clause-same : goal.returns-clause-same
returns-clause-same c = observed_is_machine

pub returns-clause-goes_on : goal.returns-clause-goes_on
returns-clause-goes_on c = observed_goes_on

pub returns-clause-counts : goal.returns-clause-counts
returns-clause-counts c = observed_counts
