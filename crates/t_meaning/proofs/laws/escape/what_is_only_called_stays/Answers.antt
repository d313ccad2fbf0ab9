use Rattle.t_meaning.proofs.EscapeLaws.{called_names_stay, called_lambdas_stay}
use Rattle.t_meaning.proofs.laws.escape.what_is_only_called_stays.Goals as goal

pub returns-clause-names : goal.returns-clause-names
returns-clause-names c = called_names_stay

pub returns-clause-lambdas : goal.returns-clause-lambdas
returns-clause-lambdas c = called_lambdas_stay
