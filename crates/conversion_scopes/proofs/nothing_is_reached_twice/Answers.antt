use Rattle.conversion_scopes.proofs.Once.{named_once, bound_once}
use Rattle.conversion_scopes.proofs.nothing_is_reached_twice.Goals as goal

pub returns-clause-terms : goal.returns-clause-terms
returns-clause-terms c = named_once

pub returns-clause-variables : goal.returns-clause-variables
returns-clause-variables c cps owed = bound_once cps owed.ordered owed
