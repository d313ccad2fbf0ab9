use Rattle.t_meaning.proofs.CatchLemmas.{tasks_stay_inside, unit_stays_inside, ends_are_proper}
use Rattle.t_meaning.proofs.laws.escapes_stay_inside.Goals as goal

pub returns-clause-tasks : goal.returns-clause-tasks
returns-clause-tasks c = tasks_stay_inside

pub returns-clause-units : goal.returns-clause-units
returns-clause-units c = unit_stays_inside

pub returns-clause-proper : goal.returns-clause-proper
returns-clause-proper c = ends_are_proper
