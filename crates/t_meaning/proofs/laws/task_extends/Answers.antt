use Rattle.t_meaning.proofs.BoundTasks.{task_adds, task_extends}
use Rattle.t_meaning.proofs.laws.task_extends.Goals as goal

pub returns-clause-adds : goal.returns-clause-adds
returns-clause-adds c = task_adds

pub returns-clause-extends : goal.returns-clause-extends
returns-clause-extends c = task_extends
