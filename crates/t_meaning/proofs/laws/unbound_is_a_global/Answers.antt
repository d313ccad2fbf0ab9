use Rattle.t_meaning.proofs.SoundTasks.{tasks_keep_sound}
use Rattle.t_meaning.proofs.SoundUnits.{definitions_are_procedures, start_is_sound, unit_keeps_sound, unbound_is_a_global}
use Rattle.t_meaning.proofs.laws.unbound_is_a_global.Goals as goal

pub returns-clause-definitions : goal.returns-clause-definitions
returns-clause-definitions c = definitions_are_procedures

pub returns-clause-start : goal.returns-clause-start
returns-clause-start c = start_is_sound

pub returns-clause-tasks : goal.returns-clause-tasks
returns-clause-tasks c = tasks_keep_sound

pub returns-clause-units : goal.returns-clause-units
returns-clause-units c = unit_keeps_sound

pub returns-clause-unbound : goal.returns-clause-unbound
returns-clause-unbound c = unbound_is_a_global
