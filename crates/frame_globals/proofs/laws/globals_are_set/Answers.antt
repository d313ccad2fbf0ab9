use Rattle.frame_globals.proofs.Globals.{global_is_set, global_is_changed, global_stays}
use Rattle.frame_globals.proofs.laws.globals_are_set.Goals as goal

pub returns-clause-first : goal.returns-clause-first
returns-clause-first c = global_is_set

pub returns-clause-changed : goal.returns-clause-changed
returns-clause-changed c = global_is_changed

pub returns-clause-unbound : goal.returns-clause-unbound
returns-clause-unbound c = global_stays
