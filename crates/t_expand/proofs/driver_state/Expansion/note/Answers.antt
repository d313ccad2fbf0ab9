use Rattle.t_expand.proofs.FirstLemmas.{first_of_is}
use Rattle.t_expand.proofs.driver_state.Expansion.note.Goals as goal

pub returns-clause-first : goal.returns-clause-first
returns-clause-first c = first_of_is c.args.self.now.first c.args.refusals.now c.noted-self.result c.noted-self.ensures
