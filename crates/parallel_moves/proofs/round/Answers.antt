use Rattle.parallel_moves.proofs.MoveLemmas.{goes_then}
use Rattle.parallel_moves.proofs.round.Goals as goal

pub returns-clause-goes_on : goal.returns-clause-goes_on
returns-clause-goes_on c = goes_then _ _ _ _ _ _ c.in_ok-left.ensures.goes_on c.in_ok-one_move.ensures.goes_on
