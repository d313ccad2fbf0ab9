use Rattle.std.proofs.Common.{refl}
use Rattle.parallel_moves.proofs.MoveLemmas.{source_added, sources_all}
use Rattle.parallel_moves.proofs.sources_of.Goals as goal

pub moves-preserved : goal.moves-preserved
moves-preserved c = λ p. source_added c.args.moves.now c.moves.at _ p _ _ c.moves-test.true refl (c.moves.invariant p) (c.in_ok-add_source.ensures p)

pub returns : goal.returns
returns c = λ p. sources_all c.args.moves.now c.moves.at p _ c.moves-test.false (c.moves.invariant p)
