use Rattle.std.proofs.Common.{[], arith}
use Rattle.word_ir.specs.declared.placed.Home.TheVariants as home
use Rattle.lap_items.specs.Program.{single_move}
use Rattle.lap_emit.proofs.Pairs.{pairs_step, pairs_end}
use Rattle.lap_emit.proofs.moves.moves_between.Goals as goal

pub pairs-preserved : goal.pairs-preserved
pairs-preserved c = pairs_step single_move c.args.sources.now c.args.places.now c.pairs.n (home.D 0) (home.D 0) [] _ _ (omega arith) c.pairs.invariant c.in_ok-push_between.ensures

pub returns : goal.returns
returns c = pairs_end single_move c.args.sources.now c.args.places.now c.pairs.n [] _ (omega arith) c.pairs.invariant
