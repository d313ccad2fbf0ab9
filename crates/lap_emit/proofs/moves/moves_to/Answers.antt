use Rattle.std.proofs.Common.{[], arith}
use Rattle.word_ir.specs.declared.operands.Operand.TheVariants as operand
use Rattle.word_ir.specs.declared.placed.Home.TheVariants as home
use Rattle.lap_items.specs.Moves.{moving}
use Rattle.lap_emit.proofs.Pairs.{pairs_step, pairs_end}
use Rattle.lap_emit.proofs.moves.moves_to.Goals as goal

pub pairs-preserved : goal.pairs-preserved
pairs-preserved c = pairs_step (moving c.args.homes.now) c.args.args.now c.args.places.now c.pairs.n (operand.Var record { 0 = 0 }) (home.D 0) [] _ _ (omega arith) c.pairs.invariant c.in_ok-push_moving.ensures

pub returns : goal.returns
returns c = pairs_end (moving c.args.homes.now) c.args.args.now c.args.places.now c.pairs.n [] _ (omega arith) c.pairs.invariant
