use Rattle.cps_walk.proofs.Joined.{bodies_more}
use Rattle.cps_walk.proofs.parts.push_lambdas.Goals as goal

pub loop-l-preserved : goal.loop-l-preserved
loop-l-preserved c = bodies_more c.args.cps.now c.args.waiting.now.items c.loop-l.waiting.items c.push_lambda.new.waiting.items c.args.lams.now c.loop-l.l-index _ c.loop-l-test.true c.loop-l.invariant c.in_ok-push_lambda.ensures
