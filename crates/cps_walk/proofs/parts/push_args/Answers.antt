use Rattle.cps_walk.proofs.Joined.{bodies_in_more}
use Rattle.cps_walk.proofs.parts.push_args.Goals as goal

pub loop-arg-preserved : goal.loop-arg-preserved
loop-arg-preserved c = bodies_in_more c.args.cps.now c.args.waiting.now.items c.loop-arg.waiting.items c.push_arg.new.waiting.items c.args.args.now c.loop-arg.arg-index _ c.loop-arg-test.true c.loop-arg.invariant c.in_ok-push_arg.ensures
