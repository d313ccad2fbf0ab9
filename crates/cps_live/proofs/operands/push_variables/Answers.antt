use Rattle.cps_live.proofs.Joined.{variables_more}
use Rattle.cps_live.proofs.operands.push_variables.Goals as goal

pub loop-arg-preserved : goal.loop-arg-preserved
loop-arg-preserved c = variables_more c.args.wanted.now.items c.loop-arg.wanted.items c.push_variable.new.wanted.items c.args.args.now c.loop-arg.arg-index _ c.loop-arg-test.true c.loop-arg.invariant c.in_ok-push_variable.ensures
