use Rattle.cps_live.proofs.Joined.{procs_more}
use Rattle.cps_live.proofs.operands.push_procs.Goals as goal

pub loop-arg-preserved : goal.loop-arg-preserved
loop-arg-preserved c = procs_more c.args.lams.now.items c.loop-arg.lams.items c.push_proc.new.lams.items c.args.args.now c.loop-arg.arg-index _ c.loop-arg-test.true c.loop-arg.invariant c.in_ok-push_proc.ensures
