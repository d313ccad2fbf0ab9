use Rattle.cps_live.proofs.Joined.{ks_more}
use Rattle.cps_live.proofs.continuations.push_lambda_ks.Goals as goal

pub loop-l-preserved : goal.loop-l-preserved
loop-l-preserved c = ks_more c.args.cps.now c.args.ks.now.items c.loop-l.ks.items c.push_lambda_k.new.ks.items c.args.lams.now c.loop-l.l-index 0 c.loop-l-test.true c.loop-l.invariant c.in_ok-push_lambda_k.ensures
