use Rattle.cps_ir.specs.Parts.{proc_of}
use Rattle.cps_order.proofs.Names.{kept_more}
use Rattle.cps_order.proofs.lambdas.push_args.Goals as goal

pub loop-arg-preserved : goal.loop-arg-preserved
loop-arg-preserved c = kept_more proc_of c.args.out.now.items c.loop-arg.out.items c.push_arg.new.out.items c.args.args.now c.loop-arg.arg-index _ c.loop-arg-test.true c.loop-arg.invariant c.in_ok-push_arg.ensures
