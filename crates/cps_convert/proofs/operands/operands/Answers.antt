use Rattle.cps_convert.proofs.Listing.{operands_step}
use Rattle.cps_convert.proofs.operands.operands.Goals as goal

pub keys-preserved : goal.keys-preserved
keys-preserved c = λ marks.
    operands_step c.args.unit.now c.args.form c.args.made.now c.keys.made c.operand.new.made c.args.keys.now c.keys.key-index _ c.keys.args.items c.push.new.self.items c.in_ok-arg.arg c.args.jobs.now.items
    c.keys.jobs.items c.operand.new.jobs.items c.keys-test.true (c.keys.invariant marks) (c.in_ok-arg.ensures marks) c.in_ok-push.ensures.items
