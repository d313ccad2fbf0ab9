use Rattle.std.proofs.Common.{arith}
use Rattle.cps_convert.proofs.Listing.{lets_step}
use Rattle.cps_convert.proofs.operands.let_operands.Goals as goal

pub vars-preserved : goal.vars-preserved
vars-preserved c = record {
  within = omega (arith, c.vars-test.true);
  inside = omega (arith, c.if-at-keys.true);
  added = λ marks.
      lets_step c.args.unit.now c.args.form c.args.made.now c.vars.made c.let_operand.new.made c.args.vars.now c.args.keys.now c.vars.at _ _ c.vars.args.items c.push.new.self.items c.in_ok-arg.arg
      c.args.jobs.now.items c.vars.jobs.items c.let_operand.new.jobs.items c.vars-test.true c.if-at-keys.true (c.vars.invariant.added marks) (c.in_ok-arg.ensures marks) c.in_ok-push.ensures.items;
}
