use Rattle.cps_live.proofs.MarkLemmas.{fewer_marked}
use Rattle.cps_live.proofs.number_set.unmark_all.Goals as goal

pub loop-n-preserved : goal.loop-n-preserved
loop-n-preserved c = fewer_marked c.args.marks.now.items c.loop-n.marks.items c.unmark.new.marks.items c.args.numbers.now c.loop-n.n-index 0 c.loop-n-test.true c.loop-n.invariant c.unmark.ensures
