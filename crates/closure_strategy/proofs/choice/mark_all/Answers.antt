use Rattle.closure_strategy.proofs.Chosen.{marked_more}
use Rattle.closure_strategy.proofs.choice.mark_all.Goals as goal

pub loop-place-preserved : goal.loop-place-preserved
loop-place-preserved c = marked_more c.args.places.now c.loop-place.place-index 0 c.args.marks.now.items c.loop-place.marks.items c.mark.new.marks.items c.loop-place-test.true c.loop-place.invariant c.in_ok-mark.ensures
