use Rattle.static_tables.proofs.AddLemmas.{adds_more}
use Rattle.static_tables.proofs.statics.Statics.add_all.Goals as goal

pub loop-thing-preserved : goal.loop-thing-preserved
loop-thing-preserved c = adds_more c.args.frames.now c.args.self.now c.loop-thing.self c.add.new.self c.args.things.now c.loop-thing.thing-index _ c.loop-thing-test.true c.loop-thing.invariant c.in_ok-add.ensures
