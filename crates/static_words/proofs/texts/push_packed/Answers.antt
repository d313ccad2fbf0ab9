use Rattle.static_words.proofs.Packing.{packed_more}
use Rattle.static_words.proofs.texts.push_packed.Goals as goal

pub loop-at-preserved : goal.loop-at-preserved
loop-at-preserved c = packed_more c.args.words.now.items c.loop-at.words.items c.push.new.self.items c.args.bytes.now c.loop-at.at _ c.packed_at.result c.loop-at-test.true c.packed_at.ensures c.in_ok-at.ensures c.loop-at.invariant c.in_ok-push.ensures.items
