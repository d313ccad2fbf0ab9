use Rattle.std.proofs.Common.{◌≡◌, ◌+◌, arith}
use Rattle.static_names.specs.Named.{fixed_of}
use Rattle.static_tables.proofs.Closing.{pair_step}
use Rattle.static_tables.proofs.gathering.add_pairs.Goals as goal

pub loop-k-preserved : goal.loop-k-preserved
loop-k-preserved c = pair_step c.args.frames.now _ _ c.loop-k.k c.loop-k.statics c.add_parts.new.statics c.requires.whole (let t = c.loop-k-test.true in omega (arith, t)) c.loop-k.invariant c.in_ok-add_parts.ensures
