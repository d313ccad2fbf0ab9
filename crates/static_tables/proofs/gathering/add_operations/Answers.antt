use Rattle.std.proofs.Common.{◌≡◌, ◌+◌, arith}
use Rattle.static_names.specs.Named.{fixed_of}
use Rattle.static_tables.proofs.Closing.{template_step}
use Rattle.static_tables.proofs.gathering.add_operations.Goals as goal

pub loop-t-preserved : goal.loop-t-preserved
loop-t-preserved c = template_step c.args.frames.now c.loop-t.t _ c.loop-t.statics c.add_parts.new.statics c.requires.whole c.loop-t.invariant c.in_ok-add_parts.ensures
