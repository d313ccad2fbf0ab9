use Rattle.std.proofs.Common.{◌≡◌, ◌+◌, arith}
use Rattle.static_names.specs.Named.{fixed_of}
use Rattle.static_tables.proofs.Closing.{symbol_step}
use Rattle.static_tables.proofs.gathering.add_print_names.Goals as goal

pub loop-n-preserved : goal.loop-n-preserved
loop-n-preserved c = symbol_step c.args.frames.now _ c.loop-n.n c.loop-n.statics c.add_parts.new.statics c.requires.whole c.loop-n.invariant c.in_ok-add_parts.ensures
