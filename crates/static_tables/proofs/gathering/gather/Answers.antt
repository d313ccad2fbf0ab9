use Rattle.std.proofs.Common.{◌∙◌}
use Rattle.static_tables.proofs.Closing.{first_stage}
use Rattle.static_tables.proofs.gathering.gather.Goals as goal

pub add_operations-requires-clause-before : goal.add_operations-requires-clause-before
add_operations-requires-clause-before c = first_stage c.args.frames.now c.in_ok-statics.statics c.add_all.new.self c.as_slice.result.now c.requires c.in_ok-statics.ensures.none (c.as_slice.ensures.value ∙ c.in_ok-things.ensures) c.in_ok-add_all.ensures
