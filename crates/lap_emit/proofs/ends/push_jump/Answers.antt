use Rattle.std.proofs.Common.{◌∙◌}
use Rattle.lap_emit.proofs.Writing.{adds_jump, arguments_for, jump_is_parallel}
use Rattle.lap_emit.proofs.ends.push_jump.Goals as goal

pub push_arguments-requires : goal.push_arguments-requires
push_arguments-requires c =
    jump_is_parallel c.args.placed.now c.args.block c.args.args.now c.as_slice.result.now c.as_slice-2.result.now c.as_slice.ensures.value (c.as_slice-2.ensures.value ∙ c.in_ok-places.ensures) c.requires.parallel

pub returns : goal.returns
returns c =
    adds_jump c.args.placed.now c.args.block c.args.args.now c.args.items.now.items c.push_arguments.new.items.items c.push_item.new.items.items c.push_item.result
    (arguments_for _ _ _ _ _ _ _ c.as_slice.ensures.value (c.as_slice-2.ensures.value ∙ c.in_ok-places.ensures) c.in_ok-push_arguments.ensures) c.push_item.ensures
