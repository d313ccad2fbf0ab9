use Rattle.std.proofs.Common.{◌∙◌}
use Rattle.lap_emit.proofs.Writing.{adds_block}
use Rattle.lap_emit.proofs.program.push_block.Goals as goal

pub returns : goal.returns
returns c =
    adds_block c.args.placed.now c.args.b c.args.block.now c.as_slice.result.now c.as_slice-2.result.now c.as_slice-3.result.now
    c.args.items.now.items c.push_item.new.items.items c.push_at_once.new.items.items c.push_ops.new.items.items c.push_end.new.items.items c.push_end.result
    c.in_ok-push_item.ensures (c.as_slice.ensures.value ∙ c.in_ok-moves.ensures) c.in_ok-push_at_once.ensures c.as_slice-2.ensures.value c.as_slice-3.ensures.value c.in_ok-push_ops.ensures c.push_end.ensures
