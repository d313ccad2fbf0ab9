use Rattle.std.proofs.Common.{◌∙◌}
use Rattle.lap_emit.proofs.Writing.{adds_arguments}
use Rattle.lap_emit.proofs.moves.push_arguments.Goals as goal

pub returns : goal.returns
returns c =
    adds_arguments c.args.homes.now c.args.args.now c.args.places.now c.as_slice.result.now c.args.items.now.items c.push_at_once.new.items.items c.push_fills.new.items.items c.push_fills.result
    (c.as_slice.ensures.value ∙ c.in_ok-moves.ensures) c.in_ok-push_at_once.ensures c.push_fills.ensures
