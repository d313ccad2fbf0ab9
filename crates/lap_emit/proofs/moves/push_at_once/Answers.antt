use Rattle.lap_emit.proofs.Writing.{adds_moves}
use Rattle.lap_emit.proofs.moves.push_at_once.Goals as goal

pub returns : goal.returns
returns c =
    adds_moves c.args.moves.now c.in_ok-done.done.items c.as_slice.result.now c.args.items.now.items c.push_moved.new.items.items c.push_moved.result c.as_slice.ensures.value
    (record { effect = c.in_ok-done.ensures.effect; places = c.in_ok-done.ensures.places; few = c.in_ok-done.ensures.few }) c.push_moved.ensures
