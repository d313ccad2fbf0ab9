use Rattle.lap_items.proofs.Distinct.{whole_can_move}
use Rattle.lap_items.proofs.laws.whole_can_move.Goals as goal

pub returns : goal.returns
returns c = whole_can_move
