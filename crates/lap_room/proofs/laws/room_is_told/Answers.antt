use Rattle.lap_room.proofs.Telling.{room_is_told}
use Rattle.lap_room.proofs.laws.room_is_told.Goals as goal

pub returns : goal.returns
returns c = room_is_told
