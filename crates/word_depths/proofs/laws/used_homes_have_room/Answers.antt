use Rattle.word_depths.proofs.Rooms.{used_homes_have_room}
use Rattle.word_depths.proofs.laws.used_homes_have_room.Goals as goal

pub returns : goal.returns
returns c = used_homes_have_room
