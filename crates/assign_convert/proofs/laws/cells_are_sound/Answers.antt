use Rattle.assign_convert.proofs.Sound.{cells_are_sound}
use Rattle.assign_convert.proofs.laws.cells_are_sound.Goals as goal

pub returns : goal.returns
returns c = cells_are_sound
