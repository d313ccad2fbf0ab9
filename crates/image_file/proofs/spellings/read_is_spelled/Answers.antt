use Rattle.image_file.proofs.Whole.{whole_takes}
use Rattle.image_file.proofs.spellings.read_is_spelled.Goals as goal

pub returns : goal.returns
returns c = whole_takes
