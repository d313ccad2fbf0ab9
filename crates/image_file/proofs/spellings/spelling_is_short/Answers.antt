use Rattle.image_file.proofs.Laws.{spelling_short}
use Rattle.image_file.proofs.spellings.spelling_is_short.Goals as goal

pub returns : goal.returns
returns c = spelling_short
