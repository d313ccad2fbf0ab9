use Rattle.image_file.proofs.Laws.{one_spelling}
use Rattle.image_file.proofs.spellings.one_spelling.Goals as goal

pub returns : goal.returns
returns c = one_spelling
