use Rattle.image_file.proofs.Laws.{spelled_is_read}
use Rattle.image_file.proofs.spellings.spelled_is_read.Goals as goal

pub returns : goal.returns
returns c = spelled_is_read
