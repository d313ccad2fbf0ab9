use Rattle.image_file.proofs.Laws.{one_image}
use Rattle.image_file.proofs.spellings.one_image.Goals as goal

pub returns : goal.returns
returns c = one_image
