use Rattle.word_depths.proofs.Standing.{blocks_are_deep}
use Rattle.word_depths.proofs.laws.blocks_are_deep.Goals as goal

pub returns : goal.returns
returns c = blocks_are_deep
