use Rattle.word_depths.proofs.Depths.{lines_keep_depth}
use Rattle.word_depths.proofs.laws.lines_keep_depth.Goals as goal

pub returns : goal.returns
returns c = lines_keep_depth
