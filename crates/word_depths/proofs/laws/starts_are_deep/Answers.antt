use Rattle.word_depths.proofs.Starts.{starts_are_deep}
use Rattle.word_depths.proofs.laws.starts_are_deep.Goals as goal

pub returns : goal.returns
returns c = starts_are_deep
