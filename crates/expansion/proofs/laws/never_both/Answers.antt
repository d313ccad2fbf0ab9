use Rattle.expansion.proofs.NoTwice.{never_both}
use Rattle.expansion.proofs.laws.never_both.Goals as goal

pub returns : goal.returns
returns c trees unit spans r core refused = never_both trees unit spans r core refused
