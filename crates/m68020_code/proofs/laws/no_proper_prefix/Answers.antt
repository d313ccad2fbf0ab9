use Rattle.m68020_code.proofs.laws.no_proper_prefix.Goals as goal
use Rattle.m68020_code.proofs.Spellings.{no_proper_prefix}

pub returns : goal.returns
returns c = no_proper_prefix
