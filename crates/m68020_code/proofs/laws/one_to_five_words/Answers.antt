use Rattle.m68020_code.proofs.laws.one_to_five_words.Goals as goal
use Rattle.m68020_code.proofs.Lengths.{spelling_words}

pub returns : goal.returns
returns c i = let w = spelling_words i in (w.count, w.length, w.some, w.small)
