use Rattle.t_reader.proofs.GrammarLaws.{reads_not_both as law}
use Rattle.t_reader.proofs.laws.not_both.Goals as goal

pub returns : goal.returns
returns c = law
