use Rattle.t_reader.proofs.GrammarLaws.{reading_or_fault as law}
use Rattle.t_reader.proofs.laws.reading_or_fault.Goals as goal

pub returns : goal.returns
returns c = law
