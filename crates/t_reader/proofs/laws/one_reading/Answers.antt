use Rattle.t_reader.proofs.GrammarLaws.{reads_once as law}
use Rattle.t_reader.proofs.laws.one_reading.Goals as goal

pub returns : goal.returns
returns c = law
