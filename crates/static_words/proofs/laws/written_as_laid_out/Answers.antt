use Rattle.static_words.proofs.Written.{written_as_laid_out}
use Rattle.static_words.proofs.laws.written_as_laid_out.Goals as goal

pub returns : goal.returns
returns c = written_as_laid_out
