use Rattle.word_scopes.proofs.Served.{variables_have_words}
use Rattle.word_scopes.proofs.laws.variables_have_words.Goals as goal

pub returns : goal.returns
returns c = variables_have_words
