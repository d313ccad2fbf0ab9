use Rattle.frame_words.proofs.Growing.{words_stay, data_grow}
use Rattle.frame_words.proofs.laws.more_is_held.Goals as goal

pub returns-clause-words : goal.returns-clause-words
returns-clause-words c = words_stay

pub returns-clause-data_held : goal.returns-clause-data_held
returns-clause-data_held c = data_grow
