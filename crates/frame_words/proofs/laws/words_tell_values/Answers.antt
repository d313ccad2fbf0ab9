use Rattle.frame_words.proofs.Identity.{words_tell}
use Rattle.frame_words.proofs.Values.{tag_is}
use Rattle.frame_words.proofs.laws.words_tell_values.Goals as goal

pub returns-clause-tags : goal.returns-clause-tags
returns-clause-tags c = tag_is

pub returns-clause-words : goal.returns-clause-words
returns-clause-words c = words_tell
