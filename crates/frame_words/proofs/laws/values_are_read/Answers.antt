use Rattle.frame_words.proofs.Texts.{text_held}
use Rattle.frame_words.proofs.Values.{header_is, pair_is, vector_is, text_is, symbol_is}
use Rattle.frame_words.proofs.laws.values_are_read.Goals as goal

pub returns-clause-headers : goal.returns-clause-headers
returns-clause-headers c = header_is

pub returns-clause-pairs : goal.returns-clause-pairs
returns-clause-pairs c = pair_is

pub returns-clause-vectors : goal.returns-clause-vectors
returns-clause-vectors c = vector_is

pub returns-clause-texts : goal.returns-clause-texts
returns-clause-texts c = text_is

pub returns-clause-symbols : goal.returns-clause-symbols
returns-clause-symbols c = symbol_is

pub returns-clause-bytes : goal.returns-clause-bytes
returns-clause-bytes c = text_held
