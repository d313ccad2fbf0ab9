use Rattle.word_trees.proofs.Operations.{move_steps, load_steps, load_byte_steps, store_steps}
use Rattle.word_trees.proofs.laws.words_lead.Goals as goal

pub returns-clause-moves : goal.returns-clause-moves
returns-clause-moves c = move_steps

pub returns-clause-loads : goal.returns-clause-loads
returns-clause-loads c = load_steps

pub returns-clause-bytes : goal.returns-clause-bytes
returns-clause-bytes c = load_byte_steps

pub returns-clause-stores : goal.returns-clause-stores
returns-clause-stores c = store_steps
