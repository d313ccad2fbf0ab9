use Rattle.word_trees.proofs.Operations.{compute_steps, compute_turns}
use Rattle.word_trees.proofs.laws.arithmetic_leads.Goals as goal

pub returns-clause-results : goal.returns-clause-results
returns-clause-results c = compute_steps

pub returns-clause-over : goal.returns-clause-over
returns-clause-over c = compute_turns
