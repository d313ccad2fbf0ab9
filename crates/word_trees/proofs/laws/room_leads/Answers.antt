use Rattle.word_trees.proofs.Operations.{take_steps, take_turns, push_steps, push_turns, pop_steps, reset_steps}
use Rattle.word_trees.proofs.laws.room_leads.Goals as goal

pub returns-clause-takes : goal.returns-clause-takes
returns-clause-takes c = take_steps

pub returns-clause-no_heap : goal.returns-clause-no_heap
returns-clause-no_heap c = take_turns

pub returns-clause-pushes : goal.returns-clause-pushes
returns-clause-pushes c = push_steps

pub returns-clause-no_stack : goal.returns-clause-no_stack
returns-clause-no_stack c = push_turns

pub returns-clause-pops : goal.returns-clause-pops
returns-clause-pops c = pop_steps

pub returns-clause-resets : goal.returns-clause-resets
returns-clause-resets c = reset_steps
