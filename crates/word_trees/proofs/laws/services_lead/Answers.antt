use Rattle.word_trees.proofs.Operations.{put_steps, service_ends, service_of_two_ends}
use Rattle.word_trees.proofs.laws.services_lead.Goals as goal

pub returns-clause-puts : goal.returns-clause-puts
returns-clause-puts c = put_steps

pub returns-clause-ends : goal.returns-clause-ends
returns-clause-ends c = service_ends

pub returns-clause-of_two : goal.returns-clause-of_two
returns-clause-of_two c = service_of_two_ends
