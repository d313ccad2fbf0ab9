use Rattle.std.proofs.Common.{refl, lit≤}
use Rattle.escape_marks.specs.Rounds.{repeated}
use Rattle.t_meaning.specs.EscapeFacts.{free_within}
use Rattle.rows_escape.specs.Units as units
use Rattle.rows_escape.proofs.Rounds.{from_round}
use Rattle.rows_escape.proofs.rows.where_lambdas_escape.Goals as goal

pub returns-clause-tail : goal.returns-clause-tail
unfolding repeated free_within
returns-clause-tail c = from_round 3 units.passed_by_a_tail_call (lit≤ tt) refl

pub returns-clause-known : goal.returns-clause-known
unfolding repeated free_within
returns-clause-known c = from_round 3 units.reached_by_a_known_name (lit≤ tt) refl

pub returns-clause-operand : goal.returns-clause-operand
unfolding repeated free_within
returns-clause-operand c = from_round 3 units.operand_of_a_lambda (lit≤ tt) refl

pub returns-clause-method : goal.returns-clause-method
unfolding repeated free_within
returns-clause-method c = from_round 3 units.reached_by_a_method (lit≤ tt) refl

pub returns-clause-name : goal.returns-clause-name
unfolding repeated free_within
returns-clause-name c = from_round 3 units.name_passed (lit≤ tt) refl

pub returns-clause-past : goal.returns-clause-past
unfolding repeated free_within
returns-clause-past c = from_round 3 units.past_the_parameters (lit≤ tt) refl

pub returns-clause-assigned : goal.returns-clause-assigned
unfolding repeated free_within
returns-clause-assigned c = from_round 2 units.assigned_name (lit≤ tt) refl
