use Rattle.std.proofs.Common.{refl, lit≤}
use Rattle.escape_marks.specs.Rounds.{repeated}
use Rattle.t_meaning.specs.EscapeFacts.{free_within}
use Rattle.rows_escape.specs.Units as units
use Rattle.rows_escape.proofs.Rounds.{from_round}
use Rattle.rows_escape.proofs.rows.where_lambdas_stay.Goals as goal

pub returns-clause-down : goal.returns-clause-down
unfolding repeated free_within
returns-clause-down c = from_round 3 units.passed_down (lit≤ tt) refl

pub returns-clause-free : goal.returns-clause-free
unfolding repeated free_within
returns-clause-free c = from_round 3 units.passed_with_free_variable (lit≤ tt) refl

pub returns-clause-called : goal.returns-clause-called
unfolding repeated free_within
returns-clause-called c = from_round 3 units.called_in_a_loop (lit≤ tt) refl

pub returns-clause-escape : goal.returns-clause-escape
unfolding repeated free_within
returns-clause-escape c = from_round 3 units.escape_in_a_lambda (lit≤ tt) refl
