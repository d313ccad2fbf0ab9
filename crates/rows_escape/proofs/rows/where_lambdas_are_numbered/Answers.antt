use Rattle.std.proofs.Common.{refl}
use Rattle.escape_marks.specs.Rounds.{repeated}
use Rattle.rows_escape.proofs.rows.where_lambdas_are_numbered.Goals as goal

pub returns-clause-kept : goal.returns-clause-kept
unfolding repeated
returns-clause-kept c = refl

pub returns-clause-tail : goal.returns-clause-tail
unfolding repeated
returns-clause-tail c = refl
