use Rattle.std.proofs.Common.{◌*◌}
use Rattle.rows_core.specs.Units.{HaveAtMost}
use Rattle.rows_core.proofs.units.lambda_forms.Given as goal

abbrev pub invariant-loop-n : goal.invariant-loop-n
invariant-loop-n g l = HaveAtMost (l.n-index * 10010) l.forms.items
