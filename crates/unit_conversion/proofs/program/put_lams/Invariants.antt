use Rattle.std.proofs.Common.{◌≡◌, ◌++◌}
use Rattle.unit_conversion.proofs.program.put_lams.Given as goal

abbrev pub invariant-loop-lam : goal.invariant-loop-lam
invariant-loop-lam l = l.lams.items ≡ l.fn.lams.items ++ l.yielded
