use Rattle.std.proofs.Common.{◌≡◌, ◌++◌, map}
use Rattle.unit_conversion.specs.Parts.{lam_of}
use Rattle.unit_conversion.proofs.program.put_procedures.Given as goal

abbrev pub invariant-loop-procedure : goal.invariant-loop-procedure
invariant-loop-procedure l = l.lams.items ≡ l.fn.lams.items ++ map lam_of l.yielded
