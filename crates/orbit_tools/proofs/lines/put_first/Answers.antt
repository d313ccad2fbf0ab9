use Rattle.std.proofs.Common.{arith}
use Rattle.m68020_code.proofs.Lengths.{spelling_words}
use Rattle.orbit_tools.proofs.lines.put_first.Goals as goal

pub returns-in_ok-put_row-in-Some-clause-even : goal.returns-in_ok-put_row-in-Some-clause-even
returns-in_ok-put_row-in-Some-clause-even c = omega (arith, (spelling_words c.in-Some.i).length, c.in-Some.ensures.found.1)
