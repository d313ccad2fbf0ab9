use Rattle.orbit_tools.proofs.LineByLine.{row-is-listed}
use Rattle.orbit_tools.proofs.laws.each_row_is_listed.Goals as goal

pub returns : goal.returns
returns c = λ at i rest row. row-is-listed at i rest row
