use Rattle.lap_whole.proofs.Lines.{lines_usable, operations_operable}
use Rattle.lap_whole.proofs.laws.lines_usable.Goals as goal

pub returns : goal.returns
returns c = record { lines = lines_usable; operations = operations_operable }
