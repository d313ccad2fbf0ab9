use Rattle.lap_lines.proofs.Lines.{sums_arrive, shifts_arrive}
use Rattle.lap_lines.proofs.laws.sums_arrive.Goals as goal

pub returns : goal.returns
returns c = record { sums = sums_arrive; shifts = shifts_arrive }
