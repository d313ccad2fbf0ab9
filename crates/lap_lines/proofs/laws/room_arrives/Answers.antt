use Rattle.lap_lines.proofs.Lines.{takes_arrive, pushes_arrive, pops_arrive, resets_arrive}
use Rattle.lap_lines.proofs.laws.room_arrives.Goals as goal

pub returns : goal.returns
returns c = record { takes = takes_arrive; pushes = pushes_arrive; pops = pops_arrive; resets = resets_arrive }
