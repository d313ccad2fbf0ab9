use Rattle.lap_runs.proofs.Going.{none_goes, goes_then}
use Rattle.lap_runs.proofs.laws.runs_add_up.Goals as goal

pub returns : goal.returns
returns c = record { none = none_goes; next = goes_then }
