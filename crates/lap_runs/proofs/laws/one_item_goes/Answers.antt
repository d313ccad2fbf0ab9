use Rattle.lap_runs.proofs.Going.{one_goes, address_goes, branch_goes}
use Rattle.lap_runs.proofs.laws.one_item_goes.Goals as goal

pub returns : goal.returns
returns c = record { one = one_goes; address = address_goes; branch = branch_goes }
