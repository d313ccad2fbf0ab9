use Rattle.conversion_loads.proofs.Forms.{loads_are_few}
use Rattle.conversion_loads.proofs.loads_are_few.Goals as goal

pub returns : goal.returns
returns c = loads_are_few
