use Rattle.frame_things.proofs.Things.{cell_made, object_made}
use Rattle.frame_things.proofs.laws.things_are_made.Goals as goal

pub returns-clause-cells : goal.returns-clause-cells
returns-clause-cells c = cell_made

pub returns-clause-objects : goal.returns-clause-objects
returns-clause-objects c = object_made
