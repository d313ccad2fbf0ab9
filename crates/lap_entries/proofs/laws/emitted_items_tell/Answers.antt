use Rattle.lap_simulation.proofs.Leaving.{left_is_told}
use Rattle.lap_entries.proofs.Ends.{ends_lead}
use Rattle.lap_entries.proofs.laws.emitted_items_tell.Goals as goal

pub returns : goal.returns
returns c = left_is_told ends_lead
