use Rattle.lap_simulation.proofs.Keeping.{emitted_keeps}
use Rattle.lap_entries.proofs.Ends.{ends_lead}
use Rattle.lap_entries.proofs.laws.emitted_items_keep.Goals as goal

pub returns : goal.returns
returns c = emitted_keeps ends_lead
