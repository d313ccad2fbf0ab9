use Rattle.lap_entries.proofs.Ends.{ends_lead}
use Rattle.lap_entries.proofs.laws.ends_lead.Goals as goal

pub returns : goal.returns
returns c = ends_lead
