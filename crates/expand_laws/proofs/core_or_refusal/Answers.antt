use Rattle.expand_laws.proofs.CoresMade.{core_or_refusal}
use Rattle.expand_laws.proofs.core_or_refusal.Goals as goal

pub returns : goal.returns
returns c = core_or_refusal
